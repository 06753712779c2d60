-- Whatever contents are chosen for blocks that may hold calls, there is an edit that sends them, and every other node as it is.
use Rattle.std.proofs.Common.{◌≡◌, ℕ, zero, suc, Option, Some, None, List, [], ◌∷◌, map, sym, ap, ◌∙◌, subst}
use Rattle.wt_tree.specs.Tree.{Tree, tree, Trees, none, more, label}
use Rattle.wt_checks.specs.Kept.{children}
use Rattle.wt_expand.specs.Work.{Pages}
use Rattle.wt_part_laws.specs.TreeFrames.{TreeFrames}
use Rattle.wt_typed_blocks.specs.Sent.{Block, kind_of, Sents}
use Rattle.wt_typed_blocks.specs.Edited.{Pieces, page_pieces, Edited, stays, edited, round, Edits, no_edits, more_edits, page_node, page_nodes, AreEdited}
use Rattle.wt_typed_blocks.proofs.AsEdits.{as_edits, pages_are, are_edited}
use Rattle.wt_text_edit_laws.specs.BlockSpots.{BlockSpot}
use Rattle.wt_text_edit_laws.specs.TextBlocks.{TextBlock, block_of}
use Rattle.wt_called_edit_laws.specs.AnyBlocks.{typed_by, AllLead}
use Rattle.wt_called_edit_laws.specs.CalledBlocks.{counted}
use Rattle.wt_called_edit_laws.specs.CallingContents.{FitsIn, IfSent, AreFittingIn, FitChosenIn, AllFitChosenIn, HasContentEditsIn}
use Rattle.wt_called_edit_laws.specs.ChosenContents.{Choice, past_first, AreOfNodes, IsChosenAt, AreChosenIn}
use Rattle.wt_called_edit_laws.specs.EditsAt.{edited_at, edited_among, edited_by, AllEditOnly}
use Rattle.wt_called_edit_laws.specs.OwnTexts.{AreTypings}
use Rattle.wt_called_edit_laws.specs.PathsTo.{paths_to}
use Rattle.wt_called_edit_laws.specs.SettledAt.{IsSettledAt, AllSettled}
use Rattle.wt_called_edit_laws.specs.TreeEdits.{IsNumberedBody, IsEditOf, own_edit}
use Rattle.wt_called_edit_laws.proofs.Cells.Nodes.{same_inside}
use Rattle.wt_called_edit_laws.proofs.Cells.Equal.{same_first, same_rest, same_block}
use Rattle.wt_called_edit_laws.proofs.OwnContents.{with_chosen, by_changed, all_changed, same_all, all_edited, all_only, emptied, Agree, agree_by, all_chosen, spot_typed}
use Rattle.wt_called_edit_laws.proofs.OwnEdits.{own_edits}
use Rattle.wt_called_edit_laws.proofs.SettledEdits.{there_by, settled_moved, HaveKinds, kind_there, all_lead}
use Rattle.wt_called_edit_laws.proofs.TextContents.{all_only as texts_only}

-- ---- of which nodes the chosen pieces are

abbrev IsOfNodes : Option Pieces → Edited → Type 0
IsOfNodes c (stays t u) = Unit {0}
IsOfNodes c (edited j l m ps) = AreOfNodes c (page_pieces ps)
IsOfNodes c (round l m es) = Unit {0}

mutual
  nodes_to : (at : Choice) (p : List ℕ) (t : Tree) (e : Edited) → page_node e ≡ t → IsChosenAt at t → IfSent (IsOfNodes (at p)) (edited_at p e)
  nodes_to at p t (stays x u) is h = tt
  nodes_to at [] (tree n ts) (edited j l m ps) is h =
      subst (AreOfNodes (at [])) (sym (same_inside (record l { kind = kind_of j }) n (page_pieces ps) ts is)) h.0
  nodes_to at (i ∷ js) t (edited j l m ps) is h = tt
  nodes_to at [] t (round l m es) is h = tt
  nodes_to at (i ∷ js) (tree n ts) (round l m es) is h = nodes_among at i js ts es (same_inside l n (page_nodes es) ts is) h.1

  nodes_among : (at : Choice) (i : ℕ) (js : List ℕ) (ts : Trees) (es : Edits) → page_nodes es ≡ ts → AreChosenIn at ts
      → IfSent (IsOfNodes (at (i ∷ js))) (edited_among i js es)
  nodes_among at i js ts no_edits is h = tt
  nodes_among at i js none (more_edits d ds) is h = absurd (cc)
  nodes_among at zero js (more t ts) (more_edits d ds) is h =
      nodes_to (λ ks. at (zero ∷ ks)) js t d (same_first (page_node d) t (page_nodes ds) ts is) h.0
  nodes_among at (suc i) js (more t ts) (more_edits d ds) is h =
      nodes_among (λ p. at (past_first p)) i js ts ds (same_rest (page_node d) t (page_nodes ds) ts is) h.1

nodes_by : (at : Choice) (p : List ℕ) (t : Tree) (es : Edits) → page_nodes es ≡ children t → AreChosenIn at (children t) → IfSent (IsOfNodes (at p)) (edited_by es p)
nodes_by at [] t es is h = tt
nodes_by at (i ∷ js) t es is h = nodes_among at i js (children t) es is h

-- ---- the contents fit

fits_chosen : (pages : Pages) (v : Tree) (k : TextBlock) (q : List ℕ) (c : Option Pieces) (o : Option Edited) → (label v).kind ≡ kind_of (block_of k)
    → IfSent (λ d. IsSettledAt v (page_node d)) o → IfSent (IsOfNodes c) o → FitChosenIn pages v k q c → Agree (emptied c) o
    → IfSent (FitsIn pages k q) (with_chosen c o)
fits_chosen pages v k q None None e s n f a = tt
fits_chosen pages v k q None (Some d) e s n f a = absurd a
fits_chosen pages v k q (Some qs) None e s n f a = absurd a
fits_chosen pages v k q (Some qs) (Some (stays t u)) e s n f a = absurd a
fits_chosen pages v k q (Some qs) (Some (edited j l m ps)) e s n f a =
    let is : j ≡ block_of k = same_block j (block_of k) (kind_there v (page_node (edited j l m ps)) s ∙ e) in
    let same : page_node (edited j l m qs) ≡ page_node (edited j l m ps) = ap (tree (record l { kind = kind_of j })) n.0 in
    let P : Block → Type 0 = λ i. IsSettledAt v (page_node (edited i l m qs)) → FitsIn pages k q (edited i l m qs) in
    subst P (sym is) (λ g. f l m g) (subst (IsSettledAt v) (sym same) s)
fits_chosen pages v k q (Some qs) (Some (round l m es)) e s n f a = absurd a

all_fit : (pages : Pages) (at : Choice) (b : ℕ → Tree) (ss : List BlockSpot) (ps : List (List ℕ)) (t : Tree) (es : Sents) → HaveKinds b ss
    → AllSettled b (counted ss) ps t → page_nodes (as_edits es) ≡ children t → AreChosenIn at (children t) → AllFitChosenIn pages b at ss ps
    → map (typed_by es) ps ≡ map (λ p. emptied (at p)) ps → AreFittingIn pages ss (map (edited_by (all_changed at (as_edits es))) ps)
all_fit pages at b [] [] t es kinds h is of f e = tt
all_fit pages at b [] (p ∷ ps) t es kinds h is of f e = absurd h
all_fit pages at b (s ∷ ss) [] t es kinds h is of f e = absurd h
all_fit pages at b (s ∷ ss) (p ∷ ps) t es kinds h is of f e =
    let first : typed_by es p ≡ emptied (at p) = cc in
    let rest : map (typed_by es) ps ≡ map (λ p. emptied (at p)) ps = cc in
    let o : Option Edited = edited_by (as_edits es) p in (
      subst (IfSent (FitsIn pages s.block s.text)) (sym (by_changed at (as_edits es) p))
          (fits_chosen pages (b zero) s.block s.text (at p) o kinds.0 (there_by (b zero) p t (as_edits es) h.0 is) (nodes_by at p t (as_edits es) is of) f.0
          (subst (λ (x : Option (List ℕ)). Agree x o) first (agree_by es p))),
      all_fit pages at (λ n. b (suc n)) ss ps t es kinds.1 (settled_moved b (counted ss) ps t h.1) is of f.1 rest,
    )

-- ---- there is such an edit

all_typed : (at : Choice) (b : ℕ → Tree) (ss : List BlockSpot) (ps : List (List ℕ)) (t : Tree) → AllSettled b (counted ss) ps t
    → AreTypings ss (map (λ p. emptied (at p)) ps)
all_typed at b [] [] t h = tt
all_typed at b [] (p ∷ ps) t h = absurd h
all_typed at b (s ∷ ss) [] t h = absurd h
all_typed at b (s ∷ ss) (p ∷ ps) t h = (spot_typed s.block (at p), all_typed at (λ n. b (suc n)) ss ps t (settled_moved b (counted ss) ps t h.1))

pub own_contents : (pages : Pages) (t : Tree) (ss : List BlockSpot) (fs : TreeFrames) (b : ℕ → Tree) → IsNumberedBody t → HaveKinds b ss
    → AllSettled b (counted ss) (paths_to fs) t → HasContentEditsIn pages b t ss (paths_to fs)
own_contents pages t ss fs b h kinds stand = λ at of fit.
    let paths : List (List ℕ) = paths_to fs in
    let lead : AllLead ss paths t = all_lead b ss paths t kinds stand in
    let os : List (Option (List ℕ)) = map (λ p. emptied (at p)) paths in
    let es : Sents = own_edit t ss paths (label t) os in
    let own : IsEditOf t paths es × (map (typed_by es) paths ≡ os) = own_edits t ss fs h lead (label t) os (all_typed at b ss paths t stand) in
    let edit : IsEditOf t paths es = own.0 in
    let old : page_nodes (as_edits es) ≡ children t = pages_are es ∙ edit.old in
    let sent : AreEdited (as_edits es) = are_edited es edit.sent in
    let only : AllEditOnly paths (as_edits es) = texts_only paths es edit.types in
    record {
      edits = all_changed at (as_edits es);
      edit = record {
        old = same_all at (as_edits es) (children t) old of ∙ old;
        sent = all_edited at (as_edits es) (children t) old of sent;
        edits = all_only at (as_edits es) paths only;
        fit = all_fit pages at b ss paths t es kinds stand old of fit own.1;
      };
      are = all_chosen at es paths own.1;
    }
