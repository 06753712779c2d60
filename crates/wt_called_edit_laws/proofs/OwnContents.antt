-- Whatever contents are chosen for the blocks at the places, there is an edit that sends them, and every other node as it is.
use Rattle.std.proofs.Common.{◌≡◌, ℕ, zero, suc, Option, Some, None, List, [], ◌∷◌, map, refl, sym, ap, ap₂, ◌∙◌, subst}
use Rattle.std.specs.Str.{IsUtf8}
use lib.Utf8.{encode}
use Rattle.wt_tree.specs.Tree.{Label, Tree, tree, Trees, none, more, label}
use Rattle.wt_checks.specs.Kept.{children}
use Rattle.wt_typed_blocks.specs.Sent.{Block, kind_of, Sent, stands, typed, holds, Sents, none_sent, more_sent}
use Rattle.wt_typed_blocks.specs.Typed.{Takes}
use Rattle.wt_typed_blocks.specs.Edited.{Pieces, page_pieces, Edited, stays, edited, round, Edits, no_edits, more_edits, page_node, page_nodes, IsEdited, AreEdited}
use Rattle.wt_typed_blocks.proofs.AsEdits.{as_edited, as_edits}
use Rattle.wt_text_edit_laws.specs.BlockSpots.{BlockSpot}
use Rattle.wt_text_edit_laws.specs.OwnNodes.{IsTypedSpot}
use Rattle.wt_text_edit_laws.specs.TextBlocks.{TextBlock, a_paragraph, a_heading, block_of, block_tree}
use Rattle.wt_called_edit_laws.specs.AnyBlocks.{first_paths, other_paths, typed_at, typed_among, typed_by}
use Rattle.wt_called_edit_laws.specs.ChosenContents.{Choice, past_first, AreOfNodes, IsChosenAt, AreChosenIn, FitChosen, AllFitChosen, pieces_of, HasContentEdits}
use Rattle.wt_called_edit_laws.specs.EditsAt.{IsStanding, StandsTo, StandsAmong, AllStand, edited_at, edited_among, edited_by, EditsOnly, AllEditOnly, Fits, FitsSpot, AreFitting, IsContentEdit}
use Rattle.wt_called_edit_laws.specs.OwnTexts.{AreTypings}
use Rattle.wt_called_edit_laws.specs.PathsTo.{paths_to}
use Rattle.wt_called_edit_laws.specs.TreeEdits.{IsNumberedBody, IsEditOf, own_edit}
use Rattle.wt_part_laws.specs.TreeFrames.{TreeFrames}
use Rattle.wt_called_edit_laws.proofs.Cells.Nodes.{same_inside}
use Rattle.wt_called_edit_laws.proofs.Cells.Equal.{same_first, same_rest, same_block}
use Rattle.wt_called_edit_laws.proofs.Leads.{standing_kind, all_lead}
use Rattle.wt_called_edit_laws.proofs.OwnEdits.{own_edits}
use Rattle.wt_called_edit_laws.proofs.TextContents.{as_contents}

-- ---- other pieces in the place of those that were sent

abbrev pub with_pieces : Option Pieces → Block → Label → Label → Pieces → Edited
with_pieces None k l m ps = edited k l m ps
with_pieces (Some qs) k l m ps = edited k l m qs

abbrev mutual
  pub changed : Choice → Edited → Edited
  changed at (stays t u) = stays t u
  changed at (edited k l m ps) = with_pieces (at []) k l m ps
  changed at (round l m es) = round l m (all_changed at es)

  pub all_changed : Choice → Edits → Edits
  all_changed at no_edits = no_edits
  all_changed at (more_edits e es) = more_edits (changed (λ is. at (zero ∷ is)) e) (all_changed (λ p. at (past_first p)) es)

-- ---- what is sent at a path

abbrev pub with_one : Option Pieces → Edited → Edited
with_one c (stays t u) = stays t u
with_one c (edited k l m ps) = with_pieces c k l m ps
with_one c (round l m es) = round l m es

abbrev pub with_chosen : Option Pieces → Option Edited → Option Edited
with_chosen c None = None
with_chosen c (Some e) = Some (with_one c e)

edited_here : (c : Option Pieces) (k : Block) (l m : Label) (ps : Pieces) → edited_at [] (with_pieces c k l m ps) ≡ Some (with_pieces c k l m ps)
edited_here None k l m ps = refl
edited_here (Some qs) k l m ps = refl

none_below : (c : Option Pieces) (i : ℕ) (is : List ℕ) (k : Block) (l m : Label) (ps : Pieces) → edited_at (i ∷ is) (with_pieces c k l m ps) ≡ None
none_below None i is k l m ps = refl
none_below (Some qs) i is k l m ps = refl

mutual
  at_changed : (at : Choice) (p : List ℕ) (e : Edited) → edited_at p (changed at e) ≡ with_chosen (at p) (edited_at p e)
  at_changed at p (stays t u) = refl
  at_changed at [] (edited k l m ps) = edited_here (at []) k l m ps
  at_changed at (i ∷ is) (edited k l m ps) = none_below (at []) i is k l m ps
  at_changed at [] (round l m es) = refl
  at_changed at (i ∷ is) (round l m es) = among_changed at i is es

  among_changed : (at : Choice) (i : ℕ) (is : List ℕ) (es : Edits) → edited_among i is (all_changed at es) ≡ with_chosen (at (i ∷ is)) (edited_among i is es)
  among_changed at i is no_edits = refl
  among_changed at zero is (more_edits e es) = at_changed (λ js. at (zero ∷ js)) is e
  among_changed at (suc i) is (more_edits e es) = among_changed (λ p. at (past_first p)) i is es

pub by_changed : (at : Choice) (es : Edits) (p : List ℕ) → edited_by (all_changed at es) p ≡ with_chosen (at p) (edited_by es p)
by_changed at es [] = refl
by_changed at es (i ∷ is) = among_changed at i is es

-- ---- it is of the same page

pieces_page : (c : Option Pieces) (k : Block) (l m : Label) (ps : Pieces) (ts : Trees) → page_pieces ps ≡ ts → AreOfNodes c ts
    → page_node (with_pieces c k l m ps) ≡ page_node (edited k l m ps)
pieces_page None k l m ps ts e h = refl
pieces_page (Some qs) k l m ps ts e h = ap (tree (record l { kind = kind_of k })) (h.0 ∙ sym e)

mutual
  same_one : (at : Choice) (e : Edited) (t : Tree) → page_node e ≡ t → IsChosenAt at t → page_node (changed at e) ≡ page_node e
  same_one at (stays u v) t is h = refl
  same_one at (edited k l m ps) (tree n ts) is h =
      pieces_page (at []) k l m ps ts (same_inside (record l { kind = kind_of k }) n (page_pieces ps) ts is) h.0
  same_one at (round l m es) (tree n ts) is h = ap (tree l) (same_all at es ts (same_inside l n (page_nodes es) ts is) h.1)

  pub same_all : (at : Choice) (es : Edits) (ts : Trees) → page_nodes es ≡ ts → AreChosenIn at ts → page_nodes (all_changed at es) ≡ page_nodes es
  same_all at no_edits ts is h = refl
  same_all at (more_edits e es) none is h = absurd (cc)
  same_all at (more_edits e es) (more t ts) is h =
      ap₂ more (same_one (λ js. at (zero ∷ js)) e t (same_first (page_node e) t (page_nodes es) ts is) h.0)
      (same_all (λ p. at (past_first p)) es ts (same_rest (page_node e) t (page_nodes es) ts is) h.1)

-- ---- it is sent so

pieces_edited : (c : Option Pieces) (k : Block) (l m : Label) (ps : Pieces) (ts : Trees) → AreOfNodes c ts → IsEdited (edited k l m ps)
    → IsEdited (with_pieces c k l m ps)
pieces_edited None k l m ps ts h g = g
pieces_edited (Some qs) k l m ps ts h g = (g.0, h.1)

mutual
  one_edited : (at : Choice) (e : Edited) (t : Tree) → page_node e ≡ t → IsChosenAt at t → IsEdited e → IsEdited (changed at e)
  one_edited at (stays u v) t is h g = g
  one_edited at (edited k l m ps) (tree n ts) is h g = pieces_edited (at []) k l m ps ts h.0 g
  one_edited at (round l m es) (tree n ts) is h g = (g.0, all_edited at es ts (same_inside l n (page_nodes es) ts is) h.1 g.1)

  pub all_edited : (at : Choice) (es : Edits) (ts : Trees) → page_nodes es ≡ ts → AreChosenIn at ts → AreEdited es → AreEdited (all_changed at es)
  all_edited at no_edits ts is h g = tt
  all_edited at (more_edits e es) none is h g = absurd (cc)
  all_edited at (more_edits e es) (more t ts) is h g = (
    one_edited (λ js. at (zero ∷ js)) e t (same_first (page_node e) t (page_nodes es) ts is) h.0 g.0,
    all_edited (λ p. at (past_first p)) es ts (same_rest (page_node e) t (page_nodes es) ts is) h.1 g.1,
  )

pieces_only : (c : Option Pieces) (k : Block) (l m : Label) (ps : Pieces) (qs : List (List ℕ)) → EditsOnly qs (edited k l m ps)
    → EditsOnly qs (with_pieces c k l m ps)
pieces_only None k l m ps qs h = h
pieces_only (Some rs) k l m ps qs h = h

mutual
  one_only : (at : Choice) (e : Edited) (qs : List (List ℕ)) → EditsOnly qs e → EditsOnly qs (changed at e)
  one_only at (stays t u) qs h = tt
  one_only at (edited k l m ps) qs h = pieces_only (at []) k l m ps qs h
  one_only at (round l m es) qs h = (h.0, all_only at es qs h.1)

  pub all_only : (at : Choice) (es : Edits) (qs : List (List ℕ)) → AllEditOnly qs es → AllEditOnly qs (all_changed at es)
  all_only at no_edits qs h = tt
  all_only at (more_edits e es) qs h =
      (one_only (λ js. at (zero ∷ js)) e (first_paths qs) h.0, all_only (λ p. at (past_first p)) es (other_paths qs) h.1)

-- ---- the contents fit

fits_here : (c : Option Pieces) (s : BlockSpot) (j : Block) (l m : Label) (ps : Pieces) → IsStanding (block_tree s.block s.text) (page_node (edited j l m ps))
    → FitChosen s.block s.text c → Fits s.block s.text (edited j l m ps) → Fits s.block s.text (with_pieces c j l m ps)
fits_here None s j l m ps h f g = g
fits_here (Some qs) s j l m ps h f g =
    let e : j ≡ block_of s.block = same_block j (block_of s.block) (standing_kind s.block s.text (page_node (edited j l m ps)) h) in
    subst (λ (i : Block). Fits s.block s.text (edited i l m qs)) (sym e) (f l m)

mutual
  fits_to : (c : Option Pieces) (s : BlockSpot) (p : List ℕ) (t : Tree) (e : Edited) → StandsTo (block_tree s.block s.text) p t → page_node e ≡ t
      → FitChosen s.block s.text c → FitsSpot s (edited_at p e) → FitsSpot s (with_chosen c (edited_at p e))
  fits_to c s p t (stays u v) h is f g = tt
  fits_to c s [] t (edited j l m ps) h is f g = fits_here c s j l m ps (subst (IsStanding (block_tree s.block s.text)) (sym is) h) f g
  fits_to c s (i ∷ js) t (edited j l m ps) h is f g = tt
  fits_to c s [] t (round l m es) h is f g = tt
  fits_to c s (i ∷ js) (tree n ts) (round l m es) h is f g = fits_among c s i js ts es h (same_inside l n (page_nodes es) ts is) f g

  fits_among : (c : Option Pieces) (s : BlockSpot) (i : ℕ) (js : List ℕ) (ts : Trees) (es : Edits) → StandsAmong (block_tree s.block s.text) i js ts
      → page_nodes es ≡ ts → FitChosen s.block s.text c → FitsSpot s (edited_among i js es) → FitsSpot s (with_chosen c (edited_among i js es))
  fits_among c s i js none es h is f g = absurd h
  fits_among c s zero js (more t ts) no_edits h is f g = tt
  fits_among c s (suc i) js (more t ts) no_edits h is f g = tt
  fits_among c s zero js (more t ts) (more_edits e es) h is f g = fits_to c s js t e h (same_first (page_node e) t (page_nodes es) ts is) f g
  fits_among c s (suc i) js (more t ts) (more_edits e es) h is f g = fits_among c s i js ts es h (same_rest (page_node e) t (page_nodes es) ts is) f g

fits_by : (c : Option Pieces) (s : BlockSpot) (p : List ℕ) (t : Tree) (es : Edits) → StandsTo (block_tree s.block s.text) p t → page_nodes es ≡ children t
    → FitChosen s.block s.text c → FitsSpot s (edited_by es p) → FitsSpot s (with_chosen c (edited_by es p))
fits_by c s [] t es h is f g = tt
fits_by c s (i ∷ js) (tree n ts) es h is f g = fits_among c s i js ts es h is f g

all_fit : (at : Choice) (ss : List BlockSpot) (ps : List (List ℕ)) (t : Tree) (es : Edits) → AllStand ss ps t → page_nodes es ≡ children t → AllFitChosen at ss ps
    → AreFitting ss (map (edited_by es) ps) → AreFitting ss (map (edited_by (all_changed at es)) ps)
all_fit at [] [] t es h is f g = tt
all_fit at [] (p ∷ ps) t es h is f g = absurd h
all_fit at (s ∷ ss) [] t es h is f g = absurd h
all_fit at (s ∷ ss) (p ∷ ps) t es h is f g = (
  subst (FitsSpot s) (sym (by_changed at es p)) (fits_by (at p) s p t es h.0 is f.0 g.0),
  all_fit at ss ps t es h.1 is f.1 g.1,
)

-- ---- which are the chosen ones

-- where others are chosen, nothing is typed first
abbrev pub emptied : Option Pieces → Option (List ℕ)
emptied None = None
emptied (Some ps) = Some []

-- a text is typed just where a content is edited
abbrev pub Agree : Option (List ℕ) → Option Edited → Type 0
Agree None None = Unit {0}
Agree None (Some e) = ⊥
Agree (Some text) None = ⊥
Agree (Some text) (Some (stays t u)) = ⊥
Agree (Some text) (Some (edited k l m ps)) = Unit {0}
Agree (Some text) (Some (round l m es)) = ⊥

mutual
  agree_to : (p : List ℕ) (s : Sent) → Agree (typed_at p s) (edited_at p (as_edited s))
  agree_to p (stands t u) = tt
  agree_to [] (typed k l ts m x text) = tt
  agree_to (i ∷ is) (typed k l ts m x text) = tt
  agree_to [] (holds l m ss) = tt
  agree_to (i ∷ is) (holds l m ss) = agree_among i is ss

  agree_among : (i : ℕ) (is : List ℕ) (ss : Sents) → Agree (typed_among i is ss) (edited_among i is (as_edits ss))
  agree_among i is none_sent = tt
  agree_among zero is (more_sent s ss) = agree_to is s
  agree_among (suc i) is (more_sent s ss) = agree_among i is ss

pub agree_by : (ss : Sents) (p : List ℕ) → Agree (typed_by ss p) (edited_by (as_edits ss) p)
agree_by ss [] = tt
agree_by ss (i ∷ is) = agree_among i is ss

chosen_is : (c : Option Pieces) (o : Option (List ℕ)) (x : Option Edited) → Agree o x → o ≡ emptied c → pieces_of (with_chosen c x) ≡ c
chosen_is None None None a e = refl
chosen_is None None (Some d) a e = absurd a
chosen_is None (Some text) x a e = absurd (cc)
chosen_is (Some ps) None x a e = absurd (cc)
chosen_is (Some ps) (Some text) None a e = absurd a
chosen_is (Some ps) (Some text) (Some (stays t u)) a e = absurd a
chosen_is (Some ps) (Some text) (Some (edited k l m qs)) a e = refl
chosen_is (Some ps) (Some text) (Some (round l m es)) a e = absurd a

pub all_chosen : (at : Choice) (ss : Sents) (ps : List (List ℕ)) → map (typed_by ss) ps ≡ map (λ p. emptied (at p)) ps
    → map (λ p. pieces_of (edited_by (all_changed at (as_edits ss)) p)) ps ≡ map at ps
all_chosen at ss [] e = refl
all_chosen at ss (p ∷ ps) e =
    let first : typed_by ss p ≡ emptied (at p) = cc in
    let rest : map (typed_by ss) ps ≡ map (λ p. emptied (at p)) ps = cc in
    ap₂ (λ (x : Option Pieces) (xs : List (Option Pieces)). x ∷ xs)
    (ap pieces_of (by_changed at (as_edits ss) p) ∙ chosen_is (at p) (typed_by ss p) (edited_by (as_edits ss) p) (agree_by ss p) first)
    (all_chosen at ss ps rest)

-- ---- there is such an edit

nothing_utf8 : IsUtf8 []
unfolding encode
nothing_utf8 = ([], (refl, refl))

nothing_fits : (k : TextBlock) → Takes (block_of k) []
nothing_fits a_paragraph = tt
nothing_fits (a_heading s) = refl

pub spot_typed : (k : TextBlock) (c : Option Pieces) → IsTypedSpot k (emptied c)
spot_typed k None = tt
spot_typed k (Some ps) = (nothing_utf8, nothing_fits k)

all_typed : (at : Choice) (ss : List BlockSpot) (ps : List (List ℕ)) (t : Tree) → AllStand ss ps t → AreTypings ss (map (λ p. emptied (at p)) ps)
all_typed at [] [] t h = tt
all_typed at [] (p ∷ ps) t h = absurd h
all_typed at (s ∷ ss) [] t h = absurd h
all_typed at (s ∷ ss) (p ∷ ps) t h = (spot_typed s.block (at p), all_typed at ss ps t h.1)

pub own_contents : (t : Tree) (ss : List BlockSpot) (fs : TreeFrames) → IsNumberedBody t → AllStand ss (paths_to fs) t → HasContentEdits t ss (paths_to fs)
own_contents t ss fs h stand = λ at of fit.
    let paths : List (List ℕ) = paths_to fs in
    let os : List (Option (List ℕ)) = map (λ p. emptied (at p)) paths in
    let es : Sents = own_edit t ss paths (label t) os in
    let own : IsEditOf t paths es × (map (typed_by es) paths ≡ os) = own_edits t ss fs h (all_lead ss paths t stand) (label t) os (all_typed at ss paths t stand) in
    let e : IsContentEdit t ss paths (as_edits es) = as_contents t ss paths es stand own.0 in
    record {
      edits = all_changed at (as_edits es);
      edit = record {
        old = same_all at (as_edits es) (children t) e.old of ∙ e.old;
        sent = all_edited at (as_edits es) (children t) e.old of e.sent;
        edits = all_only at (as_edits es) paths e.edits;
        fit = all_fit at ss paths t (as_edits es) stand e.old fit e.fit;
      };
      are = all_chosen at es paths own.1;
    }
