-- At the paths of a page's blocks, which may hold calls: what is edited there is edited in these blocks, and each path leads to one.
use Rattle.std.proofs.Common.{arith, ◌≡◌, ◌≢◌, ℕ, zero, suc, Option, List, [], ◌∷◌, map, refl, sym, ap, ◌∙◌, subst}
use Rattle.wt_tree.specs.declared.kind.Kind.{Kind}
use Rattle.wt_tree.specs.Tree.{Tree, tree, Trees, none, more, label}
use Rattle.wt_span.specs.Items.{Item}
use Rattle.wt_span.specs.Origins.{OuterCall}
use Rattle.wt_expand.specs.Work.{Pages}
use Rattle.wt_annotated.specs.CutTexts.{cut_texts}
use Rattle.wt_annotated.specs.Numbering.{number_of}
use Rattle.wt_checks.specs.Kept.{children}
use Rattle.wt_part_laws.specs.Expanded.{part_items}
use Rattle.wt_part_laws.specs.HeldCalls.{block_in}
use Rattle.wt_typed_blocks.specs.Sent.{kind_of}
use Rattle.wt_typed_blocks.specs.Edited.{Edited, stays, edited, round, Edits, no_edits, more_edits, page_node, page_nodes}
use Rattle.wt_text_edit_laws.specs.BlockSpots.{BlockSpot}
use Rattle.wt_text_edit_laws.specs.TextBlocks.{TextBlock, a_paragraph, a_heading, block_of}
use Rattle.wt_called_edit_laws.specs.AnyBlocks.{LeadsTo, LeadsAmong, AllLead}
use Rattle.wt_called_edit_laws.specs.CalledBlocks.{counted}
use Rattle.wt_called_edit_laws.specs.CalledContents.{tree_round}
use Rattle.wt_called_edit_laws.specs.CallingContents.{IfSent}
use Rattle.wt_called_edit_laws.specs.EditsAt.{edited_at, edited_among, edited_by}
use Rattle.wt_called_edit_laws.specs.Parts.{calls_to, calls_past}
use Rattle.wt_called_edit_laws.specs.PathsTo.{AreEditedThere}
use Rattle.wt_called_edit_laws.specs.Settled.{settled}
use Rattle.wt_called_edit_laws.specs.SettledAt.{IsSettledAt, SettledTo, SettledAmong, AllSettled}
use Rattle.wt_called_edit_laws.proofs.Cells.Nodes.{same_inside}
use Rattle.wt_called_edit_laws.proofs.Cells.Equal.{same_first, same_rest}
use Rattle.wt_called_edit_laws.proofs.Leads.{edit_at, there_moved}
use Rattle.wt_called_edit_laws.proofs.SpotSources.{grouped_at}

-- ---- the block whose content is edited

mutual
  there_to : (v : Tree) (p : List ℕ) (t : Tree) (e : Edited) → SettledTo v p t → page_node e ≡ t → IfSent (λ d. IsSettledAt v (page_node d)) (edited_at p e)
  there_to v p t (stays x u) h is = tt
  there_to v [] t (edited j l m ps) h is = subst (IsSettledAt v) (sym is) h
  there_to v (i ∷ is) t (edited j l m ps) h e = tt
  there_to v [] t (round l m es) h is = tt
  there_to v (i ∷ is) (tree k ts) (round l m es) h e = there_among v i is ts es h (same_inside l k (page_nodes es) ts e)

  there_among : (v : Tree) (i : ℕ) (is : List ℕ) (ts : Trees) (es : Edits) → SettledAmong v i is ts → page_nodes es ≡ ts
      → IfSent (λ d. IsSettledAt v (page_node d)) (edited_among i is es)
  there_among v i is none es h e = absurd h
  there_among v zero is (more t ts) no_edits h e = tt
  there_among v (suc i) is (more t ts) no_edits h e = tt
  there_among v zero is (more t ts) (more_edits d ds) h e = there_to v is t d h (same_first (page_node d) t (page_nodes ds) ts e)
  there_among v (suc i) is (more t ts) (more_edits d ds) h e = there_among v i is ts ds h (same_rest (page_node d) t (page_nodes ds) ts e)

pub there_by : (v : Tree) (p : List ℕ) (t : Tree) (es : Edits) → SettledTo v p t → page_nodes es ≡ children t
    → IfSent (λ d. IsSettledAt v (page_node d)) (edited_by es p)
there_by v [] t es h e = tt
there_by v (i ∷ is) (tree l ts) es h e = there_among v i is ts es h e

-- each content that is edited is that of the block with its number
abbrev pub AreOfBlocks : (ℕ → Tree) → List BlockSpot → List (Option Edited) → Type 0
AreOfBlocks b [] [] = Unit {0}
AreOfBlocks b [] (o ∷ os) = ⊥
AreOfBlocks b (s ∷ ss) [] = ⊥
AreOfBlocks b (s ∷ ss) (o ∷ os) = IfSent (λ d. IsSettledAt (b zero) (page_node d)) o × AreOfBlocks (λ n. b (suc n)) ss os

pub settled_moved : (b : ℕ → Tree) (ns : List ℕ) (ps : List (List ℕ)) (t : Tree) → AllSettled b (map suc ns) ps t → AllSettled (λ n. b (suc n)) ns ps t
settled_moved b [] [] t h = tt
settled_moved b [] (p ∷ ps) t h = h
settled_moved b (n ∷ ns) [] t h = h
settled_moved b (n ∷ ns) (p ∷ ps) t h = (h.0, settled_moved b ns ps t h.1)

pub all_there : (b : ℕ → Tree) (ss : List BlockSpot) (ps : List (List ℕ)) (t : Tree) (es : Edits) → AllSettled b (counted ss) ps t → page_nodes es ≡ children t
    → AreOfBlocks b ss (map (edited_by es) ps)
all_there b [] [] t es h e = tt
all_there b [] (p ∷ ps) t es h e = absurd h
all_there b (s ∷ ss) [] t es h e = absurd h
all_there b (s ∷ ss) (p ∷ ps) t es h e =
    (there_by (b zero) p t es h.0 e, all_there (λ n. b (suc n)) ss ps t es (settled_moved b (counted ss) ps t h.1) e)

pub edited_there : (b : ℕ → Tree) (ss : List BlockSpot) (ps : List (List ℕ)) (es : Edits) (t : Tree) → AllSettled b (counted ss) ps t
    → AreEditedThere (edit_at (map (edited_by es) ps)) es (counted ss) ps
edited_there b [] ps es t h = tt
edited_there b (s ∷ ss) [] es t h = absurd h
edited_there b (s ∷ ss) (p ∷ ps) es t h = (
  refl,
  there_moved (edit_at (map (edited_by es) (p ∷ ps))) es (counted ss) ps
      (edited_there (λ n. b (suc n)) ss ps es t (settled_moved b (counted ss) ps t h.1)),
)

-- ---- blocks are of their kinds

pub block_kind : (calls : List OuterCall) (k : TextBlock) (xs : List Item) → (label (cut_texts (block_in calls (tree_round k xs)))).kind ≡ kind_of (block_of k)
block_kind calls a_paragraph xs = refl
block_kind calls (a_heading s) xs = refl

abbrev pub HaveKinds : (ℕ → Tree) → List BlockSpot → Type 0
HaveKinds b [] = Unit {0}
HaveKinds b (s ∷ ss) = ((label (b zero)).kind ≡ kind_of (block_of s.block)) × HaveKinds (λ n. b (suc n)) ss

pub have_kinds : (calls : List OuterCall) (pages : Pages) (k : ℕ) (ss : List BlockSpot) → HaveKinds (grouped_at calls pages k ss) ss
have_kinds calls pages k [] = tt
have_kinds calls pages k (s ∷ ss) = (block_kind calls s.block (part_items pages (calls_to pages k s) s.text), have_kinds calls pages (calls_past pages k s) ss)

settled_kind : (n at : ℕ) (v : Tree) → (label (settled n at v)).kind ≡ (label v).kind
settled_kind n at (tree l ts) = refl

settled_number : (n at : ℕ) (v : Tree) → (label (settled n at v)).id ≡ number_of (label v).kind n
settled_number n at (tree l ts) = refl

own_number : (k : TextBlock) (n : ℕ) → number_of (kind_of (block_of k)) n ≡ n
own_number a_paragraph n = refl
own_number (a_heading s) n = refl

pub kind_there : (v t : Tree) → IsSettledAt v t → (label t).kind ≡ (label v).kind
kind_there v t h = ap (λ (u : Tree). (label u).kind) h.is ∙ settled_kind h.number h.at v

number_there : (k : TextBlock) (v t : Tree) → (label v).kind ≡ kind_of (block_of k) → IsSettledAt v t → (label t).id ≢ 0
number_there k v t e h = λ z.
    let is : (label t).id ≡ h.number =
    ap (λ (u : Tree). (label u).id) h.is ∙ settled_number h.number h.at v ∙ ap (λ (j : Kind). number_of j h.number) e ∙ own_number k h.number in
    let n : h.number ≡ 0 = sym is ∙ z in absurd (omega (arith, n, h.some))

block_led : (k : TextBlock) (v t : Tree) → (label v).kind ≡ kind_of (block_of k) → IsSettledAt v t → LeadsTo k [] t
block_led k v (tree l ts) e h = (kind_there v (tree l ts) h ∙ e, number_there k v (tree l ts) e h)

mutual
  leads_so : (k : TextBlock) (v : Tree) (p : List ℕ) (t : Tree) → (label v).kind ≡ kind_of (block_of k) → SettledTo v p t → LeadsTo k p t
  leads_so k v [] t e h = block_led k v t e h
  leads_so k v (i ∷ is) (tree l ts) e h = leads_among k v i is ts e h

  leads_among : (k : TextBlock) (v : Tree) (i : ℕ) (is : List ℕ) (ts : Trees) → (label v).kind ≡ kind_of (block_of k) → SettledAmong v i is ts → LeadsAmong k i is ts
  leads_among k v i is none e h = h
  leads_among k v zero is (more t ts) e h = leads_so k v is t e h
  leads_among k v (suc i) is (more t ts) e h = leads_among k v i is ts e h

pub all_lead : (b : ℕ → Tree) (ss : List BlockSpot) (ps : List (List ℕ)) (t : Tree) → HaveKinds b ss → AllSettled b (counted ss) ps t → AllLead ss ps t
all_lead b [] [] t e h = tt
all_lead b [] (p ∷ ps) t e h = absurd h
all_lead b (s ∷ ss) [] t e h = absurd h
all_lead b (s ∷ ss) (p ∷ ps) t e h =
    (leads_so s.block (b zero) p t e.0 h.0, all_lead (λ n. b (suc n)) ss ps t e.1 (settled_moved b (counted ss) ps t h.1))
