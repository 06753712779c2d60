-- The marked nodes of such an edit, and the slices that stand for them: those whose content was edited.
use Rattle.std.proofs.Common.{◌≡◌, ℕ, Bool, true, false, List, [], ◌∷◌, ◌++◌, refl, ap, ◌∙◌}
use Rattle.std.specs.Prelude.{◌||◌, Option, Some, None, option_map, if◌then◌else◌}
use Rattle.std.specs.List.{AllByRecursion, flat_map}
use Rattle.std.proofs.lemmas.Grind.{flat_map-append}
use Rattle.wt_span.specs.Origins.{Expanded}
use Rattle.wt_tree.specs.declared.kind.Mark.{Mark}
use Rattle.wt_tree.specs.Tree.{Label, Tree, tree, Trees, none, more, label}
use Rattle.wt_link_spelling.specs.Spelling.{inline_spelling}
use Rattle.wt_checks.specs.Groups.{is_marked, has_mark, have_mark}
use Rattle.wt_checks.specs.Marks.{is_children}
use Rattle.wt_checks.specs.Places.{Place, placed, all_placed, Page, page_of, is_content, parent_below}
use Rattle.wt_checks.proofs.Found.{Itself}
use Rattle.wt_checks.proofs.InOrder.{not_zero_kept}
use Rattle.wt_checks.proofs.Lookups.{each_split}
use Rattle.wt_checks.proofs.Repeated.{or_false}
use Rattle.wt_content.specs.declared.reason.ContentWhy.{ContentWhy}
use Rattle.wt_slices.specs.BodySlices.{list_at, child_slices, all_child_slices}
use Rattle.wt_slices.specs.Changes.{Pair, pair_with, is_edited, pair_at, marked, place_in, change_with, inside_of, insides, all_insides}
use Rattle.wt_selser.specs.declared.refusal.EditRefusal.{EditRefusal}
use Rattle.wt_selser.specs.declared.refusal.EditRefusal.TheVariants as refusal
use Rattle.wt_selser.specs.Edits.{first_with, first_of, bad_pair, tangled_pair, refused_pairs}
use Rattle.wt_splice.specs.Splice.{Change}
use Rattle.wt_typed_blocks.specs.Sent.{Block, paragraph, heading}
use Rattle.wt_typed_blocks.specs.Edited.{Pieces, sent_pieces, Edited, stays, edited, round, Edits, no_edits, more_edits, page_node, sent_node, page_nodes, sent_nodes, IsEdited, AreEdited, page_body, sent_body}
use Rattle.wt_typed_blocks.specs.EditedPage.{IsTaken, AreTaken, IsApart, AreApart}
use Rattle.wt_typed_blocks.specs.Typed.{place_of}
use Rattle.wt_typed_blocks.proofs.SentFrames.{pieces_markless}
use Rattle.wt_typed_blocks.proofs.SentGroups.{no_mark, mark_none}

abbrev pub Same : Type 0
Same = Tree → Tree → Bool

-- ---- marked nodes

-- those whose content was edited, each with what was sent for it
abbrev mutual
  pub pairs_in : Edited → List Pair
  pairs_in (stays t u) = []
  pairs_in (edited k l m ps) = record { old = page_node (edited k l m ps); new = sent_node (edited k l m ps) } ∷ []
  pairs_in (round l m ss) = pairs_of ss

  pub pairs_of : Edits → List Pair
  pairs_of no_edits = []
  pairs_of (more_edits s ss) = pairs_in s ++ pairs_of ss

mutual
  pub no_pairs : (page : Page) (j : ℕ) (w : Bool) (u : Tree) → has_mark u ≡ false → flat_map (pair_at page) (placed j w u) ≡ []
  no_pairs page j w (tree m us) h =
      let d = or_false (is_marked m.mark) (have_mark us) h in
      ap (λ (c : Mark). (if is_edited c then pair_with (page m.id) (tree m us) else [])
      ++ flat_map (pair_at page) (all_placed (parent_below j m.id) (w || is_content m.mark) us)) (mark_none m.mark d.0)
      ∙ all_no_pairs page (parent_below j m.id) (w || is_content m.mark) us d.1

  all_no_pairs : (page : Page) (j : ℕ) (w : Bool) (us : Trees) → have_mark us ≡ false → flat_map (pair_at page) (all_placed j w us) ≡ []
  all_no_pairs page j w none h = refl
  all_no_pairs page j w (more u us) h =
      let d = or_false (has_mark u) (have_mark us) h in
      flat_map-append (pair_at page) (placed j w u) (all_placed j w us)
      ∙ ap (λ (ps : List Pair). ps ++ flat_map (pair_at page) (all_placed j w us)) (no_pairs page j w u d.0) ∙ all_no_pairs page j w us d.1

mutual
  found_in : (page : Page) (i j : ℕ) (v w : Bool) (s : Edited) → IsEdited s → AllByRecursion (Itself page) (placed i v (page_node s))
      → flat_map (pair_at page) (placed j w (sent_node s)) ≡ pairs_in s
  found_in page i j v w (stays t u) h it = no_pairs page j w u (no_mark t u h)
  found_in page i j v w (edited k l m ps) h it =
      let s : Edited = edited k l m ps in
      let inside : List Pair = flat_map (pair_at page) (all_placed (parent_below j l.id) (w || true) (sent_pieces ps)) in
      ap (λ (o : Option Place). pair_with o (sent_node s) ++ inside) (it.0 (not_zero_kept l.id h.0))
      ∙ ap (λ (qs : List Pair). record { old = page_node s; new = sent_node s } ∷ qs)
      (all_no_pairs page (parent_below j l.id) (w || true) (sent_pieces ps) (pieces_markless ps h.1))
  found_in page i j v w (round l m ss) h it =
      ap (λ (c : Mark). (if is_edited c then pair_with (page m.id) (tree m (sent_nodes ss)) else [])
      ++ flat_map (pair_at page) (all_placed (parent_below j m.id) (w || is_content m.mark) (sent_nodes ss))) h.0.unmarked
      ∙ found_pairs page (parent_below i l.id) (parent_below j m.id) (v || is_content l.mark) (w || is_content m.mark) ss h.1 it.1

  found_pairs : (page : Page) (i j : ℕ) (v w : Bool) (ss : Edits) → AreEdited ss → AllByRecursion (Itself page) (all_placed i v (page_nodes ss))
      → flat_map (pair_at page) (all_placed j w (sent_nodes ss)) ≡ pairs_of ss
  found_pairs page i j v w no_edits h it = refl
  found_pairs page i j v w (more_edits s ss) h it =
      let p = each_split (Itself page) (placed i v (page_node s)) (all_placed i v (page_nodes ss)) it in
      flat_map-append (pair_at page) (placed j w (sent_node s)) (all_placed j w (sent_nodes ss))
      ∙ ap (λ (ps : List Pair). ps ++ flat_map (pair_at page) (all_placed j w (sent_nodes ss))) (found_in page i j v w s h.0 p.0)
      ∙ ap (λ (ps : List Pair). pairs_in s ++ ps) (found_pairs page i j v w ss h.1 p.1)

pub marked_are : (l b : Label) (ss : Edits) → AreEdited ss
    → AllByRecursion (Itself (page_of (page_body l ss))) (all_placed 0 (is_content l.mark) (page_nodes ss))
    → marked (page_body l ss) (sent_body l b ss) ≡ pairs_of ss
marked_are l b ss h it = found_pairs (page_of (page_body l ss)) 0 0 (is_content l.mark) false ss h it

-- ---- slices

-- what is written for the content of a block
abbrev pub content_of : Same → Edited → List ℕ
content_of same s = inline_spelling same (page_node s) (sent_node s) (place_in (label (page_node s)).kind)

abbrev mutual
  pub change_of : Same → Edited → List Change
  change_of same (stays t u) = []
  change_of same (edited k l m ps) = change_with l.ranges (content_of same (edited k l m ps))
  change_of same (round l m ss) = changes_of same ss

  pub changes_of : Same → Edits → List Change
  changes_of same no_edits = []
  changes_of same (more_edits s ss) = change_of same s ++ changes_of same ss

mutual
  pub no_insides : (same : Same) (page : Page) (u : Tree) → has_mark u ≡ false → insides same page u ≡ []
  no_insides same page (tree m us) h =
      let d = or_false (is_marked m.mark) (have_mark us) h in
      ap (λ (c : Mark). if is_content c then inside_of same (page m.id) (tree m us) else all_insides same page us) (mark_none m.mark d.0)
      ∙ all_no_insides same page us d.1

  all_no_insides : (same : Same) (page : Page) (us : Trees) → have_mark us ≡ false → all_insides same page us ≡ []
  all_no_insides same page none h = refl
  all_no_insides same page (more u us) h =
      let d = or_false (has_mark u) (have_mark us) h in
      ap (λ (cs : List Change). cs ++ all_insides same page us) (no_insides same page u d.0) ∙ all_no_insides same page us d.1

mutual
  inside_is : (same : Same) (page : Page) (i : ℕ) (v : Bool) (s : Edited) → IsEdited s → AllByRecursion (Itself page) (placed i v (page_node s))
      → insides same page (sent_node s) ≡ change_of same s
  inside_is same page i v (stays t u) h it = no_insides same page u (no_mark t u h)
  inside_is same page i v (edited k l m ps) h it =
      ap (λ (o : Option Place). inside_of same o (sent_node (edited k l m ps))) (it.0 (not_zero_kept l.id h.0))
  inside_is same page i v (round l m ss) h it =
      ap (λ (c : Mark). if is_content c then inside_of same (page m.id) (tree m (sent_nodes ss)) else all_insides same page (sent_nodes ss)) h.0.unmarked
      ∙ insides_are same page (parent_below i l.id) (v || is_content l.mark) ss h.1 it.1

  insides_are : (same : Same) (page : Page) (i : ℕ) (v : Bool) (ss : Edits) → AreEdited ss → AllByRecursion (Itself page) (all_placed i v (page_nodes ss))
      → all_insides same page (sent_nodes ss) ≡ changes_of same ss
  insides_are same page i v no_edits h it = refl
  insides_are same page i v (more_edits s ss) h it =
      let p = each_split (Itself page) (placed i v (page_node s)) (all_placed i v (page_nodes ss)) it in
      ap (λ (cs : List Change). cs ++ all_insides same page (sent_nodes ss)) (inside_is same page i v s h.0 p.0)
      ∙ ap (λ (cs : List Change). change_of same s ++ cs) (insides_are same page i v ss h.1 p.1)

-- no child is sent with other children
by_inside : (same : Same) (page : Page) (s : Edited) → IsEdited s → child_slices same page (sent_node s) ≡ insides same page (sent_node s)
by_inside same page (stays (tree l ts) (tree m us)) h =
    ap (λ (c : Mark). if is_children c then list_at same page (page m.id) us else insides same page (tree m us)) h.0.unmarked
by_inside same page (edited k l m ps) h = refl
by_inside same page (round l m ss) h =
    ap (λ (c : Mark). if is_children c then list_at same page (page m.id) (sent_nodes ss) else insides same page (tree m (sent_nodes ss))) h.0.unmarked

pub slices_are : (same : Same) (page : Page) (i : ℕ) (v : Bool) (ss : Edits) → AreEdited ss → AllByRecursion (Itself page) (all_placed i v (page_nodes ss))
    → all_child_slices same page (sent_nodes ss) ≡ changes_of same ss
slices_are same page i v no_edits h it = refl
slices_are same page i v (more_edits s ss) h it =
    let p = each_split (Itself page) (placed i v (page_node s)) (all_placed i v (page_nodes ss)) it in
    ap (λ (cs : List Change). cs ++ all_child_slices same page (sent_nodes ss)) (by_inside same page s h.0 ∙ inside_is same page i v s h.0 p.0)
    ∙ ap (λ (cs : List Change). change_of same s ++ cs) (slices_are same page i v ss h.1 p.1)

-- ---- what is written

pub content_is : (same : Same) (k : Block) (l m : Label) (ps : Pieces)
    → content_of same (edited k l m ps) ≡ inline_spelling same (page_node (edited k l m ps)) (sent_node (edited k l m ps)) (place_of k)
content_is same paragraph l m ps = refl
content_is same (heading n) l m ps = refl

-- ---- no refusal

none_by : {B : Type 0} (o a b : Option B) → first_with o a ≡ None → (a ≡ None → b ≡ None) → first_with o b ≡ None
none_by None a b e k = k e
none_by (Some y) a b e k = cc

-- of two lists of which none gives any, none does
none_joined : {A B : Type 0} (f : A → Option B) (xs ys : List A) → first_of f xs ≡ None → first_of f ys ≡ None → first_of f (xs ++ ys) ≡ None
none_joined f [] ys h g = g
none_joined f (x ∷ xs) ys h g = none_by (f x) (first_of f xs) (first_of f (xs ++ ys)) h (λ e. none_joined f xs ys e g)

mutual
  not_bad : (same : Same) (s : Edited) → IsTaken same s → first_of (bad_pair same) (pairs_in s) ≡ None
  not_bad same (stays t u) h = refl
  not_bad same (edited k l m ps) h =
      ap (λ (o : Option ContentWhy). first_with (option_map (refusal.BadContent l.id) o) None) h
  not_bad same (round l m ss) h = none_bad same ss h

  none_bad : (same : Same) (ss : Edits) → AreTaken same ss → first_of (bad_pair same) (pairs_of ss) ≡ None
  none_bad same no_edits h = refl
  none_bad same (more_edits s ss) h = none_joined (bad_pair same) (pairs_in s) (pairs_of ss) (not_bad same s h.0) (none_bad same ss h.1)

mutual
  not_tangled : (items : Expanded) (page : List ℕ) (s : Edited) → IsApart items page s → first_of (tangled_pair items page) (pairs_in s) ≡ None
  not_tangled items page (stays t u) h = refl
  not_tangled items page (edited k l m ps) h = ap (λ (b : Bool). first_with (if b then Some (refusal.Tangled l.id) else None) None) h
  not_tangled items page (round l m ss) h = none_tangled items page ss h

  none_tangled : (items : Expanded) (page : List ℕ) (ss : Edits) → AreApart items page ss → first_of (tangled_pair items page) (pairs_of ss) ≡ None
  none_tangled items page no_edits h = refl
  none_tangled items page (more_edits s ss) h =
      none_joined (tangled_pair items page) (pairs_in s) (pairs_of ss) (not_tangled items page s h.0) (none_tangled items page ss h.1)

pub none_refused : (same : Same) (items : Expanded) (page : List ℕ) (ss : Edits) → AreTaken same ss → AreApart items page ss
    → refused_pairs same items page (pairs_of ss) ≡ None
none_refused same items page ss h a =
    ap (λ (o : Option EditRefusal). first_with o (first_of (tangled_pair items page) (pairs_of ss))) (none_bad same ss h) ∙ none_tangled items page ss a
