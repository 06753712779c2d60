-- The annotated tree of a page with its templates, in sections: its source, its ranges and its numbers.
use Rattle.std.proofs.Common.{◌≡◌, ℕ, List, [], ◌∷◌, ◌++◌, true, false, length, refl, ap, ap₂, ◌∙◌, subst, cond}
use Rattle.std.specs.List.{AllByRecursion}
use Rattle.wt_span.specs.Cuts.{page_of}
use Rattle.wt_span.specs.Items.{Item}
use Rattle.wt_span.specs.Origins.{OuterCall}
use Rattle.wt_tree.specs.Kinds.{is_leaf}
use Rattle.wt_tree.specs.Source.{flat}
use Rattle.wt_tree.specs.Tiling.{Tiled, Covers, InPreorder, HasNoGroup, NoneIsGroup}
use Rattle.wt_tree.specs.Tree.{Tree, tree, Trees, none, more, label, subtrees, subtrees_of_all}
use Rattle.wt_expand.specs.PageCalls.{expanded_page}
use Rattle.wt_expand.specs.Work.{Pages}
use Rattle.wt_inline.specs.ItemTree.{forest, tree_items}
use Rattle.wt_inline.specs.Parts.{children}
use Rattle.wt_page.specs.Rows.{rows}
use Rattle.wt_page.specs.Body.{body_parts, meaning}
use Rattle.wt_annotated.specs.Slices.{IsSlice, AreSlices}
use Rattle.wt_annotated.specs.Annotated.{annotated}
use Rattle.wt_annotated.specs.Clean.{is_clean}
use Rattle.wt_annotated.specs.GroupData.{group_data}
use Rattle.wt_annotated.specs.Reached.{AreReachedSlices, reached, reached_in_all}
use Rattle.wt_annotated.proofs.AnnotatedTree.{annotated_tiles, annotated_covers, annotated_slices, annotated_source, annotated_numbered}
use Rattle.wt_annotated.proofs.Ends.{body_clean}
use Rattle.wt_sections.specs.Sections.{with_sections}
use Rattle.wt_sections.proofs.Kept.{source, preorder}
use Rattle.wt_sections.proofs.Tiles.{tiled}
use Rattle.wt_page_round_trip.specs.PageTree.{page_tree}
use Rattle.wt_page_round_trip.proofs.SectionSlices.{sections_sliced}

-- what stands on the page for the meaning of its expanded items is the page
abbrev pub IsItsPage : Pages → List ℕ → Type 0
IsItsPage pages page = page_of (expanded_page pages page).outer (tree_items (meaning (expanded_page pages page).items)) ≡ page

pub clean_meaning : (xs : List Item) → is_clean (tree_items (meaning xs)) 0 (meaning xs) ≡ true
unfolding meaning
clean_meaning xs = body_clean (forest (children (body_parts (rows xs))))

-- the tree before its body's children are gathered
abbrev pub ungathered : List OuterCall → List Item → Tree
ungathered calls xs = annotated calls (group_data calls) (meaning xs)

body_no_leaf : (calls : List OuterCall) (xs : List Item) → is_leaf (label (ungathered calls xs)).kind ≡ false
unfolding meaning annotated
body_no_leaf calls xs = refl

pub flat_page : (pages : Pages) (page : List ℕ) → IsItsPage pages page → flat (page_tree pages page) ≡ page
flat_page pages page h =
    let calls = (expanded_page pages page).outer in
    let xs = (expanded_page pages page).items in
    source (ungathered calls xs) ∙ annotated_source calls (group_data calls) (meaning xs) (clean_meaning xs) ∙ h

pub ungathered_tiled : (calls : List OuterCall) (xs : List Item) → Tiled (ungathered calls xs)
ungathered_tiled calls xs = annotated_tiles calls (group_data calls) (meaning xs) (clean_meaning xs)

pub page_tiled : (pages : Pages) (page : List ℕ) → Tiled (page_tree pages page)
page_tiled pages page =
    let calls = (expanded_page pages page).outer in
    let xs = (expanded_page pages page).items in
    tiled (ungathered calls xs) (ungathered_tiled calls xs)

pub covers_width : (calls : List OuterCall) (xs : List Item) → Covers (length (page_of calls (tree_items (meaning xs)))) (ungathered calls xs)
unfolding meaning
covers_width calls xs = annotated_covers calls (group_data calls) (forest (children (body_parts (rows xs))))

-- the body has its range with its sections, too
covers_gathered : (n : ℕ) (t : Tree) → Covers n t → Covers n (with_sections t)
covers_gathered n (tree l ts) h = h

pub page_covered : (pages : Pages) (page : List ℕ) → IsItsPage pages page → Covers (length page) (page_tree pages page)
page_covered pages page h =
    let calls = (expanded_page pages page).outer in
    let xs = (expanded_page pages page).items in
    subst (λ n. Covers n (page_tree pages page)) (ap length h)
    (covers_gathered (length (page_of calls (tree_items (meaning xs)))) (ungathered calls xs) (covers_width calls xs))

pub page_reached : (pages : Pages) (page : List ℕ) → IsItsPage pages page → AreReachedSlices page (page_tree pages page)
page_reached pages page h =
    let calls = (expanded_page pages page).outer in
    let xs = (expanded_page pages page).items in
    subst (λ bs. AreReachedSlices bs (page_tree pages page)) h
    (sections_sliced (page_of calls (tree_items (meaning xs))) (ungathered calls xs) (body_no_leaf calls xs) (ungathered_tiled calls xs)
    (annotated_slices calls (group_data calls) (meaning xs) (clean_meaning xs)))

pub ungathered_numbered : (calls : List OuterCall) (xs : List Item) → InPreorder (ungathered calls xs)
ungathered_numbered calls xs = annotated_numbered calls (group_data calls) (meaning xs)

pub page_numbered : (pages : Pages) (page : List ℕ) → InPreorder (page_tree pages page)
page_numbered pages page =
    let calls = (expanded_page pages page).outer in
    let xs = (expanded_page pages page).items in
    preorder (ungathered calls xs) (ungathered_numbered calls xs)

-- ---- where no group stands, every node is reached

mutual
  all_reached : (t : Tree) → HasNoGroup t → reached t ≡ subtrees t
  all_reached (tree l ts) h =
      ap (λ us. tree l ts ∷ us) (ap (λ v. cond v [] (reached_in_all ts)) h.0 ∙ reached_all ts h.1)

  reached_all : (ts : Trees) → NoneIsGroup ts → reached_in_all ts ≡ subtrees_of_all ts
  reached_all none h = refl
  reached_all (more t ts) h = ap₂ (λ us vs. us ++ vs) (all_reached t h.0) (reached_all ts h.1)

pub page_slices : (pages : Pages) (page : List ℕ) → IsItsPage pages page → HasNoGroup (page_tree pages page) → AreSlices page (page_tree pages page)
page_slices pages page h g =
    subst (λ us. AllByRecursion (IsSlice page) us) (all_reached (page_tree pages page) g) (page_reached pages page h)
