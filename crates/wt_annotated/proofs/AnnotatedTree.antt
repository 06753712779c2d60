-- The annotated tree: what holds of the placed tree holds when its texts are cut and its numbers given.
use Rattle.std.proofs.Common.{◌≡◌, ℕ, ◌+◌, ◌≤◌, true, Option, Some, List, [], length, sym, ap, ◌∙◌, subst, arith, append-nil}
use Rattle.std.specs.List.{AllByRecursion}
use Rattle.wt_tree.specs.declared.kind.Kind.TheVariants as kind
use Rattle.wt_tree.specs.declared.kind.Ranges.{Ranges}
use Rattle.wt_tree.specs.Plain.{ended as end, plain as plain_view}
use Rattle.wt_tree.specs.Source.{flat}
use Rattle.wt_tree.specs.Tiling.{Covers, Tiled, InPreorder}
use Rattle.wt_tree.specs.Tree.{Tree}
use Rattle.wt_span.specs.Cuts.{page_of, text_between}
use Rattle.wt_span.specs.Items.{Item}
use Rattle.wt_span.specs.Origins.{OuterCall}
use Rattle.wt_inline.specs.ItemTree.{plain, ItemTree, inner, ItemTrees, tree_items, held_by_all}
use Rattle.wt_annotated.specs.WithoutCalls.{placed as placed_plainly, annotated as annotated_plainly, IsPlain}
use Rattle.wt_annotated.specs.Numbering.{count, with_numbers}
use Rattle.wt_annotated.specs.Annotated.{unplaced, placed, annotated}
use Rattle.wt_annotated.specs.Clean.{is_clean}
use Rattle.wt_annotated.specs.Counted.{nodes}
use Rattle.wt_annotated.specs.CutTexts.{HasCutTexts, cut_texts}
use Rattle.wt_annotated.specs.Grouped.{Grouped, grouped}
use Rattle.wt_annotated.specs.Reached.{AreReachedSlices, reached, start_of, size_of}
use Rattle.wt_annotated.specs.Made.{annotated_at}
use Rattle.wt_annotated.proofs.Counts.{few}
use Rattle.wt_annotated.proofs.CutNumbers.{cut_texts_none, cut_texts_few}
use Rattle.wt_annotated.proofs.CutNumbered.{cut_numbered}
use Rattle.wt_annotated.proofs.CutPlaced.{placed_bare}
use Rattle.wt_annotated.proofs.CutReached.{cut_texts_stay}
use Rattle.wt_annotated.proofs.CutTexts.{BareTexts, cut_source, cut_tiles, cut_slices}
use Rattle.wt_annotated.proofs.Ends.{start_is, size_is, stand}
use Rattle.wt_annotated.proofs.OnePass.{annotated_is}
use Rattle.wt_annotated.proofs.Numbers.{in_preorder, placed_none}
use Rattle.wt_annotated.proofs.PlainView.{placed_shown, shown_numbered}
use Rattle.wt_annotated.proofs.Slices.{slices, reached_numbered}
use Rattle.wt_annotated.proofs.Tiles.{Carried, tiled, tiled_numbered, flat_numbered, source}
use Rattle.wt_annotated.proofs.WithoutCalls.{same_placed}

abbrev pub groups_of : ItemTree → Grouped
groups_of t = grouped (tree_items t) 0 t

abbrev pub placed_tree : List OuterCall → Carried → ItemTree → Tree
placed_tree calls carried t = placed calls carried (tree_items t) (groups_of t)

placed_tiles : (calls : List OuterCall) (carried : Carried) (t : ItemTree) → is_clean (tree_items t) 0 t ≡ true → Tiled (placed_tree calls carried t)
placed_tiles calls carried t q = tiled calls carried (tree_items t) (groups_of t) (stand (tree_items t) 0 t q).0

placed_slices : (calls : List OuterCall) (carried : Carried) (t : ItemTree) → is_clean (tree_items t) 0 t ≡ true
    → AreReachedSlices (page_of calls (tree_items t)) (placed_tree calls carried t)
placed_slices calls carried t q =
    let g : Grouped = groups_of t in
    let w : start_of g + size_of g ≤ length (tree_items t) = omega (arith, start_is (tree_items t) 0 t, size_is (tree_items t) 0 t) in
    slices calls carried (tree_items t) g (stand (tree_items t) 0 t q).0 w

pub annotated_tiles : (calls : List OuterCall) (carried : Carried) (t : ItemTree) → is_clean (tree_items t) 0 t ≡ true → Tiled (annotated calls carried t)
unfolding annotated
annotated_tiles calls carried t q =
    tiled_numbered 1 (cut_texts (placed_tree calls carried t))
    (cut_tiles (page_of calls (tree_items t)) (placed_tree calls carried t) (placed_tiles calls carried t q) (placed_slices calls carried t q)
    (placed_bare calls carried (tree_items t) (groups_of t)))

pub annotated_slices : (calls : List OuterCall) (carried : Carried) (t : ItemTree) → is_clean (tree_items t) 0 t ≡ true
    → AreReachedSlices (page_of calls (tree_items t)) (annotated calls carried t)
unfolding annotated
annotated_slices calls carried t q =
    reached_numbered (page_of calls (tree_items t)) 1 (cut_texts (placed_tree calls carried t))
    (cut_slices (page_of calls (tree_items t)) (placed_tree calls carried t) (placed_tiles calls carried t q) (placed_slices calls carried t q)
    (placed_bare calls carried (tree_items t) (groups_of t)))

pub annotated_source : (calls : List OuterCall) (carried : Carried) (t : ItemTree) → is_clean (tree_items t) 0 t ≡ true
    → flat (annotated calls carried t) ≡ page_of calls (tree_items t)
unfolding annotated
annotated_source calls carried t q =
    let g : Grouped = groups_of t in
    flat_numbered 1 (cut_texts (placed_tree calls carried t))
    ∙ cut_source (placed_tree calls carried t)
    ∙ source calls carried (tree_items t) g (stand (tree_items t) 0 t q).0
    ∙ ap (λ n. text_between calls (tree_items t) n (size_of g)) (start_is (tree_items t) 0 t)
    ∙ ap (text_between calls (tree_items t) 0) (size_is (tree_items t) 0 t)

-- the ranges of a body of so many bytes
abbrev whole_range : ℕ → Option Ranges
whole_range n = Some (record { start = 0; end = n; open_w = 0; close_w = 0 })

pub annotated_covers : (calls : List OuterCall) (carried : Carried) (ts : ItemTrees)
    → Covers (length (page_of calls (tree_items (inner (plain kind.Body) [] ts [])))) (annotated calls carried (inner (plain kind.Body) [] ts []))
unfolding annotated
annotated_covers calls carried ts =
    let all : List Item = tree_items (inner (plain kind.Body) [] ts []) in
    let e : 0 + length (held_by_all ts) + 0 ≡ length all = omega (arith, ap length (append-nil (held_by_all ts))) in
    let f : 0 + length (text_between calls all 0 (length all)) ≡ length (text_between calls all 0 (length all)) = omega arith in
    ap (λ k. whole_range (0 + length (text_between calls all 0 k))) e ∙ ap whole_range f

pub annotated_numbered : (calls : List OuterCall) (carried : Carried) (t : ItemTree) → InPreorder (annotated calls carried t)
unfolding annotated
annotated_numbered calls carried t =
    in_preorder (cut_texts (placed_tree calls carried t))
    (cut_texts_none (placed_tree calls carried t) (placed_none calls carried (tree_items t) (groups_of t)))

pub few_numbers : (calls : List OuterCall) (carried : Carried) (t : ItemTree) → count (cut_texts (placed_tree calls carried t)) ≤ nodes t
few_numbers calls carried t =
    let c = cut_texts_few (placed_tree calls carried t) in let f = few calls carried (tree_items t) 0 t in omega (arith, c, f)

-- ---- the plain view

pub grouped_plain : (calls : List OuterCall) (carried : Carried) (t : ItemTree) → plain_view (placed_tree calls carried t) ≡ plain_view (unplaced t)
grouped_plain calls carried t = placed_shown calls carried (tree_items t) 0 t end

pub annotated_plain : (calls : List OuterCall) (carried : Carried) (t : ItemTree)
    → plain_view (annotated calls carried t) ≡ plain_view (cut_texts (placed_tree calls carried t))
unfolding annotated
annotated_plain calls carried t = shown_numbered 1 (cut_texts (placed_tree calls carried t)) end

-- ---- numbers before texts are cut

-- texts have no numbers
pub numbers_first : (calls : List OuterCall) (carried : Carried) (t : ItemTree) → cut_texts (with_numbers 1 (placed_tree calls carried t)) ≡ annotated calls carried t
unfolding annotated
numbers_first calls carried t = cut_numbered 1 (placed_tree calls carried t) (placed_bare calls carried (tree_items t) (groups_of t))

-- ---- without calls

pub without_calls : (calls : List OuterCall) (carried : Carried) (t : ItemTree) → IsPlain t → annotated calls carried t ≡ cut_texts (annotated_plainly t)
unfolding annotated annotated_plainly
without_calls calls carried t p =
    let same : placed_tree calls carried t ≡ placed_plainly [] t =
    same_placed calls carried (tree_items t) [] [] t (sym (append-nil (tree_items t))) p.of_page p.none_empty in
    ap (λ (u : Tree). with_numbers 1 (cut_texts u)) same
    ∙ sym (cut_numbered 1 (placed_plainly [] t) (subst BareTexts same (placed_bare calls carried (tree_items t) (groups_of t))))

pub without_calls_or_cuts : (calls : List OuterCall) (carried : Carried) (t : ItemTree) → IsPlain t
    → AllByRecursion HasCutTexts (reached (annotated_plainly t)) → annotated calls carried t ≡ annotated_plainly t
without_calls_or_cuts calls carried t p h = without_calls calls carried t p ∙ cut_texts_stay (annotated_plainly t) h

-- the tree that the one pass makes
pub one_pass : (calls : List OuterCall) (carried : Carried) (t : ItemTree) → IsPlain t → cut_texts (annotated_at 0 1 t) ≡ annotated calls carried t
one_pass calls carried t p = ap cut_texts (sym (annotated_is t)) ∙ sym (without_calls calls carried t p)
