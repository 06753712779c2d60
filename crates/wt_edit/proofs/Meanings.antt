-- The tree of an expanded page.
use Rattle.std.proofs.Common.{◌≡◌, ◌+◌, ◌<◌, ◌≤◌, ◌^◌, ℕ, List, length, IsUtf8, ap, ◌∙◌, arith}
use Rattle.std.specs.Prelude.{None}
use Rattle.wt_span.specs.Cuts.{page_of}
use Rattle.wt_span.specs.Origins.{Expanded}
use Rattle.wt_tree.specs.Tree.{Tree}
use Rattle.wt_inline.specs.ItemTree.{tree_items}
use Rattle.wt_page.specs.Body.{meaning}
use Rattle.wt_annotated.specs.NumbersNeeded.{numbers_needed}
use Rattle.wt_page_round_trip.specs.PageTree.{expanded_tree, page_tree}
use Rattle.wt_page_round_trip.proofs.HeldPages.{its_page}
use Rattle.wt_page_round_trip.proofs.Pages.{page_numbers}
use Rattle.wt_expand.specs.PageCalls.{expanded_page}
use Rattle.wt_expand.specs.Work.{Pages}
use Rattle.wt_edit.specs.Edits.{refusal_of_page}

-- what stands on the page for its expanded items is no longer than a page
pub page_small : (pages : Pages) (page : List ℕ) (e : Expanded) → IsUtf8 page → length page ≤ 2097152 → refusal_of_page pages page ≡ None
    → e ≡ expanded_page pages page → length (page_of e.outer (tree_items (meaning e.items))) < 2 ^ 32
page_small pages page e text room unrefused is =
    let its : length (page_of (expanded_page pages page).outer (tree_items (meaning (expanded_page pages page).items))) ≡ length page =
    ap length (its_page pages page text unrefused) in
    let same : length (page_of e.outer (tree_items (meaning e.items)))
    ≡ length (page_of (expanded_page pages page).outer (tree_items (meaning (expanded_page pages page).items))) =
    ap (λ (x : Expanded). length (page_of x.outer (tree_items (meaning x.items)))) is in
    omega (arith, room, its, same)

-- and its tree has few numbers
pub page_few : (pages : Pages) (page : List ℕ) (e : Expanded) → IsUtf8 page → length page ≤ 2097152 → refusal_of_page pages page ≡ None
    → e ≡ expanded_page pages page → 1 + numbers_needed e.outer (meaning e.items) < 2 ^ 32
page_few pages page e text room unrefused is =
    let few : 1 + numbers_needed (expanded_page pages page).outer (meaning (expanded_page pages page).items) < 2 ^ 32 =
    page_numbers pages page text (omega (arith, room)) unrefused in
    let same : numbers_needed e.outer (meaning e.items) ≡ numbers_needed (expanded_page pages page).outer (meaning (expanded_page pages page).items) =
    ap (λ (x : Expanded). numbers_needed x.outer (meaning x.items)) is in
    omega (arith, few, same)

pub tree_expanded : (pages : Pages) (page : List ℕ) (t : Tree) (e : Expanded) → t ≡ expanded_tree e → e ≡ expanded_page pages page → t ≡ page_tree pages page
tree_expanded pages page t e is same = is ∙ ap expanded_tree same
