-- The annotated tree of a page with its templates is written, its HTML is read as the tree, and its source is the page.
use Rattle.std.proofs.Common.{◌≡◌, ℕ, ◌+◌, ◌*◌, ◌<◌, ◌≤◌, ◌^◌, None, List, [], ◌++◌, length, IsUtf8, sym, ap, ◌∙◌, arith, append-nil}
use Rattle.wt_span.specs.Cuts.{page_of}
use Rattle.wt_span.specs.Items.{Item}
use Rattle.wt_span.specs.Origins.{OuterCall}
use Rattle.wt_tree.specs.Opened.{without_sections}
use Rattle.wt_tree.specs.Source.{flat}
use Rattle.wt_tree.specs.Tree.{Tree}
use Rattle.wt_schema.specs.Html.{groups, html_text}
use Rattle.wt_schema.specs.Read.{read, page as read_page}
use Rattle.wt_schema.specs.Written.{unranged, IsWritten}
use Rattle.wt_schema.proofs.Again.{same_source}
use Rattle.wt_schema.proofs.Whole.{written_read}
use Rattle.wt_expand.specs.Expansion.{page_work}
use Rattle.wt_expand.specs.PageCalls.{expanded_page}
use Rattle.wt_expand.specs.Work.{Pages, first_refusal}
use Rattle.wt_expand.proofs.ExpandedWidth.{expanded_short}
use Rattle.wt_inline.specs.ItemTree.{ItemTrees, tree_items, held_by_all}
use Rattle.wt_page.specs.Body.{meaning}
use Rattle.wt_page.proofs.HeldBody.{sources_meaning}
use Rattle.wt_annotated.specs.Annotated.{annotated}
use Rattle.wt_annotated.specs.Counted.{numbered_in_all}
use Rattle.wt_annotated.specs.GroupData.{group_data}
use Rattle.wt_annotated.specs.Labels.{width}
use Rattle.wt_annotated.specs.NumbersNeeded.{numbers_needed}
use Rattle.wt_sections.specs.Sections.{with_sections}
use Rattle.wt_sections.proofs.Kept.{source}
use Rattle.wt_page_round_trip.specs.GroupTexts.{ArePageCalls}
use Rattle.wt_page_round_trip.specs.PageTree.{page_tree}
use Rattle.wt_page_round_trip.proofs.Counts.{page_few}
use Rattle.wt_page_round_trip.proofs.DrawnPages.{HoldsNoSection, body_light, opened_again, grouped_body, grouped_none, few_groups_in}
use Rattle.wt_page_round_trip.proofs.ExpandedItems.{expanded_items}
use Rattle.wt_page_round_trip.proofs.HeldPages.{its_page}
use Rattle.wt_page_round_trip.proofs.OfPage.{ArePageItems}
use Rattle.wt_page_round_trip.proofs.OwnItems.{nodes_hold, nodes_parted}
use Rattle.wt_page_round_trip.proofs.PageCalls.{page_calls}
use Rattle.wt_page_round_trip.proofs.PageShown.{body_nodes, page_shown}
use Rattle.wt_page_round_trip.proofs.PageTrees.{ungathered, flat_page}
use Rattle.wt_page_round_trip.proofs.Sectioned.{IsWrittenBody, sections_written}

-- ---- numbers

-- at most two numbers and a group for each byte of the items
body_sum : (xs : List Item) → ArePageItems xs → numbered_in_all (body_nodes xs) + width (held_by_all (body_nodes xs)) ≤ 3 * width xs
unfolding meaning
body_sum xs h =
    let ts : ItemTrees = body_nodes xs in
    let few : 0 + numbered_in_all ts ≤ 2 * width xs = page_few xs h.page in
    let same : width (held_by_all ts ++ []) ≡ width xs = ap length (sources_meaning xs) in
    let wide : width (held_by_all ts ++ []) ≡ width (held_by_all ts) = ap width (append-nil (held_by_all ts)) in
    omega (arith, few, same, wide)

body_few : (xs : List Item) → ArePageItems xs → 3 * width xs < 2 ^ 32 → numbered_in_all (body_nodes xs) + width (held_by_all (body_nodes xs)) < 2 ^ 32
body_few xs h room = omega (arith, body_sum xs h, room)

-- ---- any items

-- the tree of items with these calls
pub items_written : (calls : List OuterCall) (xs : List Item) → ArePageCalls calls → ArePageItems xs → length (page_of calls (tree_items (meaning xs))) < 2 ^ 32
    → 3 * width xs < 2 ^ 32 → IsWrittenBody (annotated calls (group_data calls) (meaning xs))
unfolding meaning
items_written calls xs c h room wide =
    let ts : ItemTrees = body_nodes xs in
    let s = page_shown xs h in
    grouped_body calls ts c s.0 (nodes_parted ts s.1) (nodes_hold ts s.1) room (body_few xs h wide)

items_groups : (calls : List OuterCall) (xs : List Item) → ArePageItems xs → 3 * width xs < 2 ^ 32
    → groups (with_sections (annotated calls (group_data calls) (meaning xs))) < 2 ^ 64
unfolding meaning
items_groups calls xs h wide = few_groups_in calls (body_nodes xs) (page_shown xs h).0 (body_few xs h wide)

-- ---- a page

-- an expansion that nothing refuses gives at most as many bytes as it may cost
page_width : (pages : Pages) (page : List ℕ) → length page < 2 ^ 30 → first_refusal pages page (page_work pages page) ≡ None
    → 3 * width (expanded_page pages page).items < 2 ^ 32
page_width pages page room e = let short = expanded_short pages page e in omega (arith, short, room)

-- fewer numbers than a `u32` has
pub page_numbers : (pages : Pages) (page : List ℕ) → IsUtf8 page → length page < 2 ^ 30 → first_refusal pages page (page_work pages page) ≡ None
    → 1 + numbers_needed (expanded_page pages page).outer (meaning (expanded_page pages page).items) < 2 ^ 32
unfolding meaning
page_numbers pages page u room e =
    let xs : List Item = (expanded_page pages page).items in
    let h : ArePageItems xs = expanded_items pages page u e in
    let light = body_light (expanded_page pages page).outer (body_nodes xs) (page_shown xs h).0 in
    let short = expanded_short pages page e in
    omega (arith, light, body_sum xs h, short, room)

-- the tree before its body's children are gathered
pub body_written : (pages : Pages) (page : List ℕ) → IsUtf8 page → length page < 2 ^ 30 → first_refusal pages page (page_work pages page) ≡ None
    → IsWrittenBody (ungathered (expanded_page pages page).outer (expanded_page pages page).items)
body_written pages page u room e =
    let its : length (page_of (expanded_page pages page).outer (tree_items (meaning (expanded_page pages page).items))) ≡ length page =
    ap length (its_page pages page u e) in
    items_written (expanded_page pages page).outer (expanded_page pages page).items (page_calls pages page u (omega (arith, room)))
    (expanded_items pages page u e) (omega (arith, its, room)) (page_width pages page room e)

pub page_written : (pages : Pages) (page : List ℕ) → IsUtf8 page → length page < 2 ^ 30 → first_refusal pages page (page_work pages page) ≡ None
    → IsWritten (page_tree pages page)
page_written pages page u room e =
    sections_written (ungathered (expanded_page pages page).outer (expanded_page pages page).items) (body_written pages page u room e)

pub page_is_read : (pages : Pages) (page : List ℕ) → IsUtf8 page → length page < 2 ^ 30 → first_refusal pages page (page_work pages page) ≡ None
    → read (html_text (page_tree pages page)) ≡ read_page (unranged (without_sections (page_tree pages page))) None
page_is_read pages page u room e =
    written_read (page_tree pages page) (page_written pages page u room e)
    (items_groups (expanded_page pages page).outer (expanded_page pages page).items (expanded_items pages page u e) (page_width pages page room e))

items_none : (calls : List OuterCall) (xs : List Item) → ArePageItems xs → HoldsNoSection (annotated calls (group_data calls) (meaning xs))
unfolding meaning
items_none calls xs h =
    let ts : ItemTrees = body_nodes xs in
    let s = page_shown xs h in
    grouped_none calls ts s.0 (nodes_parted ts s.1)

-- before its body's children are gathered the page's tree holds no section
pub page_none : (pages : Pages) (page : List ℕ) → IsUtf8 page → first_refusal pages page (page_work pages page) ≡ None
    → HoldsNoSection (ungathered (expanded_page pages page).outer (expanded_page pages page).items)
page_none pages page u e = items_none (expanded_page pages page).outer (expanded_page pages page).items (expanded_items pages page u e)

-- the page's tree without its sections is the annotated tree of its items
pub page_opened : (pages : Pages) (page : List ℕ) → IsUtf8 page → first_refusal pages page (page_work pages page) ≡ None
    → without_sections (page_tree pages page) ≡ ungathered (expanded_page pages page).outer (expanded_page pages page).items
page_opened pages page u e =
    opened_again (ungathered (expanded_page pages page).outer (expanded_page pages page).items) (page_none pages page u e)

pub same_page : (pages : Pages) (page : List ℕ) → IsUtf8 page → first_refusal pages page (page_work pages page) ≡ None
    → flat (unranged (without_sections (page_tree pages page))) ≡ page
same_page pages page u e =
    let t : Tree = ungathered (expanded_page pages page).outer (expanded_page pages page).items in
    same_source (without_sections (page_tree pages page)) ∙ ap flat (page_opened pages page u e) ∙ sym (source t)
    ∙ flat_page pages page (its_page pages page u e)
