-- A paragraph of any lines may stand in a body: what is in it is shown there, whether its lines are text by themselves or not.
use Rattle.std.proofs.Common.{arith, ◌≡◌, ℕ, List, [], ◌∷◌, ◌++◌, map, refl, sym, ap, ◌∙◌, subst}
use Rattle.std.specs.List.{AllByRecursion}
use Rattle.wt_span.specs.Items.{Item}
use Rattle.wt_tree.specs.declared.kind.Kind.TheVariants as kind
use Rattle.wt_lines.specs.Lines.{lines, content, goes_on}
use Rattle.wt_page.specs.Lines.{ending}
use Rattle.wt_span.specs.Runs.{AreRuns}
use Rattle.wt_inline.specs.ItemTree.{plain, ItemTree, inner, forest}
use Rattle.wt_inline.specs.Parts.{Part, children}
use Rattle.wt_annotated.specs.Annotated.{unplaced}
use Rattle.wt_page.specs.Rows.{Row}
use Rattle.wt_page.specs.Texts.{with_separators, para_parts, para}
use Rattle.wt_page_round_trip.proofs.GoodRows.{IsGoodRow, AreGoodRows}
use Rattle.wt_page_round_trip.proofs.OfPage.{ArePageItems}
use Rattle.wt_page_round_trip.proofs.PageLines.{page_lines, content_page, ending_between}
use Rattle.wt_page_round_trip.proofs.Separated.{IsNodeIn}
use Rattle.wt_page_round_trip.proofs.ShownNodes.{IsShownIn}
use Rattle.wt_page_round_trip.proofs.Stretched.{ArePlaced}
use Rattle.wt_page_round_trip.proofs.TextNodes.{para_placed}
use Rattle.wt_text_edit_laws.specs.ParagraphParts.{joined_parts, para_with}
use Rattle.wt_text_edit_laws.proofs.Paragraphs.LineBlocks.{OwnBreaks, IsLineBlock, block_runs, own_parts}
use Rattle.wt_text_edit_laws.proofs.Texts.PlainRows.{text_row}

good_row : (l : List Item) → ArePageItems l → IsGoodRow (text_row l)
good_row l h =
    let c : ArePageItems (content l) × ArePageItems (ending l) = content_page l h in
    record { lead = (tt, tt); items = c.0; ending = (c.1.page, ending_between l); seen = tt }

good_rows : (ls : List (List Item)) → AllByRecursion ArePageItems ls → AreGoodRows (map text_row ls)
good_rows [] h = tt
good_rows (l ∷ ls) h = (good_row l h.0, good_rows ls h.1)

para_is : (rs : List Row) (ps : List Part) → para_parts rs ≡ ps → para rs ≡ para_with ps
unfolding para
para_is rs ps e = ap (λ (qs : List Part). inner (plain kind.Para) [] (forest (children qs)) []) e

pub lines_shown : (xs : List Item) → ArePageItems xs → OwnBreaks xs → IsLineBlock xs → IsShownIn 9 kind.Body (unplaced (para_with (joined_parts (lines xs))))
lines_shown xs h o b =
    let ls : List (List Item) = b.first ∷ b.others in
    let runs : AreRuns goes_on ls xs = block_runs xs b in
    let rows : List Row = map text_row ls in
    let placed : ArePlaced 9 kind.Body (with_separators (para rows) rows) =
    para_placed 9 kind.Body rows (good_rows ls (page_lines ls xs runs h.texts h.page)) (omega arith) refl in
    let node : IsNodeIn 9 kind.Body (para rows) = placed.1.0 in
    subst (λ (t : ItemTree). IsShownIn 9 kind.Body (unplaced t)) (para_is rows (joined_parts (lines xs)) (own_parts xs b o)) node.0.shown
