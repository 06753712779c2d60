use Rattle.std.proofs.Common.{List, get_or, ap, ◌∙◌, subst}
use Rattle.std.proofs.lemmas.Result.{IfOk-weaker}
use Rattle.wt_span.specs.Items.{items}
use Rattle.wt_lines.specs.declared.kind.LineKind.TheVariants as line
use Rattle.wt_inline.specs.Grown.{growth, Grows}
use Rattle.wt_page.specs.Rows.{row_items}
use Rattle.wt_page.specs.Stretches.{Stretch, stretches_parts}
use Rattle.wt_rows.specs.declared.row.RowAt.{RowAt}
use Rattle.wt_rows.specs.Views.{row_view}
use Rattle.wt_rows.proofs.Straying.{row_slice}
use Rattle.wt_build.specs.Blocks.{reading_at}
use Rattle.wt_build.proofs.TextRuns.{same_at}
use Rattle.wt_build.proofs.BlockNodes.{blank_block}
use Rattle.wt_build.proofs.GrowingBlocks.{grows_gap, first_ready}
use Rattle.wt_build.proofs.block.with_block.Goals as goal

abbrev none : RowAt
none = record { kind = line.Blank; start = 0; from = 0; to = 0; end = 0 }

pub returns-in-Blank : goal.returns-in-Blank
returns-in-Blank c =
    let ps = c.args.pieces.now in
    let rs = c.args.rows.now in
    let first = get_or rs 0 none in
    let g = growth c.args.children in
    let some = c.requires.block.some in
    let at = same_at rs 0 none first some in
    let is = ap items c.between.ensures ∙ row_slice ps first (first_ready ps rs first some at c.requires.ready.rows) in
    IfOk-weaker c.with_pieces.result _ _
    (λ d e. subst (λ (ss : List Stretch). Grows g (stretches_parts ss) (growth d))
    (blank_block (reading_at c.args.depth) ps rs first c.args.kind c.requires.block at c.in-Blank.is)
    (grows_gap g (growth d) (items c.between.result.now) (row_items (row_view ps first)) is e)) c.with_pieces.ensures

pub returns-in_ok-made-in-TableOpen : goal.returns-in_ok-made-in-TableOpen
returns-in_ok-made-in-TableOpen c =
    let g = growth c.args.children in
    IfOk-weaker c.with_stretches.result _ _
    (λ d e. subst (λ (ss : List Stretch). Grows g (stretches_parts ss) (growth d)) c.in_ok-made-in-TableOpen.ensures e) c.with_stretches.ensures

pub returns-in-TableEnd : goal.returns-in-TableEnd
returns-in-TableEnd c = c.with_node_block.ensures (reading_at c.args.depth)
