use Rattle.std.proofs.Common.{◌-◌, List, length, get_or, ◌∙◌, subst, arith}
use Rattle.std.proofs.lemmas.Result.{IfOk-weaker}
use Rattle.wt_span.specs.Items.{items}
use Rattle.wt_lines.specs.declared.kind.LineKind.TheVariants as line
use Rattle.wt_inline.specs.Grown.{growth, Grows}
use Rattle.wt_inline.specs.View.{item_tree}
use Rattle.wt_page.specs.Stretches.{Stretch, stretches_parts}
use Rattle.wt_rows.specs.declared.row.RowAt.{RowAt}
use Rattle.wt_rows.specs.Views.{rows_view}
use Rattle.wt_build.specs.Blocks.{block_node}
use Rattle.wt_build.proofs.TextRuns.{same_at}
use Rattle.wt_build.proofs.BlockNodes.{separated, node_view}
use Rattle.wt_build.proofs.GrowingBlocks.{grows_between}
use Rattle.wt_build.proofs.block.with_node_block.Goals as goal

abbrev none : RowAt
none = record { kind = line.Blank; start = 0; from = 0; to = 0; end = 0 }

pub returns : goal.returns
returns c read =
    let ps = c.args.pieces.now in
    let rs = c.args.rows.now in
    let k = c.args.kind in
    let first = get_or rs 0 none in
    let last = get_or rs (length rs - 1) none in
    let some = c.requires.block.some in
    let g = growth c.args.children in
    let is = separated ps rs first last (items c.lead.result.now) (items c.ending.result.now) (item_tree c.in_ok-tree.tree) (block_node k (rows_view ps rs))
    some (same_at rs 0 none first some) (same_at rs (length rs - 1) none last (omega arith)) c.lead.ensures c.ending.ensures c.in_ok-tree.ensures
    ∙ node_view read k ps rs c.requires.node c.requires.block in
    IfOk-weaker c.with_pieces-2.result _ _
    (λ d e. subst (λ (ss : List Stretch). Grows g (stretches_parts ss) (growth d)) is
    (grows_between (items c.lead.result.now) (items c.ending.result.now) (item_tree c.in_ok-tree.tree) g (growth c.in_ok-before.before)
    (growth c.in_ok-behind.behind) (growth d) c.in_ok-before.ensures c.in_ok-behind.ensures e)) c.with_pieces-2.ensures
