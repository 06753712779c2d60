use Rattle.std.proofs.Common.{◌-◌, length, get_or, ◌∙◌, arith}
use Rattle.std.proofs.lemmas.Result.{IfOk-weaker}
use Rattle.wt_lines.specs.declared.kind.LineKind.TheVariants as line
use Rattle.wt_inline.specs.View.{item_tree}
use Rattle.wt_rows.specs.declared.row.RowAt.{RowAt}
use Rattle.wt_rows.specs.Views.{rows_view}
use Rattle.wt_build.specs.Blocks.{block_node}
use Rattle.wt_build.proofs.TextRuns.{same_at}
use Rattle.wt_build.proofs.BlockNodes.{between_is, node_view}
use Rattle.wt_build.proofs.block.node_block.Goals as goal

abbrev none : RowAt
none = record { kind = line.Blank; start = 0; from = 0; to = 0; end = 0 }

pub returns : goal.returns
returns c read =
    let ps = c.args.pieces.now in
    let rs = c.args.rows.now in
    let first = get_or rs 0 none in
    let last = get_or rs (length rs - 1) none in
    let some = c.requires.block.some in
    IfOk-weaker c.with_separators.result _ _
    (λ l b. between_is ps rs first last (item_tree c.in_ok-tree.tree) (block_node c.args.kind (rows_view ps rs)) l some (same_at rs 0 none first some)
    (same_at rs (length rs - 1) none last (omega arith)) b c.in_ok-tree.ensures
    ∙ node_view read c.args.kind ps rs c.requires.node c.requires.block) c.with_separators.ensures
