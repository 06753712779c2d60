use Rattle.std.proofs.Common.{length, ap, arith}
use Rattle.wt_page.specs.Lists.{row_at}
use Rattle.wt_rows.specs.Views.{rows_view}
use Rattle.wt_rows.proofs.FewItems.{few_items, few_between}
use Rattle.wt_build.proofs.list.item_stretches.Goals as goal

pub line_item-requires-clause-few : goal.line_item-requires-clause-few
line_item-requires-clause-few c =
    let ps = c.args.pieces.now in
    let rs = c.args.rows.now in
    let line = c.args.list.line in
    let few = few_between (row_at (rows_view ps rs) line) (few_items ps rs line c.requires) in
    omega (arith, ap (λ r. length r.items) (c.row_at.ensures ps), few)
