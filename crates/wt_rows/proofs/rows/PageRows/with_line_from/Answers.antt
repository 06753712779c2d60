use Rattle.std.proofs.Common.{◌++◌, ◌-◌, drop, ap, ◌∙◌, arith, length-drop}
use Rattle.std.proofs.lemmas.Result.{IfOk-weaker}
use Rattle.wt_rows.specs.Building.{rows_before}
use Rattle.wt_rows.proofs.LinesBehind.{blank_rows}
use Rattle.wt_rows.proofs.rows.PageRows.with_line_from.Goals as goal

pub returns-in-Blank-clause-rows : goal.returns-in-Blank-clause-rows
returns-in-Blank-clause-rows c =
    let ps = c.args.self.pieces in
    IfOk-weaker c.with_row_from.result _ _ (λ r e. e ∙ ap (λ rs. rows_before c.args.start c.args.self ++ rs)
    (blank_rows c.args.kind (drop c.args.start ps) (c.len.result - c.args.start) c.in-Blank.is
    (omega (arith, c.len.ensures, length-drop c.args.start ps)))) c.with_row_from.ensures.rows
