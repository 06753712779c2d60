use Rattle.std.proofs.lemmas.Result.{IfOk-weaker}
use Rattle.wt_inline.specs.Grown.{growth}
use Rattle.wt_rows.proofs.OpenedLines.{opened_line_is}
use Rattle.wt_rows.proofs.stretch.opened_line.Goals as goal

pub returns : goal.returns
returns c =
    IfOk-weaker c.opened_by.result _ _ (λ l e. opened_line_is _ _ _ (growth c.in_ok-children.children) _ _ _ c.new.ensures c.in_ok-children.ensures e)
    c.opened_by.ensures
