use Rattle.std.proofs.Common.{ap, sym, ◌∙◌}
use Rattle.std.proofs.lemmas.Result.{IfOk-weaker}
use Rattle.wt_names.specs.Good.{read_text}
use Rattle.wt_tiles.proofs.Bytes.{of_text, of_other}
use Rattle.wt_tiles.proofs.target.read_bytes.Goals as goal

pub returns-in-Ok : goal.returns-in-Ok
returns-in-Ok c = IfOk-weaker c.read_title.result _ _
    (λ t is. is ∙ ap read_text c.in-Ok.ensures.cases.0 ∙ sym (of_text _ c.in-Ok.ensures.cases.1)) c.read_title.ensures

pub returns-in-Err : goal.returns-in-Err
returns-in-Err c = sym (of_other _ c.in-Err.ensures.cases.0)
