use Rattle.std.proofs.Common.{sym, ap, ◌∙◌}
use Rattle.std.specs.Prelude.{◌==◌}
use Rattle.wt_transclusion.proofs.TargetTexts.{function_at}
use Rattle.wt_transclusion.proofs.target.is_function.Goals as goal

pub returns : goal.returns
returns c =
    ap (λ b. b == 35) c.byte_at.ensures ∙ sym
    (function_at c.args.source.now c.rest_of-inside.result.now c.front_len.result c.rest_of-inside.ensures c.front_len.ensures.value)
