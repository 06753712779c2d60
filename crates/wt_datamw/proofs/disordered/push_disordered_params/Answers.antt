use Rattle.std.proofs.Common.{◌++◌, ap, ◌∙◌}
use Rattle.serde_json.specs.Written.{has_float, compact_text}
use Rattle.wt_datamw.proofs.Mws.{params_no_float}
use Rattle.wt_datamw.proofs.disordered.push_disordered_params.Goals as goal

pub returns : goal.returns
returns c =
    let value = c.in_ok-value.ensures in
    c.in_ok-push.ensures
    ∙ ap (λ xs. c.args.out.now.items ++ xs)
    (c.as_bytes.ensures.value ∙ c.in_ok-text.ensures.text (ap has_float value ∙ params_no_float c.args.params.now) ∙ ap compact_text value)
