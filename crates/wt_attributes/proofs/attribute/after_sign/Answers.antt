use Rattle.std.proofs.Common.{ap, ◌∙◌}
use Rattle.std.specs.Prelude.{slice_get}
use Rattle.wt_attributes.proofs.Runs.{border_sign}
use Rattle.wt_attributes.proofs.attribute.after_sign.Goals as goal

pub split_at-requires : goal.split_at-requires
split_at-requires c =
    border_sign c.args.text.now _ c.args.sign c.utf8.text
    (c.in_ok-first.ensures.value ∙ ap (λ bs. slice_get bs 0) c.as_bytes.ensures.value) c.if-first-sign.true c.requires
