use Rattle.std.proofs.Common.{ap, ◌∙◌}
use Rattle.std.specs.Prelude.{not}
use Rattle.std.specs.List.{prefix_len}
use Rattle.wt_span.specs.Bytes.{is_blank}
use Rattle.wt_context.proofs.UrlTexts.{blank_border}
use Rattle.wt_context.proofs.head.before_blank.Goals as goal

pub split_at-requires : goal.split_at-requires
split_at-requires c = blank_border c.args.text.now c.unblank_len.result
    (c.unblank_len.ensures.value ∙ ap (prefix_len (λ b. not (is_blank b))) c.as_bytes.ensures.value)
