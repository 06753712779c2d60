use Rattle.std.proofs.Common.{◌-◌, ap, sym, ◌∙◌, length, take}
use Rattle.std.specs.Prelude.{reverse}
use Rattle.std.specs.List.{prefix_len}
use Rattle.wt_expand.specs.Texts.{is_space}
use Rattle.wt_transclusion.proofs.Trimming.{back_border, back_is}
use Rattle.wt_transclusion.proofs.blanks.without_back.Goals as goal

pub split_at-requires : goal.split_at-requires
split_at-requires c = back_border c.args.text.now c.back_end.result (c.back_end.ensures.value
    ∙ ap (λ bs. length bs - prefix_len is_space (reverse bs)) c.as_bytes.ensures.value)

pub returns : goal.returns
returns c =
    c.split_at.ensures.front ∙ ap (λ n. take n c.args.text.now) (c.back_end.ensures.value
    ∙ ap (λ bs. length bs - prefix_len is_space (reverse bs)) c.as_bytes.ensures.value)
    ∙ sym (back_is is_space c.args.text.now)
