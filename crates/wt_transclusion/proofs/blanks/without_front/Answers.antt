use Rattle.std.proofs.Common.{ap, ◌∙◌, drop}
use Rattle.std.specs.List.{prefix_len}
use Rattle.wt_expand.specs.Texts.{is_space}
use Rattle.wt_transclusion.proofs.Trimming.{front_border}
use Rattle.wt_transclusion.proofs.blanks.without_front.Goals as goal

pub split_at-requires : goal.split_at-requires
split_at-requires c = front_border c.args.text.now c.front_len.result c.utf8.text (c.front_len.ensures.value
    ∙ ap (prefix_len is_space) c.as_bytes.ensures.value)

pub returns : goal.returns
returns c = c.split_at.ensures.back ∙ ap (λ n. drop n c.args.text.now) (c.front_len.ensures.value ∙ ap (prefix_len is_space) c.as_bytes.ensures.value)
