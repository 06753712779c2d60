use Rattle.std.proofs.Common.{ap, ◌∙◌, subst}
use Rattle.std.specs.Str.{IsUtf8}
use Rattle.wt_expand.specs.Templates.{ends_only}
use Rattle.wt_transclusion.specs.Only.{first_at}
use Rattle.wt_transclusion.proofs.Insides.{next_none, next_last, next_parts, end_place, end_border}
use Rattle.wt_transclusion.proofs.only.next_inside.Goals as goal

pub returns-in_default : goal.returns-in_default
returns-in_default c = next_none c.args.text.now c.in_default.ensures

pub returns-in_default-first_end : goal.returns-in_default-first_end
returns-in_default-first_end c =
    next_last c.args.text.now c.in-Some.inside.now c.in-Some.ensures (c.in_default-first_end.ensures ∙ ap (first_at ends_only) c.as_bytes.ensures.value)

pub split_at-requires : goal.split_at-requires
split_at-requires c = end_place c.in-Some.inside.now c.in-Some-first_end.end (c.in-Some-first_end.ensures ∙ ap (first_at ends_only) c.as_bytes.ensures.value)

pub behind-requires : goal.behind-requires
behind-requires c =
    end_border c.in-Some.inside.now c.split_at.result.1.now c.in-Some-first_end.end (subst IsUtf8 c.as_bytes.ensures.value c.as_bytes.ensures.utf8)
    (c.in-Some-first_end.ensures ∙ ap (first_at ends_only) c.as_bytes.ensures.value) c.split_at.ensures.back

pub returns : goal.returns
returns c =
    next_parts c.args.text.now c.in-Some.inside.now c.split_at.result.0.now c.split_at.result.1.now c.behind.result.now c.in-Some-first_end.end
    c.in-Some.ensures
    (c.in-Some-first_end.ensures ∙ ap (first_at ends_only) c.as_bytes.ensures.value) c.split_at.ensures.front c.split_at.ensures.back c.behind.ensures
