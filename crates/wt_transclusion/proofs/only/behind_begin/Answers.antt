use Rattle.std.proofs.Common.{ap, ◌∙◌}
use Rattle.wt_expand.specs.Templates.{begins_only}
use Rattle.wt_transclusion.specs.Only.{first_at}
use Rattle.wt_transclusion.proofs.Insides.{begin_place, begin_border, behind_found}
use Rattle.wt_transclusion.proofs.only.behind_begin.Goals as goal

pub behind-requires : goal.behind-requires
behind-requires c = begin_place c.args.text.now c.in-Some.at (c.in-Some.ensures ∙ ap (first_at begins_only) c.as_bytes.ensures.value)

pub behind-requires-in-Some : goal.behind-requires-in-Some
behind-requires-in-Some c =
    begin_border c.args.text.now c.behind.result.now c.in-Some.at c.behind.utf8 (c.in-Some.ensures
    ∙ ap (first_at begins_only) c.as_bytes.ensures.value) c.behind.ensures

pub returns-in-Some : goal.returns-in-Some
returns-in-Some c =
    behind_found c.args.text.now c.behind.result.now c.behind-in-Some.result.now c.in-Some.at (c.in-Some.ensures
    ∙ ap (first_at begins_only) c.as_bytes.ensures.value)
    c.behind.ensures c.behind-in-Some.ensures
