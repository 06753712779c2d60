use Rattle.std.proofs.Common.{sym, ap, ◌∙◌}
use Rattle.std.specs.Prelude.{is_some}
use Rattle.wt_expand.specs.Templates.{ends_only}
use Rattle.wt_transclusion.specs.Only.{first_at}
use Rattle.wt_transclusion.proofs.Insides.{only_none, only_some}
use Rattle.wt_transclusion.proofs.only.has_only.Goals as goal

pub returns-in-Some : goal.returns-in-Some
returns-in-Some c =
    c.is_some.ensures ∙ ap is_some (c.first_end.ensures ∙ ap (first_at ends_only) c.as_bytes.ensures.value)
    ∙ sym (only_some c.args.text.now c.in-Some.rest.now c.in-Some.ensures)

pub returns-in-None : goal.returns-in-None
returns-in-None c = sym (only_none c.args.text.now c.in-None.ensures)
