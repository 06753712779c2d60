use Rattle.std.proofs.Common.{sym, ap, ◌∙◌}
use Rattle.wt_tree.specs.Source.{flat}
use Rattle.wt_html_in.specs.Answers.{body_of, unsourced_of}
use Rattle.wt_commands.proofs.WikitextLaws.{source_unsourced, source_sourced}
use Rattle.wt_commands.proofs.wikitext_command.source_of.Goals as goal

pub returns-in-Some-clause-answered : goal.returns-in-Some-clause-answered
returns-in-Some-clause-answered c = source_unsourced (body_of c.args.edited.now) (unsourced_of c.args.edited.now) c.in-Some.element (sym c.in-Some.ensures)

pub returns-in_ok-flat-in-None-clause-answered : goal.returns-in_ok-flat-in-None-clause-answered
returns-in_ok-flat-in-None-clause-answered c =
    source_sourced (body_of c.args.edited.now) (unsourced_of c.args.edited.now) c.in_ok-flat-in-None.field-0
    (sym c.in-None.ensures) (c.in_ok-flat-in-None.ensures ∙ ap flat c.body.ensures)
