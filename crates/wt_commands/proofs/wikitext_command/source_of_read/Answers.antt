use Rattle.wt_commands.proofs.WikitextLaws.{answered_read, refused_from}
use Rattle.wt_commands.proofs.wikitext_command.source_of_read.Goals as goal

pub returns-clause-answered : goal.returns-clause-answered
returns-clause-answered c bytes fed = answered_read c.in_ok-edited.edited bytes c.source_of.result
    (c.in_ok-edited.ensures.answers bytes fed) c.source_of.ensures.answered

pub returns-in_err-edited-clause-answered : goal.returns-in_err-edited-clause-answered
returns-in_err-edited-clause-answered c bytes fed = refused_from c.in_err-edited.field-0.0 bytes c.from_residual.result
    (c.in_err-edited.ensures.answers bytes fed) c.from_residual.ensures.1
