use Rattle.wt_commands.proofs.WikitextLaws.{memory_refused}
use Rattle.wt_commands.proofs.wikitext_command.read_all.Goals as goal

pub returns-in_err-reader-clause-answered : goal.returns-in_err-reader-clause-answered
returns-in_err-reader-clause-answered g c =
    memory_refused (g.S.Source.left c.args.input.now) c.from_residual-in_err-reader.result c.from_residual-in_err-reader.ensures.1
