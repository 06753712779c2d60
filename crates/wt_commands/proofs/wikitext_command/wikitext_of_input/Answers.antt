use Rattle.std.proofs.Common.{◌≡◌, Err, rules}
use Rattle.wt_commands.specs.Answers.{source_answer}
use Rattle.wt_commands.proofs.WikitextLaws.{answered_whole}
use Rattle.wt_commands.proofs.FaultLaws.{html_stops, passed_stops}
use Rattle.wt_commands.proofs.wikitext_command.wikitext_of_input.Goals as goal

pub returns-clause-answered : goal.returns-clause-answered
returns-clause-answered g c =
    answered_whole source_answer c.in_ok-reader.reader (g.S.Source.left c.args.input.now)
    (g.S.Source.left c.read_all.new.input) c.source_of_read.result c.in_ok-reader.ensures.fed c.source_of_read.ensures.answered

pub returns-in_err-reader-clause-stops : goal.returns-in_err-reader-clause-stops
returns-in_err-reader-clause-stops g c =
    let e : c.from_residual.result ≡ Err c.in_err-reader.field-0.0 = search rules in
    passed_stops c.from_residual.result c.in_err-reader.field-0.0 (g.S.Source.left c.args.input.now) (g.S.Source.left c.read_all.new.input) e
    c.in_err-reader.ensures.stops

pub returns-clause-stops : goal.returns-clause-stops
returns-clause-stops g c =
    html_stops c.source_of_read.result (g.S.Source.left c.args.input.now) (g.S.Source.left c.read_all.new.input) c.source_of_read.ensures.of_html
