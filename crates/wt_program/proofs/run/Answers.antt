use Rattle.wt_commands.specs.Calls.{call}
use Rattle.wt_commands.specs.Devices.{read_from, fetched_from, written_to}
use Rattle.wt_program.proofs.EditCalls.{calls_take_edits}
use Rattle.wt_program.proofs.run.Goals as goal

-- src/lib.rt:39:1
pub returns-clause-takes_text_edits : goal.returns-clause-takes_text_edits
returns-clause-takes_text_edits g c =
    calls_take_edits
    (call c.args.words.now (read_from g.S.Source c.args.input.now c.run.new.input) (fetched_from g.F.Folder c.args.folder.now c.run.new.folder)
    (written_to g.W.Sink c.args.out.now c.run.new.out) (written_to g.E.Sink c.args.err.now c.run.new.err))
    c.run.result c.run.ensures.ends c.run.ensures.ends_as_edit
