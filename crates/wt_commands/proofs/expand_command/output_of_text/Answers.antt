use Rattle.wt_commands.proofs.AskedLaws.{named_expanded, names_done}
use Rattle.wt_commands.proofs.expand_command.output_of_text.Goals as goal

pub returns-in_err-text-clause-asked : goal.returns-in_err-text-clause-asked
returns-in_err-text-clause-asked g c = λ pages told.
    let d = g.F.Folder in
    named_expanded pages c.args.page.now (d.answered c.args.folder.now) (d.answered c.expanded_text.new.folder) c.from_residual.result
    c.in_err-text.field-0.0 c.from_residual.ensures.1 (c.in_err-text.ensures.stops pages told)

pub returns-clause-asked : goal.returns-clause-asked
returns-clause-asked g c = λ pages told.
    let d = g.F.Folder in
    names_done pages c.args.page.now (d.answered c.args.folder.now) (d.answered c.expanded_text.new.folder)
    (c.in_ok-text.ensures.whole pages told) (c.in_ok-text.ensures.named pages told)
