use Rattle.wt_tree.specs.View.{view}
use Rattle.wt_commands.proofs.EditLaws.{edited_read, unread_from}
use Rattle.wt_commands.proofs.AskedLaws.{read_names, unread_names}
use Rattle.wt_commands.proofs.edit_command.edit_of_read.Goals as goal

pub returns-in_err-edited-clause-answered : goal.returns-in_err-edited-clause-answered
returns-in_err-edited-clause-answered g c = λ pages bytes told fed.
    unread_from pages c.args.page.now c.in_err-edited.field-0.0 bytes c.from_residual.result (c.in_err-edited.ensures.answers bytes fed)
    c.from_residual.ensures.1

pub returns-clause-answered : goal.returns-clause-answered
returns-clause-answered g c = λ pages bytes told fed.
    edited_read pages c.args.page.now c.in_ok-edited.edited (view c.body.result.now) bytes c.edit_to.result
    (c.in_ok-edited.ensures.answers bytes fed) c.body.ensures (c.edit_to.ensures.answered pages told)

pub returns-in_err-edited-clause-asked : goal.returns-in_err-edited-clause-asked
returns-in_err-edited-clause-asked g c = λ pages bytes told fed.
    unread_names pages c.args.page.now bytes (g.F.Folder.answered c.args.folder.now) c.from_residual.result c.in_err-edited.field-0.0
    c.from_residual.ensures.1 (c.in_err-edited.ensures.answers bytes fed)

pub returns-clause-asked : goal.returns-clause-asked
returns-clause-asked g c = λ pages bytes told fed.
    let d = g.F.Folder in
    read_names pages c.args.page.now c.in_ok-edited.edited (view c.body.result.now) bytes (d.answered c.args.folder.now)
    (d.answered c.edit_to.new.folder) c.edit_to.result (c.in_ok-edited.ensures.answers bytes fed) c.body.ensures
    (c.edit_to.ensures.asked pages told)
