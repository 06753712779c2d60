use Rattle.std.proofs.Common.{◌≡◌, rules}
use Rattle.std.specs.Prelude.{Ok, Err}
use Rattle.wt_tree.specs.View.{view}
use Rattle.wt_selser.specs.Edits.{edit_answer}
use Rattle.wt_visible.specs.SameNodes.{same_node}
use Rattle.wt_commands.proofs.WholeEdits.{edit_answers, edit_counted, edit_done_names, edit_kept, edit_refused_asked, edit_refused_from}
use Rattle.wt_commands.proofs.edit_command.new_page.Goals as goal

pub returns-in_err-changed-clause-answered : goal.returns-in_err-changed-clause-answered
returns-in_err-changed-clause-answered g c = λ pages met told free.
    let page = c.args.page.now in
    let edited = view c.args.edited.now in
    let answer = edit_answer same_node c.args.known.annotated.items page (view c.args.known.annotated.tree.body) edited in
    let d = g.F.Folder in
    let before = d.answered c.args.folder.now in
    let after = d.answered c.edit.new.folder in
    let is : c.edit.result ≡ Err c.in_err-changed.field-0.0 = search rules in
    edit_refused_from pages (view c.args.known.annotated.tree.body) edited answer before after c.edit.result c.in_err-changed.field-0.0
    c.from_residual.result is c.edit.ensures.new_page (c.in_err-changed.ensures.answered pages met told free)
    c.from_residual.ensures.1

pub returns-clause-answered : goal.returns-clause-answered
returns-clause-answered g c = λ pages met told free.
    edit_answers pages (view c.args.known.annotated.tree.body) (view c.args.edited.now)
    (edit_answer same_node c.args.known.annotated.items c.args.page.now (view c.args.known.annotated.tree.body) (view c.args.edited.now))
    c.in_ok-changed.changed c.in_ok-changed.ensures.page (c.in_ok-changed.ensures.answered pages met told free)

pub returns-in_err-changed-clause-asked : goal.returns-in_err-changed-clause-asked
returns-in_err-changed-clause-asked g c = λ pages met told free.
    let page = c.args.page.now in
    let edited = view c.args.edited.now in
    let answer = edit_answer same_node c.args.known.annotated.items page (view c.args.known.annotated.tree.body) edited in
    let d = g.F.Folder in
    let before = d.answered c.args.folder.now in
    let after = d.answered c.edit.new.folder in
    let is : c.edit.result ≡ Err c.in_err-changed.field-0.0 = search rules in
    edit_refused_asked met pages answer before after c.edit.result c.in_err-changed.field-0.0 c.from_residual.result is
    c.edit.ensures.new_page (c.in_err-changed.ensures.asked pages met told free) c.from_residual.ensures.1

pub returns-clause-asked : goal.returns-clause-asked
returns-clause-asked g c = λ pages met told free.
    let page = c.args.page.now in
    let edited = view c.args.edited.now in
    let answer = edit_answer same_node c.args.known.annotated.items page (view c.args.known.annotated.tree.body) edited in
    let d = g.F.Folder in
    let before = d.answered c.args.folder.now in
    let after = d.answered c.edit.new.folder in
    let is : c.edit.result ≡ Ok c.in_ok-changed.changed = search rules in
    edit_done_names met pages answer before after c.edit.result c.in_ok-changed.changed is c.edit.ensures.new_page
    (c.in_ok-changed.ensures.asked pages met told free)

pub returns-in_err-changed-clause-of_edit : goal.returns-in_err-changed-clause-of_edit
returns-in_err-changed-clause-of_edit g c =
    let d = g.F.Folder in
    edit_counted (d.fault_count c.args.folder.now) (d.fault_count c.edit.new.folder) c.in_err-changed.field-0.0 c.from_residual.result
    c.from_residual.ensures.1 c.in_err-changed.ensures.count

pub returns-in_err-changed-clause-count : goal.returns-in_err-changed-clause-count
returns-in_err-changed-clause-count g c =
    let d = g.F.Folder in
    edit_kept (d.fault_count c.args.folder.now) (d.fault_count c.edit.new.folder) c.in_err-changed.field-0.0 c.from_residual.result
    c.from_residual.ensures.1 c.in_err-changed.ensures.count
