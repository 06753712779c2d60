use Rattle.std.proofs.Common.{◌≡◌, Err, rules}
use Rattle.wt_tree.specs.View.{view}
use Rattle.wt_unmarked_edit.proofs.TriedLaws.{counted_fault, edit_fails, edit_stands, fault_found, fault_of_edit}
use Rattle.wt_unmarked_edit.proofs.proposing.page_of_edit.Goals as goal

pub returns-in-Stands-clause-found : goal.returns-in-Stands-clause-found
returns-in-Stands-clause-found g c = λ pages told knows first.
    edit_stands pages c.args.edit.now.items.now c.args.edit.now.page.now (view c.args.edit.now.tree.now) (view c.args.edit.now.edited.now) c.args.edit.now.same c.args.new c.in-Stands.new
    c.in_ok-tried.tried c.in-Stands.is c.requires.edited (c.in_ok-tried.ensures.tried pages told knows) first.0

pub returns-clause-found : goal.returns-clause-found
returns-clause-found g c = λ pages told knows first.
    edit_fails pages c.args.edit.now.items.now c.args.edit.now.page.now (view c.args.edit.now.tree.now) (view c.args.edit.now.edited.now) c.args.edit.now.same c.args.new
    c.in_ok-tried.tried _ c.args.fault _ c.refusal_of.result c.in-Fails.is c.refusal_of.ensures c.requires.edited
    (c.in_ok-tried.ensures.tried pages told knows) first

pub returns-clause-count : goal.returns-clause-count
returns-clause-count g c =
    let d = g.F.Folder in
    counted_fault (d.fault_count c.args.folder.now) (d.fault_count c.tried_page.new.folder) c.args.fault c.refusal_of.result c.refusal_of.ensures
    c.in_ok-tried.ensures.count

pub returns-in_err-tried-clause-found : goal.returns-in_err-tried-clause-found
returns-in_err-tried-clause-found g c = λ pages told knows first.
    let d = g.F.Folder in
    let e : c.from_residual.result ≡ Err c.in_err-tried.field-0.0 = search rules in
    fault_found pages c.args.edit.now.items.now c.args.edit.now.page.now (view c.args.edit.now.tree.now) (view c.args.edit.now.edited.now) c.args.edit.now.same
    (d.fault_count c.args.folder.now) (d.fault_count c.tried_page.new.folder) c.from_residual.result c.in_err-tried.field-0.0 e
    c.in_err-tried.ensures.count

pub returns-in_err-tried-clause-count : goal.returns-in_err-tried-clause-count
returns-in_err-tried-clause-count g c =
    let d = g.F.Folder in
    let e : c.from_residual.result ≡ Err c.in_err-tried.field-0.0 = search rules in
    fault_of_edit (d.fault_count c.args.folder.now) (d.fault_count c.tried_page.new.folder) c.from_residual.result c.in_err-tried.field-0.0 e
    c.in_err-tried.ensures.count
