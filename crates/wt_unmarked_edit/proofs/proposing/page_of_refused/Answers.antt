use Rattle.std.proofs.Common.{◌≡◌, Err, rules}
use Rattle.wt_tree.specs.View.{view}
use Rattle.wt_unmarked_edit.proofs.TriedLaws.{counted_late, fault_found, fault_of_edit, finds_refused, proposal_stands}
use Rattle.wt_unmarked_edit.proofs.proposing.page_of_refused.Goals as goal

pub returns-in-Stands-clause-found : goal.returns-in-Stands-clause-found
returns-in-Stands-clause-found g c = λ pages told knows first.
    proposal_stands pages c.args.edit.now.items.now c.args.edit.now.page.now (view c.args.edit.now.tree.now) (view c.args.edit.now.edited.now) c.args.edit.now.same c.in-Stands.new
    c.in_ok-tried.tried c.in-Stands.is (c.in_ok-tried.ensures.tried pages told knows) first.0

pub returns-clause-found : goal.returns-clause-found
returns-clause-found g c = λ pages told knows first.
    finds_refused pages c.args.edit.now.items.now c.args.edit.now.page.now (view c.args.edit.now.tree.now) (view c.args.edit.now.edited.now) c.args.edit.now.same
    c.late_refusal.result c.args.refusal c.args.fault c.late_refusal.ensures c.requires.edited first

pub returns-clause-count : goal.returns-clause-count
returns-clause-count g c =
    let d = g.F.Folder in
    counted_late (d.fault_count c.args.folder.now) (d.fault_count c.tried_proposal.new.folder) c.args.refusal c.args.fault c.late_refusal.result
    c.late_refusal.ensures c.in_ok-tried.ensures.count

pub returns-in_err-tried-clause-found : goal.returns-in_err-tried-clause-found
returns-in_err-tried-clause-found g c = λ pages told knows first.
    let d = g.F.Folder in
    let e : c.from_residual.result ≡ Err c.in_err-tried.field-0.0 = search rules in
    fault_found pages c.args.edit.now.items.now c.args.edit.now.page.now (view c.args.edit.now.tree.now) (view c.args.edit.now.edited.now) c.args.edit.now.same
    (d.fault_count c.args.folder.now) (d.fault_count c.tried_proposal.new.folder) c.from_residual.result c.in_err-tried.field-0.0 e
    c.in_err-tried.ensures.count

pub returns-in_err-tried-clause-count : goal.returns-in_err-tried-clause-count
returns-in_err-tried-clause-count g c =
    let d = g.F.Folder in
    let e : c.from_residual.result ≡ Err c.in_err-tried.field-0.0 = search rules in
    fault_of_edit (d.fault_count c.args.folder.now) (d.fault_count c.tried_proposal.new.folder) c.from_residual.result c.in_err-tried.field-0.0 e
    c.in_err-tried.ensures.count
