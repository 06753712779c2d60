use Rattle.wt_checks.specs.Checked.{nodes_checked}
use Rattle.wt_difference.specs.Difference.{are_none, difference}
use Rattle.wt_difference.specs.Remarked.{remarked}
use Rattle.wt_tree.specs.View.{view}
use Rattle.wt_pagetool.proofs.UnmarkedEdits.{page_found, refusal_found, selser_counted, selser_kept}
use Rattle.wt_pagetool.proofs.selser_command.page_of_known.Goals as goal

pub returns-in_err-new-clause-answered : goal.returns-in_err-new-clause-answered
returns-in_err-new-clause-answered g c = λ pages told knows.
    let t = view c.args.known.annotated.tree.body in
    let edited = view c.args.edited in
    refusal_found pages c.args.known.annotated.items c.args.page.now t (remarked t edited) (are_none (difference t edited))
    (nodes_checked t (remarked t edited)) c.in_err-new.field-0.0 c.from_residual.result (c.in_err-new.ensures.answered pages told knows)
    c.from_residual.ensures.1

pub returns-clause-answered : goal.returns-clause-answered
returns-clause-answered g c = λ pages told knows.
    let t = view c.args.known.annotated.tree.body in
    let edited = view c.args.edited in
    page_found pages c.args.known.annotated.items c.args.page.now t (remarked t edited) (are_none (difference t edited))
    (nodes_checked t (remarked t edited)) c.in_ok-new.new (c.in_ok-new.ensures.answered pages told knows)

pub returns-in_err-new-clause-of_edit : goal.returns-in_err-new-clause-of_edit
returns-in_err-new-clause-of_edit g c =
    let d = g.F.Folder in
    selser_counted (d.fault_count c.args.folder.now) (d.fault_count c.selser.new.folder) c.in_err-new.field-0.0 c.from_residual.result
    c.from_residual.ensures.1 c.in_err-new.ensures.count

pub returns-in_err-new-clause-count : goal.returns-in_err-new-clause-count
returns-in_err-new-clause-count g c =
    let d = g.F.Folder in
    selser_kept (d.fault_count c.args.folder.now) (d.fault_count c.selser.new.folder) c.in_err-new.field-0.0 c.from_residual.result
    c.from_residual.ensures.1 c.in_err-new.ensures.count
