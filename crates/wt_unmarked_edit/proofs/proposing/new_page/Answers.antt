use Rattle.std.proofs.Common.{◌≡◌, ◌∙◌, Err, rules, subst}
use Rattle.wt_transclusion.proofs.AskedLaws.{asks_then}
use Rattle.wt_tree.specs.View.{view}
use Rattle.wt_unmarked_edit.specs.Tried.{HoldsTried, TriedFirst}
use Rattle.wt_unmarked_edit.proofs.TriedLaws.{counted_then, fault_found, fault_of_edit}
use Rattle.wt_unmarked_edit.proofs.proposing.new_page.Goals as goal

pub other_page-requires-clause-known : goal.other_page-requires-clause-known
other_page-requires-clause-known g c = subst HoldsTried c.in-Fails.is c.in_ok-tried.ensures.holds

pub returns-in-Stands-clause-found : goal.returns-in-Stands-clause-found
returns-in-Stands-clause-found g c = λ pages told knows.
    subst (TriedFirst pages c.args.edit.now.items.now c.args.edit.now.page.now (view c.args.edit.now.tree.now) (view c.args.edit.now.edited.now) c.args.edit.now.same)
    c.in-Stands.is (c.in_ok-tried.ensures.tried pages told knows)

pub returns-in-Fails-clause-found : goal.returns-in-Fails-clause-found
returns-in-Fails-clause-found g c = λ pages told knows.
    let t = view c.args.edit.now.tree.now in
    let u = view c.args.edit.now.edited.now in
    let first = subst (TriedFirst pages c.args.edit.now.items.now c.args.edit.now.page.now t u c.args.edit.now.same)
    c.in-Fails.is (c.in_ok-tried.ensures.tried pages told knows) in
    c.other_page.ensures.found pages (c.in_ok-tried.ensures.kept ∙ told) first.0 first.1

pub returns-in-Fails-clause-asks : goal.returns-in-Fails-clause-asks
returns-in-Fails-clause-asks g c =
    let d = g.F.Folder in
    asks_then (d.answered c.args.folder.now) (d.answered c.tried_first.new.folder) (d.answered c.other_page.new.folder)
    (d.most_asked c.args.folder.now) (d.most_asked c.tried_first.new.folder) (d.most_asked c.other_page.new.folder)
    c.in_ok-tried.ensures.asks c.other_page.ensures.asks

pub returns-in_err-tried-clause-found : goal.returns-in_err-tried-clause-found
returns-in_err-tried-clause-found g c = λ pages told knows.
    let d = g.F.Folder in
    let e : c.from_residual.result ≡ Err c.in_err-tried.field-0.0 = search rules in
    fault_found pages c.args.edit.now.items.now c.args.edit.now.page.now (view c.args.edit.now.tree.now) (view c.args.edit.now.edited.now) c.args.edit.now.same
    (d.fault_count c.args.folder.now) (d.fault_count c.tried_first.new.folder) c.from_residual.result c.in_err-tried.field-0.0 e
    c.in_err-tried.ensures.count

pub returns-in_err-tried-clause-count : goal.returns-in_err-tried-clause-count
returns-in_err-tried-clause-count g c =
    let d = g.F.Folder in
    let e : c.from_residual.result ≡ Err c.in_err-tried.field-0.0 = search rules in
    fault_of_edit (d.fault_count c.args.folder.now) (d.fault_count c.tried_first.new.folder) c.from_residual.result c.in_err-tried.field-0.0 e
    c.in_err-tried.ensures.count

pub returns-in-Fails-clause-count : goal.returns-in-Fails-clause-count
returns-in-Fails-clause-count g c =
    let d = g.F.Folder in
    counted_then (d.fault_count c.args.folder.now) (d.fault_count c.tried_first.new.folder) (d.fault_count c.other_page.new.folder) c.other_page.result
    c.in_ok-tried.ensures.count c.other_page.ensures.count
