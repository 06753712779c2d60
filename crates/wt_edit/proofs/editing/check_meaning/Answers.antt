use Rattle.std.proofs.Common.{ap, ◌∙◌}
use Rattle.wt_tree.specs.View.{view}
use Rattle.wt_expand.specs.Work.{fetches, firsts_after}
use Rattle.wt_edit.specs.Asked.{work_done}
use Rattle.wt_edit.specs.Edits.{shown_by}
use Rattle.wt_edit.proofs.AskedLaws.{all_first, asked_memory, new_asked, new_stopped}
use Rattle.wt_edit.proofs.EditLaws.{meant, new_refused, refused_counted}
use Rattle.wt_edit.proofs.editing.check_meaning.Goals as goal

pub returns-in-Some-clause-refused : goal.returns-in-Some-clause-refused
returns-in-Some-clause-refused g c = λ pages met told free.
    meant pages (view c.args.revision.annotated.now.tree.body) (view c.args.revision.edited.now) (view c.in-Ok.found.annotated.tree.body) c.args.new_page.now
    c.in_ok-child-in-Ok.field-0 (c.in-Ok.ensures.whole pages met told free)
    (c.in-Ok.ensures.tree pages met told free) c.in_ok-child-in-Ok.ensures
    ∙ ap (shown_by c.args.new_page.now) c.in-Some.is

pub returns-in-None-clause-meant : goal.returns-in-None-clause-meant
returns-in-None-clause-meant g c = λ pages met told free.
    meant pages (view c.args.revision.annotated.now.tree.body) (view c.args.revision.edited.now) (view c.in-Ok.found.annotated.tree.body) c.args.new_page.now
    c.in_ok-child-in-Ok.field-0 (c.in-Ok.ensures.whole pages met told free)
    (c.in-Ok.ensures.tree pages met told free) c.in_ok-child-in-Ok.ensures
    ∙ ap (shown_by c.args.new_page.now) c.in-None.is

pub returns-in_err-child-in-Ok-clause-asked : goal.returns-in_err-child-in-Ok-clause-asked
returns-in_err-child-in-Ok-clause-asked g c = λ pages met told free.
    let d = g.F.Folder in
    let names = firsts_after met (fetches (work_done pages c.args.new_page.now)) in
    asked_memory names (d.answered c.args.folder.now) (d.answered c.known_page.new.folder) c.from_residual.result
    c.from_residual.ensures.1
    (all_first names (d.answered c.args.folder.now) (d.answered c.known_page.new.folder)
    (new_asked met pages c.args.new_page.now c.in-Ok.found.expansion (d.answered c.args.folder.now)
    (d.answered c.known_page.new.folder) (c.in-Ok.ensures.whole pages met told free) (c.in-Ok.ensures.named pages met told free)))

pub returns-in-Some-clause-asked : goal.returns-in-Some-clause-asked
returns-in-Some-clause-asked g c = λ pages met told free.
    let d = g.F.Folder in
    new_asked met pages c.args.new_page.now c.in-Ok.found.expansion (d.answered c.args.folder.now)
    (d.answered c.known_page.new.folder) (c.in-Ok.ensures.whole pages met told free) (c.in-Ok.ensures.named pages met told free)

pub returns-in-None-clause-asked : goal.returns-in-None-clause-asked
returns-in-None-clause-asked g c = λ pages met told free.
    let d = g.F.Folder in
    new_asked met pages c.args.new_page.now c.in-Ok.found.expansion (d.answered c.args.folder.now)
    (d.answered c.known_page.new.folder) (c.in-Ok.ensures.whole pages met told free) (c.in-Ok.ensures.named pages met told free)

pub returns-in-Err-clause-asked : goal.returns-in-Err-clause-asked
returns-in-Err-clause-asked g c = λ pages met told free.
    let d = g.F.Folder in
    new_stopped met pages c.args.new_page.now (d.answered c.args.folder.now) (d.answered c.known_page.new.folder)
    c.in-Err.refusal c.new_refusal.result c.new_refusal.ensures (c.in-Err.ensures.stops pages met told free)

pub returns-in-Err-clause-refused : goal.returns-in-Err-clause-refused
returns-in-Err-clause-refused g c = λ pages met told free.
    new_refused pages (view c.args.revision.annotated.now.tree.body) (view c.args.revision.edited.now) c.args.new_page.now c.in-Err.refusal c.new_refusal.result
    c.new_refusal.ensures (c.in-Err.ensures.refused pages met told free)

pub returns-in-Err-clause-count : goal.returns-in-Err-clause-count
returns-in-Err-clause-count g c =
    let d = g.F.Folder in
    refused_counted (d.fault_count c.args.folder.now) (d.fault_count c.known_page.new.folder) c.in-Err.refusal c.new_refusal.result
    c.new_refusal.ensures c.in-Err.ensures.count
