use Rattle.std.proofs.Common.{[], sym}
use Rattle.wt_expand.specs.Expansion.{page_work}
use Rattle.wt_expand.specs.Fronts.{known_after}
use Rattle.wt_expand.specs.Work.{fetches}
use Rattle.wt_tree.specs.View.{view}
use Rattle.wt_unmarked_edit.proofs.TriedLaws.{fault_counted, holds_read, read_as, uncounted, unread_fault}
use Rattle.wt_unmarked_edit.proofs.reading_back.read_text.Goals as goal

pub returns-in-Ok-clause-read : goal.returns-in-Ok-clause-read
returns-in-Ok-clause-read g c = λ pages told knows.
    read_as pages (view c.args.edit.now.tree.now) (view c.args.edit.now.edited.now) c.args.new.now c.in-Ok.found c.in_ok-back-in-Ok.back
    (record { text = c.utf8.new; within = c.requires.room })
    (c.in-Ok.ensures.whole pages knows.0 told knows.1) (c.in-Ok.ensures.tree pages knows.0 told knows.1)
    (known_after knows.0 (fetches (page_work pages c.args.new.now)), (c.in-Ok.ensures.named pages knows.0 told knows.1).free)
    c.in_ok-back-in-Ok.ensures

pub returns-in-Ok-clause-holds : goal.returns-in-Ok-clause-holds
returns-in-Ok-clause-holds g c =
    holds_read c.in-Ok.found (view c.args.edit.now.tree.now) (view c.args.edit.now.edited.now) c.in_ok-back-in-Ok.back c.in-Ok.ensures.known
    c.in_ok-back-in-Ok.ensures

pub returns-in-Some-clause-count : goal.returns-in-Some-clause-count
returns-in-Some-clause-count g c =
    let d = g.F.Folder in
    fault_counted (d.fault_count c.args.folder.now) (d.fault_count c.known_page.new.folder) c.in-Err.refusal c.in-Some.fault (sym c.in-Some.ensures)
    c.in-Err.ensures.count

pub returns-clause-read : goal.returns-clause-read
returns-clause-read g c = λ pages told knows. (
  ([], c.new_expansion.ensures.free pages),
  unread_fault pages (view c.args.edit.now.tree.now) (view c.args.edit.now.edited.now) c.args.new.now c.in-Err.refusal
      (record { text = c.utf8.new; within = c.requires.room }) (sym c.in-None.ensures) (c.in-Err.ensures.refused pages knows.0 told knows.1),
)

pub returns-clause-count : goal.returns-clause-count
returns-clause-count g c =
    let d = g.F.Folder in
    uncounted (d.fault_count c.args.folder.now) (d.fault_count c.known_page.new.folder) c.in-Err.refusal (sym c.in-None.ensures) c.in-Err.ensures.count
