use Rattle.wt_tree.specs.View.{view}
use Rattle.wt_unmarked_edit.proofs.TriedLaws.{marks_hold, marks_tried, marks_unread}
use Rattle.wt_unmarked_edit.proofs.proposing.tried_marks.Goals as goal

pub returns-in-Shows-clause-tried : goal.returns-in-Shows-clause-tried
returns-in-Shows-clause-tried g c = λ pages told knows.
    marks_tried pages (view c.args.edit.now.tree.now) (view c.args.edit.now.edited.now) c.args.new c.as_str.result.now c.in_ok-back.back c.in-Shows.found
    c.in_ok-tried-in-Shows.tried c.in-Shows.is c.as_str.ensures (c.in_ok-back.ensures.read pages told knows) c.in_ok-tried-in-Shows.ensures

pub returns-in-Shows-clause-holds : goal.returns-in-Shows-clause-holds
returns-in-Shows-clause-holds g c =
    marks_hold (view c.args.edit.now.tree.now) (view c.args.edit.now.edited.now) c.args.new c.in_ok-back.back c.in-Shows.found
    c.in_ok-tried-in-Shows.tried c.in-Shows.is c.in_ok-back.ensures.holds c.in_ok-tried-in-Shows.ensures

pub returns-clause-tried : goal.returns-clause-tried
returns-clause-tried g c = λ pages told knows.
    marks_unread pages (view c.args.edit.now.tree.now) (view c.args.edit.now.edited.now) c.args.new c.as_str.result.now c.in_ok-back.back _ _ c.in-Fails.is
    c.as_str.ensures (c.in_ok-back.ensures.read pages told knows)
