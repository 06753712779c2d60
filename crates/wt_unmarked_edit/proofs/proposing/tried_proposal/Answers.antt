use Rattle.std.proofs.Common.{None, refl, subst}
use Rattle.std.specs.Prelude.{IfSome}
use Rattle.wt_places.specs.Rewritten.{IsRewritten}
use Rattle.wt_tree.specs.View.{view}
use Rattle.wt_unmarked_edit.proofs.TriedLaws.{proposal_tried}
use Rattle.wt_unmarked_edit.proofs.proposing.tried_proposal.Goals as goal

pub returns-in-Some-clause-tried : goal.returns-in-Some-clause-tried
returns-in-Some-clause-tried g c = λ pages told knows.
    proposal_tried pages c.args.edit.now.page.now (view c.args.edit.now.tree.now) (view c.args.edit.now.edited.now) c.in-Some.new c.tried_marks.result
    (subst (λ o. IfSome o (IsRewritten c.args.edit.now.page.now (view c.args.edit.now.tree.now) (view c.args.edit.now.edited.now))) c.in-Some.is
    c.in_ok-proposed.ensures) (c.tried_marks.ensures.tried pages told knows)

pub returns-in-None-clause-tried : goal.returns-in-None-clause-tried
returns-in-None-clause-tried g c = λ pages told knows. (knows, record { first = None; made = tt; fails = refl })
