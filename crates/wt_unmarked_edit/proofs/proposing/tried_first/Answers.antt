use Rattle.wt_tree.specs.View.{view}
use Rattle.wt_unmarked_edit.proofs.TriedLaws.{first_proposed, first_same}
use Rattle.wt_unmarked_edit.proofs.proposing.tried_first.Goals as goal

pub returns-then-same-clause-tried : goal.returns-then-same-clause-tried
returns-then-same-clause-tried g c = λ pages told knows.
    first_same pages c.args.edit.now.items.now c.args.edit.now.page.now (view c.args.edit.now.tree.now) (view c.args.edit.now.edited.now) c.args.edit.now.same
    c.in_ok-page.page c.tried_page.result c.if-same.true c.in_ok-page.ensures (c.tried_page.ensures.tried pages told knows)

pub returns-clause-tried : goal.returns-clause-tried
returns-clause-tried g c = λ pages told knows.
    first_proposed pages c.args.edit.now.items.now c.args.edit.now.page.now (view c.args.edit.now.tree.now) (view c.args.edit.now.edited.now) c.args.edit.now.same
    c.tried_proposal.result c.if-same.false (c.tried_proposal.ensures.tried pages told knows)
