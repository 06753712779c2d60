use Rattle.wt_tree.specs.Opened.{opened}
use Rattle.wt_tree.specs.View.{views}
use Rattle.wt_checks.proofs.Passing.{children_same, children_other}
use Rattle.wt_checks.proofs.unmarked.same_children.Goals as goal

pub returns-in-None : goal.returns-in-None
returns-in-None c = children_other (opened (views c.args.page.now)) c.args.edited.now c.in-None.ensures

pub returns-in-Some : goal.returns-in-Some
returns-in-Some c =
    children_same (opened (views c.args.page.now)) c.args.edited.now c.in-Some.behind c.compared_from.result c.in-Some.ensures c.compared_from.ensures
