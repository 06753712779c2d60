use Rattle.wt_tree.specs.View.{view}
use Rattle.wt_new_page.proofs.Differing.{compared_fails, compared_shows}
use Rattle.wt_new_page.proofs.asked.compared.Goals as goal

pub returns-in-None : goal.returns-in-None
returns-in-None c =
    compared_shows c.args.found (view c.args.edit.now.tree.now) (view c.args.edit.now.edited.now) c.in_ok-child.child c.in-None.is c.in_ok-child.ensures

pub returns : goal.returns
returns c =
    compared_fails c.args.found (view c.args.edit.now.tree.now) (view c.args.edit.now.edited.now) c.in_ok-child.child c.in-Some.child
    c.in-Some.is c.in_ok-child.ensures
