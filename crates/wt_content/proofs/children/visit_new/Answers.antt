use Rattle.wt_content.proofs.ChildFaulting.{new_inside}
use Rattle.wt_content.proofs.children.visit_new.Goals as goal

pub returns : goal.returns
returns c = λ same tells ws h.
    new_inside same c.args.holder c.args.node.now c.edit_shape-form.result c.may_come.result c.visit_inside.new.found ws c.edit_shape-form.ensures
    c.may_come.ensures c.if-not-may_come.false (c.in_ok-visit_inside.ensures same tells ws h)
