use Rattle.std.proofs.Common.{[], ◌∙◌}
use Rattle.wt_content.proofs.ChildFaulting.{children_is}
use Rattle.wt_content.proofs.children.bad_children.Goals as goal

pub returns : goal.returns
returns c = λ same tells.
    c.first.ensures _ (c.add_any.ensures _ (c.in_ok-visit_children.ensures same tells [] c.none-found.ensures))
    ∙ children_is same c.args.new.now c.holder_of-holder.result c.as_slice.result.now c.as_slice-2.result.now c.empty_fault.result
    c.holder_of-holder.ensures c.as_slice.ensures c.as_slice-2.ensures c.empty_fault.ensures
