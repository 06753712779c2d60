use Rattle.wt_splice.specs.Views.{changes_view}
use Rattle.wt_slices.proofs.ListWalk.{none_made, one_made}
use Rattle.wt_slices.proofs.list.push_new_before.Goals as goal

pub returns-then-not-is_child : goal.returns-then-not-is_child
returns-then-not-is_child c = λ same tells.
    none_made same c.args.sign c.args.place c.args.node.now c.is_child.result (changes_view c.args.found.now.items) c.is_child.ensures c.if-not-is_child.true

pub returns : goal.returns
returns c = λ same tells.
    one_made same c.args.sign c.args.place c.args.node.now c.is_child.result (changes_view c.args.found.now.items) (changes_view c.push_broken.new.found.items)
    c.is_child.ensures c.if-not-is_child.false (c.in_ok-push_broken.ensures same tells)
