use Rattle.wt_tree.specs.View.{view}
use Rattle.wt_checks.specs.View.{indexed}
use Rattle.wt_visible.specs.Restored.{restored_held}
use Rattle.wt_visible.specs.Views.{children_view}
use Rattle.wt_visible.proofs.ShownChildren.{nodes_shown}
use Rattle.wt_visible.proofs.children.held_nodes.Goals as goal

pub returns : goal.returns
returns c =
    nodes_shown (record { done = c.new.result; text = c.new-2.result }) c.push_held.new.shown (restored_held (indexed c.args.page.now) (view c.args.body.now))
    (children_view c.end_text.new.shown.done.items) c.new.ensures.items c.new-2.ensures.items c.in_ok-push_held.ensures
    c.in_ok-end_text.ensures.children
