use Rattle.wt_tree.specs.View.{views}
use Rattle.wt_checks.specs.View.{indexed}
use Rattle.wt_visible.specs.Restored.{all_restored}
use Rattle.wt_visible.specs.Views.{children_view}
use Rattle.wt_visible.proofs.ShownChildren.{nodes_shown}
use Rattle.wt_visible.proofs.children.shown_nodes.Goals as goal

pub returns : goal.returns
returns c =
    nodes_shown (record { done = c.new.result; text = c.new-2.result }) c.push_all_restored.new.shown (all_restored (indexed c.args.page.now) (views c.args.nodes.now))
    (children_view c.end_text.new.shown.done.items) c.new.ensures.items c.new-2.ensures.items c.in_ok-push_all_restored.ensures
    c.in_ok-end_text.ensures.children
