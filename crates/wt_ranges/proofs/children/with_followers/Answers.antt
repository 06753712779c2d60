use Rattle.std.proofs.Common.{refl}
use Rattle.wt_inline.specs.View.{item_trees}
use Rattle.wt_ranges.specs.Followers.{trees_after}
use Rattle.wt_ranges.proofs.ChildWalks.{follow_step}
use Rattle.wt_ranges.proofs.children.with_followers.Goals as goal

pub loop-tree-preserved : goal.loop-tree-preserved
loop-tree-preserved c =
    follow_step c.loop-tree.trees.items c.pop.new.self.items c.in-Some.tree c.loop-tree.followed.items c.push.new.self.items
    (record { tree = c.in-Some.tree; after = c.loop-tree.after }) c.loop-tree.after c.first_call_of-first.result
    (trees_after (item_trees c.args.trees) c.args.after) c.in-Some.ensures.items c.in_ok-push.ensures.items refl c.first_call_of-first.ensures
    c.loop-tree.invariant
