use Rattle.wt_inline.specs.View.{item_tree, item_trees}
use Rattle.wt_inline.specs.Grown.{growth}
use Rattle.wt_inline.proofs.Growing.{grows_node}
use Rattle.wt_inline.proofs.Trees.{pushed}
use Rattle.wt_inline.proofs.children.Children.with_tree.Goals as goal

pub returns : goal.returns
returns c = grows_node (growth c.args.self) (item_trees c.in_ok-trees.trees) (item_trees c.push_tight.new.self)
    (item_tree c.args.tree) c.in_ok-trees.ensures (pushed c.in_ok-trees.trees c.push_tight.new.self c.args.tree c.in_ok-push_tight.ensures.ok)
