use Rattle.std.proofs.Common.{arith}
use Rattle.std.proofs.lemmas.Grind.{common_steps}
use Rattle.wt_tree.specs.declared.edit_shape.ItemsOf.TheVariants as item
use Rattle.wt_original.proofs.Nodes.{items_views}
use Rattle.wt_original.proofs.gather.+pushing.Goals as goal

pub push_items_of_all-returns : goal.push_items_of_all-returns
push_items_of_all-returns t c = rw (items_views c.args.nodes.now) (grind (arith, common_steps))
