use Rattle.std.proofs.Common.{[], ap, ◌∙◌}
use Rattle.wt_span.specs.Items.{items}
use Rattle.wt_inline.specs.ItemTree.{inner, forest}
use Rattle.wt_inline.specs.View.{head_of, item_trees}
use Rattle.wt_inline.specs.Grown.{growth}
use Rattle.wt_page.specs.Stretches.{stretches_parts}
use Rattle.wt_rows.specs.Views.{stretches_view}
use Rattle.wt_rows.proofs.Stretching.{made_is}
use Rattle.wt_rows.proofs.stretch.node_round.Goals as goal

pub returns : goal.returns
returns c =
    c.ended_by_last-tree.ensures
    ∙ ap (λ ts. inner (head_of c.args.head) (items c.args.opening) (forest ts) [])
    (made_is (growth c.args.children) (growth c.in_ok-made.made) (stretches_parts (stretches_view c.args.pieces.now c.args.inside))
    (item_trees c.in_ok-nodes.nodes) c.in_ok-made.ensures c.in_ok-nodes.ensures)
