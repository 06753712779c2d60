use Rattle.std.proofs.Common.{ap, ◌∙◌}
use Rattle.std.proofs.lemmas.Result.{IfOk-weaker}
use Rattle.wt_span.specs.Items.{items}
use Rattle.wt_tree.specs.View.{view}
use Rattle.wt_inline.specs.ItemTree.{forest, held_by_all}
use Rattle.wt_inline.specs.View.{item_trees}
use Rattle.wt_ranges.specs.Kept.{group_start}
use Rattle.wt_annotated.specs.Pieces.{outer_calls}
use Rattle.wt_ranges.proofs.GroupNodes.{group_is, group_fits}
use Rattle.wt_ranges.proofs.group_node.group_node.Goals as goal

pub group_of-requires-clause-fits : goal.group_of-requires-clause-fits
group_of-requires-clause-fits c =
    group_fits (outer_calls c.args.calls.now) c.args.children c.in_ok-trees.trees c.group_start-start.result (items c.as_slice-3.result.now) c.requires.fit
    c.in_ok-trees.ensures (c.group_start-start.ensures ∙ ap group_start c.as_slice.ensures)
    (ap items c.as_slice-3.ensures ∙ c.in_ok-held.ensures ∙ ap (λ ts. held_by_all (forest (item_trees ts))) c.as_slice-2.ensures)

pub returns : goal.returns
returns c =
    IfOk-weaker c.group_of.result _ _
    (λ n e. group_is (outer_calls c.args.calls.now) c.args.children c.in_ok-trees.trees c.group_start-start.result (view n) c.in_ok-trees.ensures
    (c.group_start-start.ensures ∙ ap group_start c.as_slice.ensures) e)
    c.group_of.ensures
