use Rattle.std.proofs.Common.{◌-◌, length, ap, ◌∙◌}
use Rattle.std.specs.Prelude.{reverse}
use Rattle.std.specs.List.{prefix_len}
use Rattle.std.proofs.lemmas.Result.{IfOk-weaker}
use Rattle.wt_span.specs.Items.{items}
use Rattle.wt_inline.specs.View.{head_of, item_trees}
use Rattle.wt_inline.specs.Grown.{growth}
use Rattle.wt_rows.specs.Views.{is_gap_at}
use Rattle.wt_rows.proofs.Stretching.{opened_none, opened_is}
use Rattle.wt_rows.proofs.stretch.opened_by.Goals as goal

pub returns-then-n-eq0 : goal.returns-then-n-eq0
returns-then-n-eq0 c =
    IfOk-weaker c.behind_tree.result _ _
    (λ l b. opened_none c.args.pieces.now (head_of c.args.head) (items c.args.opening) (growth c.args.children) c.args.stretches l c.block_len-n.result
    c.ended_by_last-tree.result (item_trees c.in_ok-nodes.nodes)
    (c.block_len-n.ensures.value ∙ ap (λ ss. length ss - prefix_len is_gap_at (reverse ss)) c.as_slice.ensures)
    c.if-n-eq0.true b c.in_ok-nodes.ensures c.ended_by_last-tree.ensures)
    c.behind_tree.ensures

pub returns : goal.returns
returns c =
    IfOk-weaker c.behind_tree-2.result _ _
    (λ l b. opened_is c.args.pieces.now (head_of c.args.head) (items c.args.opening) (growth c.args.children)
    c.args.stretches c.in_ok-inside.inside c.in_ok-inside.after l c.block_len-n.result c.in_ok-tree.tree
    (c.block_len-n.ensures.value ∙ ap (λ ss. length ss - prefix_len is_gap_at (reverse ss)) c.as_slice.ensures)
    c.in_ok-inside.ensures.front c.in_ok-inside.ensures.back b c.in_ok-tree.ensures)
    c.behind_tree-2.ensures
