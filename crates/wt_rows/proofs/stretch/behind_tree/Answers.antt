use Rattle.std.proofs.Common.{◌∷◌, ap, ◌∙◌}
use Rattle.std.proofs.lemmas.Result.{IfOk-weaker}
use Rattle.wt_inline.specs.View.{item_tree}
use Rattle.wt_page.specs.Stretches.{tree_block}
use Rattle.wt_rows.specs.Views.{stretches_view}
use Rattle.wt_rows.proofs.stretch.behind_tree.Goals as goal

pub returns : goal.returns
returns c =
    IfOk-weaker c.before-2.result _ _
    (λ l e ps. ap (stretches_view ps) e ∙ ap (λ t. tree_block (item_tree t) ∷ stretches_view ps c.args.after) c.in_ok-node.ensures.ok) c.before-2.ensures
