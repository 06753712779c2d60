use Rattle.std.proofs.Common.{ap, sym, ◌∙◌}
use Rattle.wt_tree.specs.View.{view, views}
use Rattle.wt_checks.specs.View.{indexed}
use Rattle.wt_visible.specs.Restored.{all_restored, restored_held}
use Rattle.wt_visible.proofs.RestoredShown.{adds_held, held_group, held_own}
use Rattle.wt_visible.proofs.children.push_held.Goals as goal

pub returns-then-group : goal.returns-then-group
returns-then-group c =
    adds_held c.args.shown.now c.push_all_shown.new.shown (views c.group_held.result.now) (restored_held (indexed c.args.page.now) (view c.args.node.now))
    (held_group (indexed c.args.page.now) c.args.node.now c.group_held.result.now (sym c.is_group-group.ensures ∙ c.if-group.true) c.group_held.ensures)
    c.in_ok-push_all_shown.ensures

pub returns : goal.returns
returns c =
    adds_held c.args.shown.now c.push_all_restored.new.shown (all_restored (indexed c.args.page.now) (views c.as_slice.result.now))
    (restored_held (indexed c.args.page.now) (view c.args.node.now))
    (ap (λ ns. all_restored (indexed c.args.page.now) (views ns)) c.as_slice.ensures
    ∙ held_own (indexed c.args.page.now) c.args.node.now (sym c.is_group-group.ensures ∙ c.if-group.false))
    c.in_ok-push_all_restored.ensures
