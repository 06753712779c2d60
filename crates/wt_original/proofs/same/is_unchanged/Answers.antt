use Rattle.std.proofs.Common.{refl}
use Rattle.wt_tree.specs.View.{view}
use Rattle.wt_original.specs.Gathered.{kept_view}
use Rattle.wt_original.specs.PageViews.{page_view}
use Rattle.wt_original.proofs.Sames.{unchanged_group, unchanged_by}
use Rattle.wt_original.proofs.same.is_unchanged.Goals as goal

pub returns-then-is_group : goal.returns-then-is_group
returns-then-is_group c = λ same tells.
    unchanged_group (page_view same c.args.page.now) (kept_view c.args.old) (view c.args.node.now) c.args.old.node.now c.is_group.result refl
    c.is_group.ensures c.if-is_group.true

pub returns : goal.returns
returns c = λ same tells.
    unchanged_by (page_view same c.args.page.now) (kept_view c.args.old) (view c.args.node.now) c.args.old.node.now c.is_group.result
    c.in_ok-answer.answer refl c.is_group.ensures c.if-is_group.false tells c.in_ok-answer.ensures
