use Rattle.wt_tree.specs.View.{view}
use Rattle.wt_original.specs.Gathered.{kept_view}
use Rattle.wt_original.specs.PageViews.{page_view}
use Rattle.wt_guards.specs.Views.{all_signs}
use Rattle.wt_escape.proofs.Signing.{leaves_changed, leaves_kept}
use Rattle.wt_escape.proofs.units.push_old.Goals as goal

pub returns-then-not-same : goal.returns-then-not-same
returns-then-not-same c = λ same tells.
    leaves_changed (page_view same c.args.page.now) (kept_view c.args.old) (view c.args.node.now) (all_signs c.args.out.now.items)
    c.in_ok-same.same (c.in_ok-same.ensures same tells) c.if-not-same.true

pub returns : goal.returns
returns c = λ same tells.
    leaves_kept (page_view same c.args.page.now) (kept_view c.args.old) (view c.args.node.now) (all_signs c.args.out.now.items)
    (all_signs c.push_kept.new.out.items) c.in_ok-same.same (c.in_ok-same.ensures same tells) c.if-not-same.false c.in_ok-push_kept.ensures
