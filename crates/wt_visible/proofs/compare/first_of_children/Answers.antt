use Rattle.std.proofs.Common.{arith, refl, ◌+◌}
use Rattle.wt_visible.specs.Views.{children_view}
use Rattle.wt_visible.proofs.ShownChildren.{none_differs, first_differs}
use Rattle.wt_visible.proofs.compare.first_of_children.Goals as goal

pub returns-then-common-left : goal.returns-then-common-left
returns-then-common-left c =
    first_differs c.args.left.now c.args.right.now (children_view c.args.left.now) (children_view c.args.right.now) c.in_ok-common.common
    (c.in_ok-common.common + 1) refl refl (omega arith) c.in_ok-common.ensures (λ l r. omega (arith, c.if-common-left.true, l))

pub returns-then-common-right : goal.returns-then-common-right
returns-then-common-right c =
    first_differs c.args.left.now c.args.right.now (children_view c.args.left.now) (children_view c.args.right.now) c.in_ok-common.common
    (c.in_ok-common.common + 1) refl refl (omega arith) c.in_ok-common.ensures (λ l r. omega (arith, c.if-common-right.true, r))

pub returns : goal.returns
returns c =
    none_differs c.args.left.now c.args.right.now (children_view c.args.left.now) (children_view c.args.right.now) c.in_ok-common.common refl refl
    c.in_ok-common.ensures c.if-common-left.false c.if-common-right.false
