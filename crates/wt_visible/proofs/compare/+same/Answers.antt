use Rattle.std.proofs.Common.{arith, ◌≡◌, ℕ, true, length, take, ap, subst, ◌∙◌}
use Rattle.wt_tree.specs.declared.node.Node.{out-Node}
use Rattle.wt_tree.specs.Plain.{ended, face, plains_before}
use Rattle.wt_tree.specs.View.{label_of}
use Rattle.wt_visible.specs.Views.{children_view, held_view}
use Rattle.wt_visible.proofs.Sizes.{sizes, total, child_fewer, held_fewer}
use Rattle.wt_visible.proofs.RestoredShown.{children_else, children_then, decided_of, elements_decided, elements_differ}
use Rattle.wt_visible.proofs.ShownChildren.{same_more, differ_here, one_ends}
use Rattle.wt_visible.proofs.compare.+same.Goals as goal

pub common_len-returns-then-at-right : goal.common_len-returns-then-at-right
common_len-returns-then-at-right t c =
    one_ends c.args.left.now c.args.right.now c.loop-at.at (omega (arith, c.loop-at-test.true)) c.loop-at.invariant.within
    (λ l r. omega (arith, c.if-at-right.true, r)) c.loop-at.invariant.same

pub common_len-returns-then-not-same : goal.common_len-returns-then-not-same
common_len-returns-then-not-same t c =
    differ_here c.args.left.now c.args.right.now c.loop-at.at c.index-left-at.result c.index-right-at.result c.loop-at-test.true c.if-at-right.false
    c.index-left-at.is c.index-right-at.is c.loop-at.invariant.same
    (λ e. let t : c.in_ok-same.same ≡ true = c.in_ok-same.ensures.1 e in let f = c.if-not-same.true in absurd (cc))

pub common_len-loop-at-preserved : goal.common_len-loop-at-preserved
common_len-loop-at-preserved t c = record {
  within = omega (arith, c.if-at-right.false);
  same = same_more c.args.left.now c.args.right.now c.loop-at.at c.index-left-at.result c.index-right-at.result c.loop-at-test.true c.if-at-right.false
      c.index-left-at.is c.index-right-at.is c.loop-at.invariant.same (c.in_ok-same.ensures.0 c.if-not-same.false);
}

pub common_len-returns : goal.common_len-returns
common_len-returns t c =
    let at_end = c.loop-at.auto.at-end in
    let e : c.loop-at.at ≡ length c.args.left.now = omega (arith, c.loop-at-test.false, at_end) in
    let within = c.loop-at.invariant.within in
    one_ends c.args.left.now c.args.right.now (length c.args.left.now) (omega arith) (omega (arith, e, within)) (λ l r. omega (arith, l))
    (subst (λ (k : ℕ). take k (children_view c.args.left.now) ≡ take k (children_view c.args.right.now)) e c.loop-at.invariant.same)

pub same_children-returns-then-common-left : goal.same_children-returns-then-common-left
same_children-returns-then-common-left t c =
    children_then c.args.left.now c.args.right.now c.in_ok-common.common (omega (arith, c.if-common-left.true)) c.in_ok-common.ensures

pub same_children-returns-else-common-left : goal.same_children-returns-else-common-left
same_children-returns-else-common-left t c =
    children_else c.args.left.now c.args.right.now c.in_ok-common.common (λ e. omega (arith, c.if-common-left.false, e)) c.in_ok-common.ensures

pub same_nodes-returns-then-not-alike : goal.same_nodes-returns-then-not-alike
same_nodes-returns-then-not-alike t c =
    elements_differ (face (label_of (out-Node c.args.a.node.now))) (face (label_of (out-Node c.args.b.node.now))) (plains_before (held_view c.args.a) ended)
    (plains_before (held_view c.args.b) ended) c.same_face-alike.result c.same_face-alike.ensures c.if-not-alike.true

pub same_nodes-returns : goal.same_nodes-returns
same_nodes-returns t c =
    elements_decided (face (label_of (out-Node c.args.a.node.now))) (face (label_of (out-Node c.args.b.node.now))) (plains_before (held_view c.args.a) ended)
    (plains_before (held_view c.args.b) ended) c.in_ok-inside.inside (c.same_face-alike.ensures.0 c.if-not-alike.false)
    (decided_of (children_view c.as_slice.result.now) (children_view c.as_slice-2.result.now) _ _ c.in_ok-inside.inside
    (ap children_view c.as_slice.ensures.value ∙ c.in_ok-left.ensures) (ap children_view c.as_slice-2.ensures.value ∙ c.in_ok-right.ensures)
    c.in_ok-inside.ensures)

pub common_len-is_same-requires : goal.common_len-is_same-requires
common_len-is_same-requires t c =
    let few = child_fewer c.args.left.now c.loop-at.at c.index-left-at.result c.loop-at-test.true c.index-left-at.is in (
      omega (arith, few, c.decreases),
      tt,
    )

pub same_nodes-same_children-requires : goal.same_nodes-same_children-requires
same_nodes-same_children-requires t c =
    let held = plains_before (held_view c.args.a) ended in
    let inside : total (children_view c.as_slice.result.now) ≡ sizes held =
    ap (λ cs. total (children_view cs)) c.as_slice.ensures.value ∙ held_fewer c.in_ok-left.left.items held c.in_ok-left.ensures in (
      omega (arith, inside, c.decreases),
      tt,
    )
