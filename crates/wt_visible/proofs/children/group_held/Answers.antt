use Rattle.std.proofs.Common.{arith, ap, sym, ◌∙◌}
use Rattle.std.specs.Prelude.{option_map}
use Rattle.wt_tree.specs.declared.node.Node.{out-Node}
use Rattle.wt_tree.specs.View.{views}
use Rattle.wt_checks.specs.View.{indexed, seen}
use Rattle.wt_visible.proofs.RestoredShown.{group_kept, group_new, group_own}
use Rattle.wt_visible.proofs.children.group_held.Goals as goal

pub returns-then-number-eq0 : goal.returns-then-number-eq0
returns-then-number-eq0 c =
    let n = out-Node c.args.group.now in
    group_new (indexed c.args.page.now) n.id (views n.children) (views c.as_slice.result.now) (omega (arith, c.if-number-eq0.true)) (ap views c.as_slice.ensures)

pub returns-in-None : goal.returns-in-None
returns-in-None c =
    let n = out-Node c.args.group.now in
    group_own (indexed c.args.page.now) n.id (views n.children) (views c.as_slice-in-None.result.now) (omega (arith, c.if-number-eq0.false))
    (sym c.original.ensures ∙ ap (option_map seen) c.in-None.is) (ap views c.as_slice-in-None.ensures)

pub returns-in-Some : goal.returns-in-Some
returns-in-Some c =
    let n = out-Node c.args.group.now in
    group_kept (indexed c.args.page.now) n.id (views n.children) c.as_slice-in-Some.result.now c.in-Some.visit (omega (arith, c.if-number-eq0.false))
    (sym c.original.ensures ∙ ap (option_map seen) c.in-Some.is) c.as_slice-in-Some.ensures
