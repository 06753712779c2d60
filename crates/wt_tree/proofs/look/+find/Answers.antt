use Rattle.std.proofs.Common.{sym, ap, ◌∙◌, drop, ◌+◌}
use Rattle.std.specs.Option.{option_or}
use Rattle.wt_tree.proofs.Looks.{found_in_all, found_turn}
use Rattle.wt_tree.proofs.look.+find.Goals as goal

pub returns-in-Some : goal.returns-in-Some
returns-in-Some t c =
    sym (c.loop-child.invariant
    ∙ found_turn c.args.id c.loop-child.child-index c.as_slice-child-items.result.now c.child-item.result c.loop-child-test.true c.child-item.is
    ∙ ap (λ o. option_or o (found_in_all c.args.id (drop (c.loop-child.child-index + 1) c.as_slice-child-items.result.now))) (sym c.in-Some.ensures))

pub loop-child-preserved : goal.loop-child-preserved
loop-child-preserved t c =
    c.loop-child.invariant
    ∙ found_turn c.args.id c.loop-child.child-index c.as_slice-child-items.result.now c.child-item.result c.loop-child-test.true c.child-item.is
    ∙ ap (λ o. option_or o (found_in_all c.args.id (drop (c.loop-child.child-index + 1) c.as_slice-child-items.result.now))) (sym c.in_default.ensures)
