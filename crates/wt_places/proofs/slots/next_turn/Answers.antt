use Rattle.std.proofs.Common.{sym, ap, ◌∙◌}
use Rattle.wt_checks.proofs.Firsts.{if_false}
use Rattle.wt_tree.specs.Tree.{label}
use Rattle.wt_tree.specs.View.{view}
use Rattle.wt_checks.specs.View.{indexed}
use Rattle.wt_difference.specs.Views.{child_views}
use Rattle.wt_places.specs.declared.reached.Reached.{Reached}
use Rattle.wt_places.specs.Places.{partner}
use Rattle.wt_places.proofs.Walking.{turn_passed}
use Rattle.wt_places.proofs.slots.next_turn.Goals as goal

pub returns-then-not-beside-clause-number : goal.returns-then-not-beside-clause-number
returns-then-not-beside-clause-number c =
    ap (λ (r : Reached). r.number) (c.reached_past.ensures (view c.args.child.now))
    ∙ sym (if_false c.args.beside.is_in_turn (label (view c.args.child.now)).id c.args.beside.reached.number c.if-not-beside.true)

pub returns-then-not-beside-clause-goes_on : goal.returns-then-not-beside-clause-goes_on
returns-then-not-beside-clause-goes_on c = λ t us e.
    turn_passed (indexed c.args.index.now) t c.args.beside.reached c.reached_past.result (child_views c.args.beside.rest.now)
    (view c.args.child.now) us (sym e ∙ c.if-not-beside.true)
    (c.reached_past.ensures (partner (indexed c.args.index.now) (view c.args.child.now)))
