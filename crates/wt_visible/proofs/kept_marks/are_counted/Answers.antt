use Rattle.std.proofs.Common.{arith, rules, ap, map, sym, refl, ◌∙◌}
use Rattle.wt_tree.proofs.Adding.{decides_not}
use Rattle.wt_visible.specs.Tally.{counted, times, trimmed}
use Rattle.wt_visible.proofs.Tallies.{all_taken, none_left, taken_on}
use Rattle.wt_visible.proofs.kept_marks.are_counted.Goals as goal

pub loop-text-preserved : goal.loop-text-preserved
loop-text-preserved c =
    taken_on c.args.texts.now c.loop-text.text-index c.text-item.result c.trimmed.result.now c.loop-text-test.true (search rules) c.trimmed.ensures
    (λ text. times text (map trimmed c.args.others.now)) (counted c.loop-text.tally) (counted c.take.new.self) c.loop-text.invariant
    (c.in_ok-taken.ensures.taken c.if-not-taken.false)

pub returns-then-not-taken : goal.returns-then-not-taken
returns-then-not-taken c =
    decides_not (none_left c.args.texts.now (map trimmed c.args.others.now) (counted c.loop-text.tally) c.loop-text.text-index c.text-item.result
    c.loop-text-test.true (search rules) c.loop-text.invariant
    (ap (counted c.loop-text.tally) (sym c.trimmed.ensures) ∙ c.in_ok-taken.ensures.none c.if-not-taken.true)) (λ h. h)

pub returns : goal.returns
returns c = (
  λ e. all_taken c.args.texts.now (map trimmed c.args.others.now) (counted c.loop-text.tally) c.loop-text.text-index (omega (arith, c.loop-text-test.false))
      c.loop-text.invariant,
  λ h. refl,
)
