use Rattle.std.proofs.Common.{sym, ap, ◌∙◌, arith}
use Rattle.wt_tables.specs.Cells.{splits}
use Rattle.wt_tables.specs.Views.{numbers}
use Rattle.wt_tables.proofs.Numbers.{numbers_from, numbers_len}
use Rattle.wt_tables.proofs.Scans.{first_begins, first_goes, first_stops}
use Rattle.wt_tables.proofs.scan.Splits.first_len.Goals as goal

pub loop-at-init : goal.loop-at-init
loop-at-init c = record {
  within = c.requires;
  behind = omega arith;
  rest = first_begins c.args.self c.args.from (numbers c.args.signs.now)
      (omega (arith, c.requires, numbers_len c.args.signs.now));
}

pub loop-at-preserved : goal.loop-at-preserved
loop-at-preserved c =
    let l = c.loop-at in
    record {
      within = omega arith;
      behind = omega (arith, l.invariant.behind);
      rest = first_goes c.args.self l.at (numbers c.args.signs.now) _ (omega (arith, c.loop-at-test.true, numbers_len c.args.signs.now))
          (ap (splits c.args.self) (sym (numbers_from l.at _ _ c.rest_of.ensures)) ∙ sym c.begin.ensures ∙ c.if-begin.false) l.invariant.rest;
    }

pub returns-then-begin-clause-value : goal.returns-then-begin-clause-value
returns-then-begin-clause-value c =
    let l = c.loop-at in
    first_stops c.args.self l.at (numbers c.args.signs.now) _ (omega (arith, c.loop-at-test.true, numbers_len c.args.signs.now))
    (ap (splits c.args.self) (sym (numbers_from l.at _ _ c.rest_of.ensures)) ∙ sym c.begin.ensures ∙ c.if-begin.true) l.invariant.rest
