use Rattle.std.proofs.Common.{sym, ◌∙◌, arith}
use Rattle.wt_span.specs.Bytes.{is_blank}
use Rattle.wt_tables.specs.Views.{numbers}
use Rattle.wt_tables.proofs.Numbers.{numbers_len, number_at, scan_goes, scan_stops}
use Rattle.wt_tables.proofs.scan.blank_len.Goals as goal

pub returns-then-not-is_blank-clause-value : goal.returns-then-not-is_blank-clause-value
returns-then-not-is_blank-clause-value c =
    let l = c.loop-i in
    scan_stops is_blank l.i _ _ (numbers c.args.signs.now) (omega (arith, c.loop-i-test.true, numbers_len c.args.signs.now))
    (number_at l.i c.args.signs.now _ c.loop-i-test.true) (sym c.is_blank.ensures ∙ c.if-not-is_blank.true) l.invariant

pub loop-i-preserved : goal.loop-i-preserved
loop-i-preserved c =
    let l = c.loop-i in
    scan_goes is_blank l.i _ _ (numbers c.args.signs.now) (omega (arith, c.loop-i-test.true, numbers_len c.args.signs.now))
    (number_at l.i c.args.signs.now _ c.loop-i-test.true) (sym c.is_blank.ensures ∙ c.if-not-is_blank.false) l.invariant
