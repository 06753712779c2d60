use Rattle.std.proofs.Common.{sym, ◌∙◌, arith}
use Rattle.wt_lines.specs.Kinds.{is_idle}
use Rattle.wt_tables.specs.Views.{numbers}
use Rattle.wt_tables.proofs.Numbers.{numbers_len, number_at, scan_goes, scan_stops}
use Rattle.wt_tables.proofs.scan.idle_len.Goals as goal

pub returns-then-not-is_idle-clause-value : goal.returns-then-not-is_idle-clause-value
returns-then-not-is_idle-clause-value c =
    let l = c.loop-i in
    scan_stops is_idle l.i _ _ (numbers c.args.signs.now) (omega (arith, c.loop-i-test.true, numbers_len c.args.signs.now))
    (number_at l.i c.args.signs.now _ c.loop-i-test.true) (sym c.is_idle.ensures ∙ c.if-not-is_idle.true) l.invariant

pub loop-i-preserved : goal.loop-i-preserved
loop-i-preserved c =
    let l = c.loop-i in
    scan_goes is_idle l.i _ _ (numbers c.args.signs.now) (omega (arith, c.loop-i-test.true, numbers_len c.args.signs.now))
    (number_at l.i c.args.signs.now _ c.loop-i-test.true) (sym c.is_idle.ensures ∙ c.if-not-is_idle.false) l.invariant
