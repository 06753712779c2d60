use Rattle.std.proofs.Common.{sym, ap, ◌∙◌, arith}
use Rattle.wt_tables.specs.Views.{numbers, begins_single}
use Rattle.wt_tables.proofs.Numbers.{numbers_from, numbers_len, number_at}
use Rattle.wt_tables.proofs.Singles.{turned}
use Rattle.wt_tables.proofs.Scans.{single_here, single_goes, single_all}
use Rattle.wt_tables.proofs.scan.single_at.Goals as goal

pub returns-then-begins_single-clause-value : goal.returns-then-begins_single-clause-value
returns-then-begins_single-clause-value c =
    let l = c.loop-i in
    single_here l.behind_bar l.i (numbers c.args.signs.now) (omega (arith, c.loop-i-test.true, numbers_len c.args.signs.now))
    (ap (begins_single l.behind_bar) (sym (numbers_from l.i _ _ c.rest_of.ensures)) ∙ sym c.begins_single.ensures ∙ c.if-begins_single.true) l.invariant

pub loop-i-preserved : goal.loop-i-preserved
loop-i-preserved c =
    let l = c.loop-i in
    single_goes l.behind_bar _ l.i _ (numbers c.args.signs.now) (omega (arith, c.loop-i-test.true, numbers_len c.args.signs.now))
    (number_at l.i c.args.signs.now _ c.loop-i-test.true) (c.is_byte-behind_bar.ensures ∙ turned _)
    (ap (begins_single l.behind_bar) (sym (numbers_from l.i _ _ c.rest_of.ensures)) ∙ sym c.begins_single.ensures ∙ c.if-begins_single.false) l.invariant

pub returns-clause-value : goal.returns-clause-value
returns-clause-value c = sym (numbers_len c.args.signs.now)
    ∙ single_all c.loop-i.behind_bar c.loop-i.i (numbers c.args.signs.now) (omega (arith, c.loop-i-test.false, numbers_len c.args.signs.now))
    (omega (arith, c.loop-i.auto.i-end, numbers_len c.args.signs.now)) c.loop-i.invariant
