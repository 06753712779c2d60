use Rattle.std.proofs.Common.{sym, ap, ◌∙◌, arith}
use Rattle.std.specs.Prelude.{codes}
use Rattle.wt_span.specs.Bytes.{begins}
use Rattle.wt_tables.specs.Views.{numbers}
use Rattle.wt_tables.proofs.Numbers.{numbers_from, numbers_len}
use Rattle.wt_tables.proofs.Scans.{link_goes, link_stops}
use Rattle.wt_tables.proofs.scan.has_link.Goals as goal

pub loop-at-preserved : goal.loop-at-preserved
loop-at-preserved c =
    link_goes c.loop-at.at (numbers c.args.signs.now) _ (omega (arith, c.loop-at-test.true, numbers_len c.args.signs.now))
    (ap (begins (codes "[[")) (sym (numbers_from c.loop-at.at _ _ c.rest_of.ensures)) ∙ sym c.begins_link.ensures ∙ c.if-begins_link.false) c.loop-at.invariant

pub returns-then-begins_link : goal.returns-then-begins_link
returns-then-begins_link c =
    link_stops c.loop-at.at (numbers c.args.signs.now) _ (omega (arith, c.loop-at-test.true, numbers_len c.args.signs.now))
    (ap (begins (codes "[[")) (sym (numbers_from c.loop-at.at _ _ c.rest_of.ensures)) ∙ sym c.begins_link.ensures ∙ c.if-begins_link.true) c.loop-at.invariant
