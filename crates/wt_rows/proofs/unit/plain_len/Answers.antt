use Rattle.std.proofs.Common.{length, refl, sym, ap, ◌∙◌, arith, length-drop}
use Rattle.wt_rows.proofs.UnitSteps.{plain_stops, plain_goes}
use Rattle.wt_rows.proofs.unit.plain_len.Goals as goal

pub returns-then-begins_part-clause-value : goal.returns-then-begins_part-clause-value
returns-then-begins_part-clause-value c =
    plain_stops c.loop-at.at _ c.args.rows.now _ _ c.loop-at-test.true refl (sym c.begins_part.ensures ∙ c.if-begins_part.true) c.loop-at.invariant.rest

pub loop-at-preserved : goal.loop-at-preserved
loop-at-preserved c = record {
  within = omega (arith, c.unit_len-at.ensures.within, ap length c.rest_of.ensures, length-drop c.loop-at.at c.args.rows.now, c.loop-at-test.true);
  rest = plain_goes c.loop-at.at c.unit_len-at.result _ c.args.rows.now c.rest_of.result.now _ _ c.loop-at-test.true refl
      (sym c.begins_part.ensures ∙ c.if-begins_part.false) c.rest_of.ensures c.unit_len-at.ensures.value c.loop-at.invariant.rest;
}
