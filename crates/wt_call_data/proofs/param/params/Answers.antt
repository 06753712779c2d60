use Rattle.std.proofs.Common.{None, get_or, map, refl, sym, ap, arith}
use Rattle.wt_span.specs.Origins.{outer_call, span_of}
use Rattle.wt_call_data.specs.CallParts.{param_of}
use Rattle.wt_call_data.proofs.ReadParams.{next_few, params_goes_on, params_step}
use Rattle.wt_call_data.proofs.SoundParts.{ends_there, part_sound}
use Rattle.wt_call_data.proofs.param.params.Goals as goal

pub bounds-equals-at : goal.bounds-equals-at
bounds-equals-at c =
    ends_there (outer_call c.args.outer.now) c.as_slice-parts.result.now c.as_slice-equals.result.now c.loop-at.at c.requires
    (ap (map span_of) (sym c.as_slice-parts.ensures)) (sym c.as_slice-equals.ensures) c.loop-at-test.true

pub read_param-requires-clause-sound : goal.read_param-requires-clause-sound
read_param-requires-clause-sound c =
    part_sound (outer_call c.args.outer.now) c.as_slice-parts.result.now c.as_slice-equals.result.now c.loop-at.at c.index-parts-at.result
    (get_or c.as_slice-equals.result.now c.loop-at.at None) c.requires (ap (map span_of) (sym c.as_slice-parts.ensures)) (sym c.as_slice-equals.ensures)
    c.loop-at-test.true c.index-parts-at.is refl

pub loop-at-preserved : goal.loop-at-preserved
loop-at-preserved c =
    let o = outer_call c.args.outer.now in
    let ps = c.as_slice-parts.result.now in
    let es = c.as_slice-equals.result.now in
    let e = get_or es c.loop-at.at None in
    let qs = ap (map span_of) (sym c.as_slice-parts.ensures) in
    let there = ends_there o ps es c.loop-at.at c.requires qs (sym c.as_slice-equals.ensures) c.loop-at-test.true in
    let step = params_step o c.loop-at.number c.loop-at.at ps es c.index-parts-at.result e qs (sym c.as_slice-equals.ensures) c.loop-at-test.true there
    c.index-parts-at.is refl in
    record {
      params = params_goes_on o c.loop-at.number c.next_number-number.result c.loop-at.at e c.index-parts-at.result c.loop-at.map c.put_param.new.map
          (param_of c.in_ok-param.param) step c.in_ok-param.ensures c.in_ok-put_param.ensures c.next_number-number.ensures c.loop-at.invariant.params;
      few = omega (arith, c.next_number-number.ensures, next_few c.loop-at.number e, c.loop-at.invariant.few);
    }
