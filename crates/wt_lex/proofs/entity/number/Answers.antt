use Rattle.std.proofs.Common.{◌*◌, arith, ap}
use Rattle.std.proofs.lemmas.Int.Digits.{digits_value_more}
use Rattle.wt_lex.proofs.Numbers.{one_digit}
use Rattle.wt_lex.proofs.entity.number.Goals as goal

pub overflow_mul-number : goal.overflow_mul-number
overflow_mul-number c =
    let small = one_digit c.args.base c.args.digits.now c.loop-digit.digit-index c.requires.base c.requires.digits (omega arith) in
    let is = ap (λ n. n * c.args.base) c.loop-digit.invariant in
    omega (arith, c.requires.fits)

pub overflow_add-number : goal.overflow_add-number
overflow_add-number c =
    let small = one_digit c.args.base c.args.digits.now c.loop-digit.digit-index c.requires.base c.requires.digits (omega arith) in
    let is = ap (λ n. n * c.args.base) c.loop-digit.invariant in
    omega (arith, c.requires.fits, c.digit_value.ensures)

pub loop-digit-preserved : goal.loop-digit-preserved
loop-digit-preserved c =
    let is = ap (λ n. n * c.args.base) c.loop-digit.invariant in
    let more = digits_value_more c.args.base c.args.digits.now c.loop-digit.digit-index (omega arith) in
    omega (arith, c.digit_value.ensures)
