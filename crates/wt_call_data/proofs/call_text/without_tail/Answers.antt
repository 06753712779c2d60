use Rattle.std.proofs.Common.{◌-◌, length, sym, subst, arith}
use Rattle.std.specs.Prelude.{reverse}
use Rattle.std.specs.Str.{IsCharBoundary}
use Rattle.std.proofs.lemmas.List.{length-reverse}
use Rattle.std.proofs.lemmas.List.Sums.{prefix_len-le-length}
use Rattle.wt_call_data.specs.CallData.{is_white}
use Rattle.wt_call_data.proofs.CallTexts.{tail_border}
use Rattle.wt_call_data.proofs.call_text.without_tail.Goals as goal

pub overflow_sub-end : goal.overflow_sub-end
overflow_sub-end c =
    let bs = c.args.text.now in
    omega (arith, c.tail_len.ensures, prefix_len-le-length is_white (reverse bs), length-reverse bs)

pub range-requires-clause-end_boundary : goal.range-requires-clause-end_boundary
range-requires-clause-end_boundary c =
    let bs = c.args.text.now in
    subst (λ n. IsCharBoundary bs (length bs - n)) (sym c.tail_len.ensures) (tail_border bs)
