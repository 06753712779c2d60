use Rattle.std.proofs.Common.{◌≡◌, ◌<◌, length, sym, ap, ◌∙◌, arith}
use Rattle.std.proofs.lemmas.Bool.Decides.{nat_tests}
use Rattle.std.proofs.lemmas.List.{nil_from_length}
use Rattle.wt_context.proofs.Loosening.{closed_none, closed_one}
use Rattle.wt_context.proofs.loose.Loosening.closed.Goals as goal

pub returns-then-is_empty : goal.returns-then-is_empty
returns-then-is_empty c =
    let e = c.if-is_empty.ensures in
    let i = c.as_slice.ensures in
    let z : length c.as_slice.result.now ≡ 0 = grind (arith, nat_tests) in
    closed_none c.args.self.tokens c.args.self.stretch.pieces (sym i ∙ nil_from_length c.as_slice.result.now z)

pub returns : goal.returns
returns c =
    let e = c.if-is_empty.ensures in
    let n : 0 < length c.as_slice.result.now = grind (arith, nat_tests) in
    let i = ap length c.as_slice.ensures in
    closed_one c.args.self.tokens c.push.new.self c.args.self.stretch (c.args.self.stretch.solid (omega (arith, n, i))) c.in_ok-push.ensures.ok
