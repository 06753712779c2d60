use Rattle.std.proofs.Common.{◌≤◌, arith, ap, sym, ◌∙◌, take, length, subst, List, ℕ, length-take}
use Rattle.std.specs.Str.Parse.{AllDigits}
use Rattle.std.proofs.Math.Nat.{pow-le-pow_right}
use Rattle.wt_comments.specs.Views.{in_class}
use Rattle.wt_lex.proofs.Numbers.{run_digits}
use Rattle.wt_lex.proofs.entity.numbered.Goals as goal

pub number-requires-clause-digits : goal.number-requires-clause-digits
number-requires-clause-digits c =
    let is = c.front_of.ensures ∙ ap (λ n. take n c.rest_of-rest.result.now) c.run_len-n.ensures.value in
    let P : List ℕ → Type 0 = λ ds. AllDigits c.args.base ds in
    subst P (sym is) (run_digits (in_class c.args.class) c.args.base (λ b e. c.requires.digits b e) c.rest_of-rest.result.now)

pub number-requires-clause-fits : goal.number-requires-clause-fits
number-requires-clause-fits c =
    let short : length c.front_of.result.now ≤ c.args.most =
    omega (arith, ap length c.front_of.ensures, length-take c.run_len-n.result c.rest_of-rest.result.now) in
    let low = pow-le-pow_right c.requires.base short in
    omega arith
