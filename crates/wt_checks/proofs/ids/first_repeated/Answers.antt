use Rattle.std.proofs.Common.{arith, ap, ◌∙◌, ◌≡◌, drop}
use Rattle.wt_checks.specs.View.{all_seen}
use Rattle.wt_checks.proofs.Repeated.{again_is_first, first_again}
use Rattle.wt_checks.proofs.ids.first_repeated.Goals as goal

pub returns : goal.returns
returns c =
    let e : c.loop-at.at ≡ 0 = omega (arith, c.loop-at-test.false) in
    c.loop-at.invariant.found ∙ ap (λ i. first_again (all_seen (drop i c.args.edited.now))) e ∙ again_is_first (all_seen c.args.edited.now)
