use Rattle.std.proofs.Common.{arith, sym, ap, ◌∙◌, ◌≡◌, ◌<◌, length, take, drop, false, get_or, ◌+◌, List, ℕ, subst}
use Rattle.wt_checks.specs.declared.visit.Visit.{Visit}
use Rattle.wt_checks.specs.Ids.{is_moved}
use Rattle.wt_checks.specs.View.{all_seen, indexed}
use Rattle.wt_checks.proofs.Firsts.{first_later}
use Rattle.wt_checks.proofs.Moved.{Greatest, test, test_is, passed, passed_long, greatest_turn}
use Rattle.wt_checks.proofs.ids.first_moved.Goals as goal

pub loop-visit-preserved : goal.loop-visit-preserved
loop-visit-preserved c =
    let v = c.visit-item.result in
    let index = c.args.index.now in
    let edited = c.args.edited.now in
    let i = c.loop-visit.visit-index in
    let greatest = c.loop-visit.greatest.items in
    let bound : (get_or edited i v).parent < length index = c.requires i v c.loop-visit-test.true in
    let same : v.parent ≡ (get_or edited i v).parent = ap (λ (x : Visit). x.parent) c.visit-item.is in
    let within : v.parent < length greatest = omega (arith, bound, same, c.loop-visit.invariant.long) in
    let e : test index greatest v ≡ false = ap (λ (g : List ℕ). test index g v) (sym c.deref.ensures.value) ∙ sym c.is_moved.ensures ∙ c.if-is_moved.false in
    let after : c.pass.new.greatest.items ≡ passed greatest v = c.pass.ensures in
    record {
      long = ap length after ∙ passed_long greatest v ∙ c.loop-visit.invariant.long;
      greatest = subst (λ (g : List ℕ). Greatest g (all_seen (take (i + 1) edited))) (sym after)
          (greatest_turn index greatest edited i v c.loop-visit-test.true c.visit-item.is within e c.loop-visit.invariant.greatest);
      left = c.loop-visit.invariant.left ∙ first_later (is_moved (indexed index)) edited i v c.loop-visit-test.true
          c.visit-item.is (test_is index greatest (all_seen (take i edited))
          (all_seen (drop (i + 1) edited)) v within c.loop-visit.invariant.greatest ∙ e);
    }
