use Rattle.std.proofs.Common.{refl}
use Rattle.wt_tree.proofs.Adding.{decides_first, decides_not, false_is}
use Rattle.wt_original.proofs.same.is_same.Goals as goal

pub returns-then-not-same_kinds : goal.returns-then-not-same_kinds
returns-then-not-same_kinds c = decides_not (λ e. false_is (c.if-not-same_kinds.ensures.1 e)) (λ e. e.0)

pub returns : goal.returns
returns c = decides_first c.in_ok-same.same (c.if-not-same_kinds.ensures.0 refl) c.in_ok-same.ensures
