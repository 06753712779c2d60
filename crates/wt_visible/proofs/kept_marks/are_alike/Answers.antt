use Rattle.std.proofs.Common.{arith, ◌≡◌, true, false, sym, ◌∙◌}
use Rattle.wt_visible.proofs.AlikeSources.{alike_at}
use Rattle.wt_visible.proofs.kept_marks.are_alike.Goals as goal

pub returns-then-not-alike : goal.returns-then-not-alike
returns-then-not-alike c = (
  λ e. absurd (cc),
  λ h.
      let same =
      alike_at c.args.sources.now c.args.others.now c.loop-at.at c.index-sources-at.result c.index-others-at.result c.loop-at-test.true
      (omega (arith, c.loop-at-test.true, c.if-sources-others.false)) c.index-sources-at.is c.index-others-at.is h in
      let t : true ≡ false = sym (c.is_alike-alike.ensures.1 same) ∙ c.if-not-alike.true in absurd (cc),
)
