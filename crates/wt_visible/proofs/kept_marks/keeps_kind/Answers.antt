use Rattle.wt_visible.proofs.Decided.{not_all}
use Rattle.wt_visible.proofs.kept_marks.keeps_kind.Goals as goal

pub returns-then-not-kept : goal.returns-then-not-kept
returns-then-not-kept c = not_all c.in_ok-kept.kept c.in_ok-kept.ensures c.if-not-kept.true (λ h. h.0)

pub returns : goal.returns
returns c = (λ e. (c.in_ok-kept.ensures.0 c.if-not-kept.false, c.in_ok-no_more.ensures.0 e), λ h. c.in_ok-no_more.ensures.1 h.1)
