use Rattle.wt_visible.proofs.Decided.{not_all}
use Rattle.wt_visible.proofs.kept_marks.keeps_each.Goals as goal

pub returns-then-not-comments : goal.returns-then-not-comments
returns-then-not-comments c = not_all c.in_ok-comments.comments c.in_ok-comments.ensures c.if-not-comments.true (λ h. h.comments)

pub returns-then-not-tags : goal.returns-then-not-tags
returns-then-not-tags c = not_all c.in_ok-tags.tags c.in_ok-tags.ensures c.if-not-tags.true (λ h. h.tags)

pub returns-then-not-calls : goal.returns-then-not-calls
returns-then-not-calls c = not_all c.in_ok-calls.calls c.in_ok-calls.ensures c.if-not-calls.true (λ h. h.calls)

pub returns-then-not-islands : goal.returns-then-not-islands
returns-then-not-islands c = not_all c.in_ok-islands.islands c.in_ok-islands.ensures c.if-not-islands.true (λ h. h.islands)

pub returns : goal.returns
returns c = (
  λ e. record {
    comments = c.in_ok-comments.ensures.0 c.if-not-comments.false;
    tags = c.in_ok-tags.ensures.0 c.if-not-tags.false;
    calls = c.in_ok-calls.ensures.0 c.if-not-calls.false;
    islands = c.in_ok-islands.ensures.0 c.if-not-islands.false;
    order = c.in_ok-order.ensures.0 e;
  },
  λ h. c.in_ok-order.ensures.1 h.order,
)
