use Rattle.std.proofs.Common.{◌∙◌, subst, IfOk, IfSome}
use Rattle.wt_places.specs.Rewritten.{IsRewrittenIn}
use Rattle.wt_proposal.proofs.proposing.proposal.Goals as goal

pub returns : goal.returns
returns c =
    subst (λ ss. IfOk c.tested.result (λ o. IfSome o (λ new. IsRewrittenIn c.args.page.now ss new)))
    (c.as_slice-2.ensures.value ∙ c.in_ok-places.ensures) c.tested.ensures
