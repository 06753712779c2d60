use Rattle.wt_context.proofs.Resting.{rest_cut}
use Rattle.wt_context.proofs.rest.Rest.take.Goals as goal

pub returns-clause-value : goal.returns-clause-value
returns-clause-value c =
    let r = c.next-token.result.1 in
    rest_cut c.args.self r c.in-Some.token c.split_at-front.result.0 c.split_at-front.result.1 c.args.n c.next-token.result.0 c.in-Some.is
    c.next-token.ensures.value c.next-token.ensures.none c.split_at-front.ensures.front c.split_at-front.ensures.back
