use Rattle.std.proofs.Common.{ap, sym, ◌∙◌, take, drop}
use Rattle.wt_span.specs.Items.{items_of}
use Rattle.wt_context.specs.Tokens.{token_segments}
use Rattle.wt_context.proofs.Segmenting.{take_quotes, drop_quotes}
use Rattle.wt_context.proofs.token.Token.split_at.Goals as goal

pub returns-else-len-n-clause-front : goal.returns-else-len-n-clause-front
returns-else-len-n-clause-front c =
    take_quotes c.args.n (items_of c.in-Quotes.quotes.piece) (items_of c.split_at.result.0.piece) c.split_at.ensures.front
    ∙ ap (λ t. take c.args.n (token_segments t)) (sym c.in-Quotes.is)

pub returns-else-len-n-clause-back : goal.returns-else-len-n-clause-back
returns-else-len-n-clause-back c =
    drop_quotes c.args.n (items_of c.in-Quotes.quotes.piece) (items_of c.split_at.result.1.piece) c.split_at.ensures.back
    ∙ ap (λ t. drop c.args.n (token_segments t)) (sym c.in-Quotes.is)
