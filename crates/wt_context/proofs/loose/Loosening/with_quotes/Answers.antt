use Rattle.wt_context.proofs.Loosening.{with_quotes_by}
use Rattle.wt_context.proofs.loose.Loosening.with_quotes.Goals as goal

pub returns : goal.returns
returns c = with_quotes_by c.args.self.tokens c.in_ok-tokens.tokens c.push.new.self c.args.self.stretch.pieces c.new.result.pieces c.args.quotes
    c.in_ok-tokens.ensures c.in_ok-push.ensures.ok c.new.ensures
