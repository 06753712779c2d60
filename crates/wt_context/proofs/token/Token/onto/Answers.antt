use Rattle.std.proofs.Common.{sym, subst}
use Rattle.std.proofs.lemmas.Result.{IfOk-weaker}
use Rattle.wt_span.specs.Items.{items_of}
use Rattle.wt_inline.specs.Grown.{growth, Grows}
use Rattle.wt_context.specs.declared.token.Token.{Token}
use Rattle.wt_context.specs.Segments.{segment_parts}
use Rattle.wt_context.specs.Tokens.{token_segments}
use Rattle.wt_context.proofs.Segmenting.{grows_quotes}
use Rattle.wt_context.proofs.token.Token.onto.Goals as goal

pub returns-in-Quotes : goal.returns-in-Quotes
returns-in-Quotes c =
    let g = growth c.args.children in
    IfOk-weaker c.with_chars.result _ _
    (λ h a. subst (λ (t : Token). Grows g (segment_parts (token_segments t)) (growth h)) (sym c.in-Quotes.is)
    (grows_quotes g (growth h) (items_of c.in-Quotes.quotes.piece) a))
    c.with_chars.ensures
