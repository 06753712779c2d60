use Rattle.std.proofs.Common.{◌++◌, sym, ap, ◌∙◌}
use Rattle.std.proofs.lemmas.Result.{on_ok_weaker}
use Rattle.wt_span.specs.Items.{items, items_of}
use Rattle.wt_inline.proofs.Trees.{items_more}
use Rattle.wt_context.specs.Segments.{segment_items}
use Rattle.wt_context.specs.Tokens.{token_segments}
use Rattle.wt_context.proofs.Segmenting.{quote_items}
use Rattle.wt_context.proofs.token.Token.push_pieces.Goals as goal

pub returns-in-Quotes : goal.returns-in-Quotes
returns-in-Quotes c =
    let p = c.in-Quotes.quotes.piece in
    on_ok_weaker c.push_tight.result
    (λ e. items_more c.args.out.now c.push_tight.new.self p e
    ∙ ap (λ xs. items c.args.out.now ++ xs) (sym (quote_items (items_of p)) ∙ ap (λ t. segment_items (token_segments t)) (sym c.in-Quotes.is)))
    c.push_tight.ensures.ok
