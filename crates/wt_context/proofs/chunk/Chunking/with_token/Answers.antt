use Rattle.std.proofs.Common.{◌+◌, refl, sym, ap, ◌∙◌, subst, arith}
use Rattle.std.proofs.lemmas.Result.{IfOk-weaker}
use Rattle.wt_span.specs.Items.{items, items_of}
use Rattle.wt_context.specs.declared.token.Token.{Token}
use Rattle.wt_context.specs.Segments.{loose_segment, tree_segment}
use Rattle.wt_inline.specs.View.{item_tree}
use Rattle.wt_context.specs.Tokens.{token_segments}
use Rattle.wt_context.specs.Chunking.{IsChunked}
use Rattle.wt_context.proofs.ChunkSteps.{quotes_more, plain_first}
use Rattle.wt_context.proofs.chunk.Chunking.with_token.Goals as goal

pub returns-in-Quotes-clause-value : goal.returns-in-Quotes-clause-value
returns-in-Quotes-clause-value c =
    let q = c.in-Quotes.quotes in
    let n = c.with_quotes.ensures.quotes in
    subst (λ (t : Token). IsChunked c.args.self (token_segments t) c.with_quotes.result) (sym c.in-Quotes.is)
    (quotes_more c.args.self c.with_quotes.result (items_of q.piece) q.quotes c.with_quotes.ensures.chunks c.with_quotes.ensures.seen
    (n ∙ ap (λ m. c.args.self.quotes + m) c.len.ensures.value))

pub returns-in-Stretch-clause-value : goal.returns-in-Stretch-clause-value
returns-in-Stretch-clause-value c =
    let s = c.in-Stretch.stretch in
    IfOk-weaker c.with_pieces.result _ _
    (λ d h. subst (λ (t : Token). IsChunked c.args.self (token_segments t) d) (sym c.in-Stretch.is)
    (h (loose_segment (items s.pieces)) (plain_first (items s.pieces) s.plain) (ap items (sym c.as_slice.ensures))))
    c.with_pieces.ensures.value

pub returns-in-Stretch-clause-few : goal.returns-in-Stretch-clause-few
returns-in-Stretch-clause-few c = IfOk-weaker c.with_pieces.result _ _ (λ d e. omega (arith, e)) c.with_pieces.ensures.none

pub returns-in-Tile-clause-value : goal.returns-in-Tile-clause-value
returns-in-Tile-clause-value c =
    let s = c.in-Tile.tile in
    IfOk-weaker c.with_pieces-in-Tile.result _ _
    (λ d h. subst (λ (t : Token). IsChunked c.args.self (token_segments t) d) (sym c.in-Tile.is)
    (h (tree_segment (items s.pieces) (item_tree s.tree)) refl (ap items (sym c.as_slice-in-Tile.ensures))))
    c.with_pieces-in-Tile.ensures.value

pub returns-in-Tile-clause-few : goal.returns-in-Tile-clause-few
returns-in-Tile-clause-few c = IfOk-weaker c.with_pieces-in-Tile.result _ _ (λ d e. omega (arith, e)) c.with_pieces-in-Tile.ensures.none
