-- Tokens: the pieces of segments, several apostrophes in one.
use Rattle.std.specs.Prelude.{Option, Some, None, List, [], ◌∷◌, ◌++◌, map}
use Rattle.std.specs.List.{flat_map}
use Rattle.std.specs.Vec.Iter.{into_iter_items}
use Rattle.wt_span.specs.Items.{Item, items, items_of}
use Rattle.wt_inline.specs.View.{item_tree}
use Rattle.wt_context.specs.declared.stretch.Quotes.{Quotes}
use Rattle.wt_context.specs.declared.token.Token.{Token}
use Rattle.wt_context.specs.declared.token.Token.TheVariants as token
use Rattle.wt_context.specs.declared.rest.Rest.{Rest}
use Rattle.wt_context.specs.Segments.{Segment, loose_segment, tree_segment}

-- each apostrophe is a segment
abbrev pub quote_segments : List Item → List Segment
quote_segments xs = map (λ x. loose_segment (x ∷ [])) xs

abbrev pub token_segments : Token → List Segment
token_segments (token.Quotes q) = quote_segments (items_of q.piece)
token_segments (token.Stretch s) = loose_segment (items s.pieces) ∷ []
token_segments (token.Tile t) = tree_segment (items t.pieces) (item_tree t.tree) ∷ []

abbrev pub segments_of : List Token → List Segment
segments_of ts = flat_map token_segments ts

-- ---- what is left of tokens that are taken from the front

abbrev pub quotes_left : Option Quotes → List Segment
quotes_left None = []
quotes_left (Some q) = quote_segments (items_of q.piece)

abbrev pub rest_segments : Rest → List Segment
rest_segments r = quotes_left r.quotes ++ segments_of (into_iter_items r.tokens)
