-- The items of a node's source.
use Rattle.std.specs.Prelude.{ℕ, List, ◌∷◌, drop}
use Rattle.wt_span.specs.Characters as byte
use Rattle.wt_span.specs.Items.{Item}
use Rattle.wt_expand.specs.PageItems.{page_items}

-- As it is read behind a line break: there a line of comments is one item, with its own line break. Where no comment begins the source, it is read so
-- anywhere.
unfoldable pub node_items : List ℕ → List Item
node_items source = drop 1 (page_items (byte.line_break ∷ source))
