-- Tiles as nodes, and the segments of a context. What is in a link or in a pair of tags is read as a context of its own, by the
-- function that is handed in.
use Rattle.std.specs.Prelude.{ℕ, ◌+◌, ◌==◌, Option, Some, None, List, [], ◌∷◌, ◌++◌, take, drop, if◌then◌else◌}
use Rattle.std.specs.List.{flat_map}
use Rattle.wt_tree.specs.declared.kind.Kind.TheVariants as node_kind
use Rattle.wt_span.specs.Items.{Item}
use Rattle.wt_tiles.specs.declared.context.Context.{Context}
use Rattle.wt_tiles.specs.declared.shape.Shape.{Shape}
use Rattle.wt_tiles.specs.declared.shape.TileKind.{TileKind}
use Rattle.wt_tiles.specs.declared.shape.TileKind.TheVariants as kind
use Rattle.wt_tiles.specs.Contexts.{in_text, in_pair}
use Rattle.wt_tiles.specs.Tiles.{tiles}
use Rattle.wt_inline.specs.declared.loose.Loose.TheVariants.{Text}
use Rattle.wt_inline.specs.ItemTree.{Head, plain, ItemTree, leaf, inner, forest}
use Rattle.wt_inline.specs.Parts.{Part, node, parts, children}
use Rattle.wt_context.specs.Segments.{Segment, loose_segments, tree_segment}
use Rattle.wt_context.specs.declared.node.Nested.{Nested}
use Rattle.wt_context.specs.declared.node.Nested.TheVariants as nested
use Rattle.wt_context.specs.declared.node.Leaf.{Leaf}
use Rattle.wt_context.specs.declared.node.Leaf.TheVariants as as_leaf
use Rattle.wt_context.specs.Heads.{placeholder, link_head, category_head, ext_link_head, bare_url_head, pair_head, switch_head}

-- what a context is read as
abbrev pub Reading : Type 0
Reading = Context → List Item → List Part

-- ---- the parts of a tile's items

abbrev pub opening_of : Shape → List Item → List Item
opening_of w xs = take w.opening xs

abbrev pub inside_of : Shape → List Item → List Item
inside_of w xs = take w.inside (drop w.opening xs)

abbrev pub closing_of : Shape → List Item → List Item
closing_of w xs = take w.closing (drop (w.opening + w.inside) xs)

abbrev pub trail_of : Shape → List Item → List Item
trail_of w xs = drop (w.opening + w.inside + w.closing) xs

-- ---- leaves

abbrev pub leaf_head : Leaf → List Item → Head
leaf_head as_leaf.Category xs = category_head xs
leaf_head as_leaf.Switch xs = switch_head xs
leaf_head as_leaf.Break xs = plain node_kind.Br
leaf_head as_leaf.Placeholder xs = placeholder

-- a tile that is kept whole
abbrev pub leaf_tree : Leaf → List Item → ItemTree
leaf_tree k xs = leaf (leaf_head k xs) xs

-- ---- nodes

-- a node with these parts between its delimiters
abbrev pub round_parts : Head → List Item → List Part → List Item → ItemTree
round_parts h opening ps closing = inner h opening (forest (children ps)) closing

unfoldable pub bare_url : Shape → List Item → ItemTree
bare_url w xs = round_parts (bare_url_head (inside_of w xs)) (opening_of w xs) (parts Text (inside_of w xs)) (closing_of w xs)

-- letters that join a link are in it, after its `]]`, which is then a node by itself
abbrev pub trail_parts : List Item → List Item → List Part
trail_parts closing trail = node (leaf (plain node_kind.Skip) closing) ∷ parts Text trail

abbrev pub link_by : Head → ℕ → List Item → List Item → List Item → List Part → ItemTree
link_by h n opening closing trail ps = if n == 0 then round_parts h opening ps closing else round_parts h opening (ps ++ trail_parts closing trail) []

-- the head of a tile with an inside, by all its items and those of its open delimiter
abbrev pub nested_head : Nested → List Item → List Item → Head
nested_head nested.Link xs opening = link_head xs
nested_head nested.ExtLink xs opening = ext_link_head opening
nested_head nested.Pair xs opening = pair_head opening

abbrev pub nested_by : Nested → ℕ → List Item → List Item → List Item → List Item → List Part → ItemTree
nested_by nested.Link n xs opening closing trail ps = link_by (nested_head nested.Link xs opening) n opening closing trail ps
nested_by nested.ExtLink n xs opening closing trail ps = round_parts (nested_head nested.ExtLink xs opening) opening ps closing
nested_by nested.Pair n xs opening closing trail ps = round_parts (nested_head nested.Pair xs opening) opening ps closing

-- a tile with these parts inside
unfoldable pub nested_tree : Nested → Shape → List Item → List Part → ItemTree
nested_tree k w xs ps = nested_by k w.trail xs (opening_of w xs) (closing_of w xs) (trail_of w xs) ps

-- ---- segments

-- The tree of a tile. What has none are characters, atoms and marks.
abbrev pub tile_tree : Reading → Context → TileKind → Shape → List Item → Option ItemTree
tile_tree read cx kind.Link w xs = Some (nested_tree nested.Link w xs (read (in_text cx) (inside_of w xs)))
tile_tree read cx kind.Category w xs = Some (leaf_tree as_leaf.Category xs)
tile_tree read cx kind.Media w xs = Some (leaf_tree as_leaf.Placeholder xs)
tile_tree read cx kind.ExtLink w xs = Some (nested_tree nested.ExtLink w xs (read (in_text cx) (inside_of w xs)))
tile_tree read cx kind.BareUrl w xs = Some (bare_url w xs)
tile_tree read cx kind.Br w xs = Some (leaf_tree as_leaf.Break xs)
tile_tree read cx kind.Pair w xs = Some (nested_tree nested.Pair w xs (read (in_pair cx) (inside_of w xs)))
tile_tree read cx kind.TagIsland w xs = Some (leaf_tree as_leaf.Placeholder xs)
tile_tree read cx kind.Switch w xs = Some (leaf_tree as_leaf.Switch xs)
tile_tree read cx kind.Atom w xs = None
tile_tree read cx kind.Mark w xs = None
tile_tree read cx kind.Chars w xs = None

abbrev pub segments_by : Option ItemTree → List Item → List Segment
segments_by None xs = loose_segments xs
segments_by (Some t) xs = tree_segment xs t ∷ []

abbrev pub tile_segments : Reading → Context → Shape × List Item → List Segment
tile_segments read cx (w, xs) = segments_by (tile_tree read cx w.kind w xs) xs

-- the segments of a context
unfoldable pub segments : Reading → Context → List Item → List Segment
segments read cx xs = flat_map (tile_segments read cx) (tiles cx xs)
