-- What stands on a line has at most one number for each item, beside those that forms make: a tile one of its own and, if letters
-- join it, one for its close delimiter; and of styles there are no more than apostrophes.
use Rattle.std.proofs.Common.{◌≡◌, ℕ, zero, suc, ◌+◌, ◌-◌, ◌<◌, ◌≤◌, ◌==◌, Bool, true, false, Option, Some, None, List, [], ◌∷◌, ◌++◌, length, take, drop, map, refl, sym, ap, ◌∙◌, subst, arith, append-nil, length-append, length-take, drop-drop, take-add, take_all}
use Rattle.std.specs.Prelude.{if◌then◌else◌}
use Rattle.std.specs.List.{flat_map, AllByRecursion}
use Rattle.std.proofs.lemmas.Grind.{flat_map-append}
use Rattle.wt_span.specs.Items.{Item}
use Rattle.wt_span.specs.Runs.{runs}
use Rattle.wt_span.proofs.RunLaws.{runs_joined}
use Rattle.wt_inline.specs.declared.loose.Loose.TheVariants.{Text}
use Rattle.wt_inline.specs.ItemTree.{Head, plain, ItemTree, leaf, inner, forest}
use Rattle.wt_inline.specs.Parts.{Part, node, parts, children}
use Rattle.wt_tree.specs.Kinds.{is_leaf, is_numbered}
use Rattle.wt_tree.specs.declared.kind.Kind.TheVariants as node_kind
use Rattle.wt_quotes.specs.declared.style.Style.{Style}
use Rattle.wt_quotes.specs.Styles.{style_tree_of}
use Rattle.wt_quotes.specs.Forest.{Forest, bare, grown, preorder, forest_of}
use Rattle.wt_quotes.proofs.Flattening.{flattened}
use Rattle.wt_tiles.specs.declared.context.Context.{Context}
use Rattle.wt_tiles.specs.declared.shape.Shape.{Shape}
use Rattle.wt_tiles.specs.declared.shape.TileKind.{TileKind}
use Rattle.wt_tiles.specs.declared.shape.TileKind.TheVariants as kind
use Rattle.wt_tiles.specs.Contexts.{in_text, in_pair, in_line}
use Rattle.wt_tiles.specs.Tiles.{size, tiles}
use Rattle.wt_tiles.specs.Cutting.{joined}
use Rattle.wt_tiles.proofs.Joining.{tiles_join}
use Rattle.wt_context.specs.declared.node.Nested.{Nested}
use Rattle.wt_context.specs.declared.node.Nested.TheVariants as nested
use Rattle.wt_context.specs.declared.node.Leaf.{Leaf}
use Rattle.wt_context.specs.declared.node.Leaf.TheVariants as as_leaf
use Rattle.wt_context.specs.Segments.{Segment, one_stretch, is_first_quote, loose_segment, loose_segments, segment_items, segment_parts}
use Rattle.wt_context.specs.Chunks.{chunks}
use Rattle.wt_context.specs.Styled.{style_kind, between, style_node, styled, with_styles}
use Rattle.wt_context.specs.Styling.{Fill}
use Rattle.wt_context.specs.Heads.{bare_url_head}
use Rattle.wt_context.specs.Nodes.{Reading, opening_of, inside_of, closing_of, trail_of, leaf_head, leaf_tree, round_parts, bare_url, trail_parts, nested_head, nested_by, nested_tree, tile_tree, segments_by, tile_segments, segments}
use Rattle.wt_context.specs.Line.{within, most_contexts, context_parts, line_parts, line_trees}
use Rattle.wt_context.proofs.ContextStyles.{styles_fill}
use Rattle.wt_annotated.specs.Counted.{count_by, numbered, numbered_in_all}
use Rattle.wt_page_round_trip.specs.Numbers.{makes_all}
use Rattle.wt_page_round_trip.proofs.Makes.{makes_append, makes_cut, counts, counts_append, children_count, parts_count}
use Rattle.wt_page_round_trip.proofs.StyleCounts.{quotes, quotes_append, styles_few}
use Rattle.wt_page_round_trip.proofs.TileOpenings.{Opens, IsOpened, tiles_opened}

-- ---- a node

one_at_most : (b : Bool) → (if b then 1 else 0) ≤ 1
one_at_most true = omega arith
one_at_most false = omega arith

by_at_most : (b : Bool) (n : ℕ) → count_by b n ≤ n
by_at_most true n = omega arith
by_at_most false n = omega arith

pub node_count : (h : Head) (opening closing : List Item) (ps : List Part) → numbered (inner h opening (forest (children ps)) closing) ≤ 1 + counts ps
node_count h opening closing ps =
    omega (arith, one_at_most (is_numbered h.kind), by_at_most (is_leaf h.kind) (numbered_in_all (forest (children ps))), children_count ps)

pub leaf_count : (h : Head) (own : List Item) → numbered (leaf h own) ≤ 1
leaf_count h own = omega (arith, one_at_most (is_numbered h.kind), by_at_most (is_leaf h.kind) 0)

-- ---- styles

-- what the first n segments count
abbrev upto : ℕ → List Segment → ℕ
upto n us = counts (segment_parts (take n us))

parts_append : (us vs : List Segment) → segment_parts (us ++ vs) ≡ segment_parts us ++ segment_parts vs
parts_append us vs = flat_map-append (λ u. u.parts) us vs

upto_add : (a k : ℕ) (us : List Segment) → upto (a + k) us ≡ upto a us + counts (segment_parts (take k (drop a us)))
upto_add a k us =
    ap (λ vs. counts (segment_parts vs)) (take-add a k us)
    ∙ ap counts (parts_append (take a us) (take k (drop a us)))
    ∙ counts_append (segment_parts (take a us)) (segment_parts (take k (drop a us)))

upto_between : (a b : ℕ) (us : List Segment) → a ≤ b → upto a us + counts (segment_parts (between a b us)) ≡ upto b us
upto_between a b us l =
    let e : a + (b - a) ≡ b = omega arith in
    sym (upto_add a (b - a) us) ∙ ap (λ n. upto n us) e

upto_more : (a b : ℕ) (us : List Segment) → a ≤ b → upto a us ≤ upto b us
upto_more a b us l = omega (arith, upto_between a b us l)

-- how many styles a forest has
abbrev styles_in : Forest → ℕ
styles_in f = length (preorder f)

style_count : (s : Style) (ps : List Part) (us : List Segment) → numbered (style_node s ps us) ≤ 1 + counts ps
style_count s ps us =
    node_count (plain (style_kind s.bold)) (segment_items (between s.from (s.from + s.open_w) us)) (segment_items (between (s.to - s.close_w) s.to us)) ps

styled_count : (low high : ℕ) (f : Forest) (us : List Segment) → Fill low high f → upto low us + counts (styled low high f us) ≤ styles_in f + upto high us
styled_count low high bare us h = omega (arith, upto_between low high us h)
styled_count low high (grown s inside after) us h =
    let ps = styled (s.from + s.open_w) (s.to - s.close_w) inside us in
    let qs = styled s.to high after us in
    omega (
      arith,
      counts_append (segment_parts (between low s.from us)) (node (style_node s ps us) ∷ qs),
      style_count s ps us,
      upto_between low s.from us h.0,
      upto_more s.from (s.from + s.open_w) us (omega arith),
      styled_count (s.from + s.open_w) (s.to - s.close_w) inside us h.1,
      upto_more (s.to - s.close_w) s.to us (omega arith),
      styled_count s.to high after us h.3,
      length-append (preorder inside) (preorder after),
    )

-- what the styles and the segments of a context count at most
abbrev cost : List Segment → ℕ
cost us = quotes us + counts (segment_parts us)

with_styles_count : (us : List Segment) → counts (with_styles us) ≤ cost us
unfolding with_styles
with_styles_count us =
    let f = forest_of (style_tree_of (chunks us)) in
    let fill : Fill 0 (length us) f = styles_fill us (chunks us) (style_tree_of (chunks us)) (length us) refl refl refl in
    let same : preorder f ≡ style_tree_of (chunks us) = (flattened (chunks us)).0 in
    omega (
      arith,
      styled_count 0 (length us) f us fill,
      ap length same,
      styles_few us,
      ap (λ vs. counts (segment_parts vs)) (take_all (length us) us (omega arith)),
    )

-- ---- segments

cost_append : (us vs : List Segment) → cost (us ++ vs) ≡ cost us + cost vs
cost_append us vs =
    omega (arith, quotes_append us vs, ap counts (parts_append us vs), counts_append (segment_parts us) (segment_parts vs))

-- items allow so many
abbrev room : List Item → ℕ
room xs = length xs + makes_all xs

room_append : (xs ys : List Item) → room (xs ++ ys) ≡ room xs + room ys
room_append xs ys = omega (arith, makes_append xs ys, length-append xs ys)

first_few : (xs : List Item) → (if is_first_quote xs then 1 else 0) ≤ length xs
first_few [] = omega arith
first_few (x ∷ xs) = omega (arith, one_at_most (is_first_quote (x ∷ xs)))

loose_cost : (xs : List Item) → cost (loose_segment xs ∷ []) ≤ room xs
loose_cost xs = omega (arith, first_few xs, parts_count Text xs, ap counts (append-nil (parts Text xs)))

loose_runs : (rs : List (List Item)) → cost (map loose_segment rs) ≤ room (flat_map (λ r. r) rs)
loose_runs [] = omega arith
loose_runs (r ∷ rs) =
    omega (
      arith,
      cost_append (loose_segment r ∷ []) (map loose_segment rs),
      loose_cost r,
      loose_runs rs,
      room_append r (flat_map (λ s. s) rs),
    )

loose_count : (xs : List Item) → cost (loose_segments xs) ≤ room xs
unfolding loose_segments
loose_count xs = subst (λ ys. cost (map loose_segment (runs one_stretch xs)) ≤ room ys) (runs_joined one_stretch xs) (loose_runs (runs one_stretch xs))

-- ---- tiles

abbrev IsFew : Reading → Type 0
IsFew read = (cx : Context) (xs : List Item) → counts (read cx xs) ≤ room xs

makes_drop : (n : ℕ) (xs : List Item) → makes_all (drop n xs) ≤ makes_all xs
makes_drop n xs = omega (arith, makes_cut n xs)

-- the inside and the letters behind are two of the parts of a tile
inside_makes : (w : Shape) (xs : List Item) → makes_all (inside_of w xs) + makes_all (trail_of w xs) ≤ makes_all xs
inside_makes w xs =
    let rest = drop w.opening xs in
    let past = drop w.inside rest in
    let at : drop w.closing past ≡ trail_of w xs =
    ap (drop w.closing) (drop-drop w.inside w.opening xs) ∙ drop-drop w.closing (w.opening + w.inside) xs in
    omega (arith, makes_cut w.inside rest, makes_drop w.opening xs, makes_drop w.closing past, ap makes_all at)

inside_length : (w : Shape) (xs : List Item) → length (inside_of w xs) ≤ w.inside
inside_length w xs = omega (arith, length-take w.inside (drop w.opening xs))

inside_room : (w : Shape) (xs : List Item) → room (inside_of w xs) + makes_all (trail_of w xs) ≤ w.inside + makes_all xs
inside_room w xs = omega (arith, inside_length w xs, inside_makes w xs)

trail_count : (closing trail : List Item) → counts (trail_parts closing trail) ≤ 1 + makes_all trail
trail_count closing trail = omega (arith, leaf_count (plain node_kind.Skip) closing, parts_count Text trail)

link_count : (h : Head) (n : ℕ) (none : Bool) (opening closing trail : List Item) (ps : List Part) → (none ≡ false → 0 < n)
    → numbered (if none then round_parts h opening ps closing else round_parts h opening (ps ++ trail_parts closing trail) [])
    ≤ 1 + n + counts ps + makes_all trail
link_count h n true opening closing trail ps e = omega (arith, node_count h opening closing ps)
link_count h n false opening closing trail ps e =
    let some : 0 < n = e refl in
    omega (arith, node_count h opening [] (ps ++ trail_parts closing trail), counts_append ps (trail_parts closing trail), trail_count closing trail)

some_trail : (n : ℕ) → (n == 0) ≡ false → 0 < n
some_trail zero e = cc
some_trail (suc n) e = omega arith

nested_count : (k : Nested) (n : ℕ) (xs opening closing trail : List Item) (ps : List Part)
    → numbered (nested_by k n xs opening closing trail ps) ≤ 1 + n + counts ps + makes_all trail
nested_count nested.Link n xs opening closing trail ps = link_count (nested_head nested.Link xs opening) n (n == 0) opening closing trail ps (some_trail n)
nested_count nested.ExtLink n xs opening closing trail ps = omega (arith, node_count (nested_head nested.ExtLink xs opening) opening closing ps)
nested_count nested.Pair n xs opening closing trail ps = omega (arith, node_count (nested_head nested.Pair xs opening) opening closing ps)

tree_count : (k : Nested) (w : Shape) (xs : List Item) (ps : List Part) → length xs ≡ size w → 0 < w.opening → counts ps ≤ room (inside_of w xs)
    → numbered (nested_tree k w xs ps) ≤ room xs
unfolding nested_tree
tree_count k w xs ps e o h =
    omega (arith, nested_count k w.trail xs (opening_of w xs) (closing_of w xs) (trail_of w xs) ps, inside_room w xs)

url_count : (w : Shape) (xs : List Item) → length xs ≡ size w → 0 < size w → numbered (bare_url w xs) ≤ room xs
unfolding bare_url
url_count w xs e p =
    let ps = parts Text (inside_of w xs) in
    omega (
      arith,
      node_count (bare_url_head (inside_of w xs)) (opening_of w xs) (closing_of w xs) ps,
      parts_count Text (inside_of w xs),
      inside_makes w xs,
    )

leaf_room : (k : Leaf) (w : Shape) (xs : List Item) → length xs ≡ size w → 0 < size w → numbered (leaf_tree k xs) ≤ room xs
leaf_room k w xs e p = omega (arith, leaf_count (leaf_head k xs) xs)

abbrev IsFewTree : List Item → Option ItemTree → Type 0
IsFewTree xs None = Unit {0}
IsFewTree xs (Some t) = numbered t ≤ room xs

tile_count : (read : Reading) (cx : Context) (k : TileKind) (w : Shape) (xs : List Item) → IsFew read → length xs ≡ size w → 0 < size w → Opens k w.opening
    → IsFewTree xs (tile_tree read cx k w xs)
tile_count read cx kind.Link w xs f e p o = tree_count nested.Link w xs (read (in_text cx) (inside_of w xs)) e o (f (in_text cx) (inside_of w xs))
tile_count read cx kind.Category w xs f e p o = leaf_room as_leaf.Category w xs e p
tile_count read cx kind.Media w xs f e p o = leaf_room as_leaf.Placeholder w xs e p
tile_count read cx kind.ExtLink w xs f e p o = tree_count nested.ExtLink w xs (read (in_text cx) (inside_of w xs)) e o (f (in_text cx) (inside_of w xs))
tile_count read cx kind.BareUrl w xs f e p o = url_count w xs e p
tile_count read cx kind.Br w xs f e p o = leaf_room as_leaf.Break w xs e p
tile_count read cx kind.Pair w xs f e p o = tree_count nested.Pair w xs (read (in_pair cx) (inside_of w xs)) e o (f (in_pair cx) (inside_of w xs))
tile_count read cx kind.TagIsland w xs f e p o = leaf_room as_leaf.Placeholder w xs e p
tile_count read cx kind.Switch w xs f e p o = leaf_room as_leaf.Switch w xs e p
tile_count read cx kind.Atom w xs f e p o = tt
tile_count read cx kind.Mark w xs f e p o = tt
tile_count read cx kind.Chars w xs f e p o = tt

tile_cost : (xs : List Item) (t : Option ItemTree) → IsFewTree xs t → cost (segments_by t xs) ≤ room xs
tile_cost xs None h = loose_count xs
tile_cost xs (Some t) h = omega (arith, h)

tiles_cost : (read : Reading) (cx : Context) (ts : List (Shape × List Item)) → IsFew read → AllByRecursion IsOpened ts
    → cost (flat_map (tile_segments read cx) ts) ≤ room (joined ts)
tiles_cost read cx [] f h = omega arith
tiles_cost read cx ((w, xs) ∷ ts) f h =
    omega (
      arith,
      cost_append (tile_segments read cx (w, xs)) (flat_map (tile_segments read cx) ts),
      tile_cost xs (tile_tree read cx w.kind w xs) (tile_count read cx w.kind w xs f h.0.0 h.0.1 h.0.2),
      tiles_cost read cx ts f h.1,
      room_append xs (joined ts),
    )

segments_cost : (read : Reading) (cx : Context) (xs : List Item) → IsFew read → cost (segments read cx xs) ≤ room xs
unfolding segments
segments_cost read cx xs f =
    subst (λ ys. cost (flat_map (tile_segments read cx) (tiles cx xs)) ≤ room ys) (tiles_join cx xs) (tiles_cost read cx (tiles cx xs) f (tiles_opened cx xs))

-- ---- contexts

within_few : (n : ℕ) → IsFew (within n)
within_few zero cx xs = omega (arith, parts_count Text xs)
within_few (suc n) cx xs = omega (arith, with_styles_count (segments (within n) cx xs), segments_cost (within n) cx xs (within_few n))

pub line_count : (xs : List Item) → counts (line_parts xs) ≤ length xs + makes_all xs
unfolding context_parts
line_count xs = within_few most_contexts in_line xs

pub line_trees_count : (xs : List Item) → numbered_in_all (forest (line_trees xs)) ≤ length xs + makes_all xs
unfolding line_trees
line_trees_count xs = omega (arith, children_count (line_parts xs), line_count xs)
