-- What is read of a context holds its items.
use Rattle.std.proofs.Common.{◌≡◌, ℕ, zero, suc, ◌+◌, ◌-◌, ◌≤◌, Option, Some, None, List, [], ◌∷◌, ◌++◌, length, take, drop, map, refl, sym, ap, ◌∙◌, arith, append-nil, drop-drop}
use Rattle.std.specs.List.{flat_map, AllByRecursion}
use Rattle.std.proofs.Math.Seq.{take-add}
use Rattle.std.proofs.lemmas.List.{take_all}
use Rattle.std.proofs.lemmas.Grind.{flat_map-append}
use Rattle.wt_span.specs.Items.{Item, sources}
use Rattle.wt_span.specs.Runs.{runs}
use Rattle.wt_span.proofs.RunLaws.{runs_joined}
use Rattle.wt_quotes.specs.declared.style.Style.{Style}
use Rattle.wt_quotes.specs.Styles.{style_tree_of}
use Rattle.wt_quotes.specs.Forest.{Forest, bare, grown, forest_of}
use Rattle.wt_tiles.specs.declared.context.Context.{Context}
use Rattle.wt_tiles.specs.declared.shape.Shape.{Shape}
use Rattle.wt_tiles.specs.Contexts.{in_line}
use Rattle.wt_tiles.specs.Tiles.{tiles}
use Rattle.wt_tiles.specs.Cutting.{joined}
use Rattle.wt_tiles.proofs.Joining.{tiles_join}
use Rattle.wt_inline.specs.declared.loose.Loose.TheVariants.{Text}
use Rattle.wt_inline.specs.Inside.{opened_all}
use Rattle.wt_inline.specs.ItemTree.{ItemTree, plain, tree_items, forest, held_by_all}
use Rattle.wt_inline.specs.Parts.{Part, node, held_parts}
use Rattle.wt_inline.proofs.HeldLaws.{held_children, held_append, opened_append, sources_opened}
use Rattle.wt_context.specs.Segments.{Segment, one_stretch, loose_segment, loose_segments, segment_items, segment_parts}
use Rattle.wt_context.specs.Chunks.{chunks}
use Rattle.wt_context.specs.Styled.{style_kind, between, style_node, styled, with_styles}
use Rattle.wt_context.specs.Styling.{Fill}
use Rattle.wt_context.specs.Nodes.{Reading, tile_tree, segments_by, tile_segments, segments}
use Rattle.wt_context.specs.Line.{read_by, within, most_contexts, context_parts, line_parts, line_trees}
use Rattle.wt_context.proofs.Forests.{fill_le}
use Rattle.wt_context.proofs.ContextStyles.{styles_fill}
use Rattle.wt_context.proofs.Opening.{Hold, parts_hold, round_holds}
use Rattle.wt_context.proofs.TilePlaces.{IsPlaced, tiles_placed}
use Rattle.wt_context.proofs.TileHolding.{OptHolds, ReadsAll, tile_holds}

-- ---- segments

abbrev pub SegmentHolds : Segment → Type 0
SegmentHolds u = Hold u.parts u.items

abbrev pub AreHolding : List Segment → Type 0
AreHolding us = AllByRecursion SegmentHolds us

both_hold : (us vs : List Segment) → AreHolding us → AreHolding vs → AreHolding (us ++ vs)
both_hold [] vs f g = g
both_hold (u ∷ us) vs f g = (f.0, both_hold us vs f.1 g)

first_hold : (n : ℕ) (us : List Segment) → AreHolding us → AreHolding (take n us)
first_hold zero us f = tt
first_hold (suc n) [] f = tt
first_hold (suc n) (u ∷ us) f = (f.0, first_hold n us f.1)

rest_hold : (n : ℕ) (us : List Segment) → AreHolding us → AreHolding (drop n us)
rest_hold zero us f = f
rest_hold (suc n) [] f = tt
rest_hold (suc n) (u ∷ us) f = rest_hold n us f.1

pub items_append : (us vs : List Segment) → segment_items (us ++ vs) ≡ segment_items us ++ segment_items vs
items_append us vs = flat_map-append (λ u. u.items) us vs

-- parts of both, one after the other
pub append_holds : (ps qs : List Part) (xs ys : List Item) → Hold ps xs → Hold qs ys → Hold (ps ++ qs) (xs ++ ys)
append_holds ps qs xs ys f g =
    ap opened_all (held_append ps qs) ∙ opened_append (held_parts ps) (held_parts qs)
    ∙ ap (λ zs. zs ++ opened_all (held_parts qs)) f ∙ ap (λ zs. opened_all xs ++ zs) g ∙ sym (opened_append xs ys)

all_hold : (us : List Segment) → AreHolding us → Hold (segment_parts us) (segment_items us)
all_hold [] f = refl
all_hold (u ∷ us) f = append_holds u.parts (segment_parts us) u.items (segment_items us) f.0 (all_hold us f.1)

-- ---- the segments of a tile

loose_hold : (rs : List (List Item)) → AreHolding (map loose_segment rs)
loose_hold [] = tt
loose_hold (r ∷ rs) = (parts_hold Text r, loose_hold rs)

loose_items : (rs : List (List Item)) → segment_items (map loose_segment rs) ≡ flat_map (λ r. r) rs
loose_items [] = refl
loose_items (r ∷ rs) = ap (λ ys. r ++ ys) (loose_items rs)

by_hold : (o : Option ItemTree) (xs : List Item) → OptHolds o xs → AreHolding (segments_by o xs)
unfolding loose_segments
by_hold None xs f = loose_hold (runs one_stretch xs)
by_hold (Some t) xs f = (ap opened_all (append-nil (tree_items t)) ∙ f, tt)

pub by_items : (o : Option ItemTree) (xs : List Item) → segment_items (segments_by o xs) ≡ xs
unfolding loose_segments
by_items None xs = loose_items (runs one_stretch xs) ∙ runs_joined one_stretch xs
by_items (Some t) xs = append-nil xs

tiles_hold : (read : Reading) → ReadsAll read → (cx : Context) (ps : List (Shape × List Item)) → AllByRecursion (IsPlaced cx) ps
    → AreHolding (flat_map (tile_segments read cx) ps)
tiles_hold read h cx [] f = tt
tiles_hold read h cx ((w, xs) ∷ ps) f =
    both_hold (tile_segments read cx (w, xs)) (flat_map (tile_segments read cx) ps)
    (by_hold (tile_tree read cx w.kind w xs) xs (tile_holds read h cx w.kind w xs f.0.0 f.0.1)) (tiles_hold read h cx ps f.1)

tiles_items : (read : Reading) (cx : Context) (ps : List (Shape × List Item)) → segment_items (flat_map (tile_segments read cx) ps) ≡ joined ps
tiles_items read cx [] = refl
tiles_items read cx ((w, xs) ∷ ps) =
    items_append (tile_segments read cx (w, xs)) (flat_map (tile_segments read cx) ps)
    ∙ ap (λ ys. ys ++ segment_items (flat_map (tile_segments read cx) ps)) (by_items (tile_tree read cx w.kind w xs) xs)
    ∙ ap (λ ys. xs ++ ys) (tiles_items read cx ps)

segments_hold : (read : Reading) → ReadsAll read → (cx : Context) (xs : List Item) → AreHolding (segments read cx xs)
unfolding segments
segments_hold read h cx xs = tiles_hold read h cx (tiles cx xs) (tiles_placed cx xs)

-- the segments, joined, are the items of the context
pub segments_join : (read : Reading) (cx : Context) (xs : List Item) → segment_items (segments read cx xs) ≡ xs
unfolding segments
segments_join read cx xs = tiles_items read cx (tiles cx xs) ∙ tiles_join cx xs

-- ---- styles

pub between_both : (low mid high : ℕ) (us : List Segment) → low ≤ mid → mid ≤ high → between low high us ≡ between low mid us ++ between mid high us
between_both low mid high us l m =
    let z : high - low ≡ (mid - low) + (high - mid) = omega (arith, l, m) in
    let y : low + (mid - low) ≡ mid = omega (arith, l) in
    ap (λ n. take n (drop low us)) z ∙ take-add (mid - low) (high - mid) (drop low us)
    ∙ ap (λ vs. between low mid us ++ take (high - mid) vs) (drop-drop (mid - low) low us ∙ ap (λ n. drop n us) y)

pub between_all : (us : List Segment) → between 0 (length us) us ≡ us
between_all us = let z : length us - 0 ≡ length us = omega arith in ap (λ n. take n (drop 0 us)) z ∙ take_all (length us) us (omega arith)

items_both : (low mid high : ℕ) (us : List Segment) → low ≤ mid → mid ≤ high
    → segment_items (between low mid us) ++ segment_items (between mid high us) ≡ segment_items (between low high us)
items_both low mid high us l m = sym (ap segment_items (between_both low mid high us l m) ∙ items_append (between low mid us) (between mid high us))

between_holds : (low high : ℕ) (us : List Segment) → AreHolding us → Hold (segment_parts (between low high us)) (segment_items (between low high us))
between_holds low high us f = all_hold (between low high us) (first_hold (high - low) (drop low us) (rest_hold low us f))

style_holds : (s : Style) (ps : List Part) (us : List Segment) → s.from + s.open_w ≤ s.to - s.close_w → s.close_w ≤ s.to
    → Hold ps (segment_items (between (s.from + s.open_w) (s.to - s.close_w) us))
    → opened_all (tree_items (style_node s ps us)) ≡ opened_all (segment_items (between s.from s.to us))
style_holds s ps us l c f =
    let inner = s.from + s.open_w in
    let outer = s.to - s.close_w in
    let o : s.from ≤ inner = omega arith in
    let p : outer ≤ s.to = omega arith in
    round_holds (plain (style_kind s.bold)) (segment_items (between s.from inner us)) (segment_items (between outer s.to us))
    (segment_items (between inner outer us)) ps f
    ∙ ap (λ ys. opened_all (segment_items (between s.from inner us) ++ ys)) (items_both inner outer s.to us l p)
    ∙ ap opened_all (items_both s.from inner s.to us o (omega (arith, l)))

node_holds : (t : ItemTree) (ps : List Part) (xs ys : List Item) → opened_all (tree_items t) ≡ opened_all xs → Hold ps ys → Hold (node t ∷ ps) (xs ++ ys)
node_holds t ps xs ys f g =
    opened_append (tree_items t) (held_parts ps) ∙ ap (λ zs. zs ++ opened_all (held_parts ps)) f ∙ ap (λ zs. opened_all xs ++ zs) g ∙ sym (opened_append xs ys)

styled_holds : (low high : ℕ) (f : Forest) (us : List Segment) → AreHolding us → Fill low high f
    → Hold (styled low high f us) (segment_items (between low high us))
styled_holds low high bare us a h = between_holds low high us a
styled_holds low high (grown s inside after) us a (begins, filled, closes, rest) =
    let ins = styled (s.from + s.open_w) (s.to - s.close_w) inside us in
    let l = fill_le (s.from + s.open_w) (s.to - s.close_w) inside filled in
    let m = fill_le s.to high after rest in
    let ends : s.from ≤ s.to = omega (arith, l) in
    let one = style_holds s ins us l closes (styled_holds (s.from + s.open_w) (s.to - s.close_w) inside us a filled) in
    let two = styled_holds s.to high after us a rest in
    append_holds (segment_parts (between low s.from us)) (node (style_node s ins us) ∷ styled s.to high after us)
    (segment_items (between low s.from us)) (segment_items (between s.from s.to us) ++ segment_items (between s.to high us))
    (between_holds low s.from us a)
    (node_holds (style_node s ins us) (styled s.to high after us) (segment_items (between s.from s.to us)) (segment_items (between s.to high us)) one two)
    ∙ ap (λ ys. opened_all (segment_items (between low s.from us) ++ ys)) (items_both s.from s.to high us ends m)
    ∙ ap opened_all (items_both low s.from high us begins (omega (arith, ends, m)))

with_styles_hold : (us : List Segment) → AreHolding us → Hold (with_styles us) (segment_items us)
unfolding with_styles
with_styles_hold us a =
    styled_holds 0 (length us) (forest_of (style_tree_of (chunks us))) us a (styles_fill us (chunks us) (style_tree_of (chunks us)) (length us) refl refl refl)
    ∙ ap (λ vs. opened_all (segment_items vs)) (between_all us)

-- ---- contexts

read_holds : (read : Reading) → ReadsAll read → ReadsAll (read_by read)
read_holds read h cx xs = with_styles_hold (segments read cx xs) (segments_hold read h cx xs) ∙ ap opened_all (segments_join read cx xs)

pub within_holds : (n : ℕ) → ReadsAll (within n)
within_holds zero cx xs = parts_hold Text xs
within_holds (suc n) cx xs = read_holds (within n) (within_holds n) cx xs

pub context_holds : (cx : Context) (xs : List Item) → Hold (context_parts cx xs) xs
unfolding context_parts
context_holds cx xs = within_holds most_contexts cx xs

pub line_holds : (xs : List Item) → opened_all (held_parts (line_parts xs)) ≡ opened_all xs
line_holds xs = context_holds in_line xs

pub line_source : (xs : List Item) → sources (held_parts (line_parts xs)) ≡ sources xs
line_source xs = sym (sources_opened (held_parts (line_parts xs))) ∙ ap sources (line_holds xs) ∙ sources_opened xs

pub trees_hold : (xs : List Item) → opened_all (held_by_all (forest (line_trees xs))) ≡ opened_all xs
unfolding line_trees
trees_hold xs = ap opened_all (held_children (line_parts xs)) ∙ line_holds xs

pub trees_source : (xs : List Item) → sources (held_by_all (forest (line_trees xs))) ≡ sources xs
trees_source xs = sym (sources_opened (held_by_all (forest (line_trees xs)))) ∙ ap sources (trees_hold xs) ∙ sources_opened xs
