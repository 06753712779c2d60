-- The parts of a context, of the text of a link and of the inside of a pair of tags may stand in a page, with all that stands in them.
use Rattle.std.proofs.Common.{◌≡◌, ℕ, zero, suc, ◌+◌, ◌-◌, ◌*◌, ◌<◌, ◌==◌, ◌⊎◌, Bool, true, false, not, Option, Some, None, List, [], ◌∷◌, ◌++◌, length, map, drop, refl, sym, subst, arith, inl, inr, append-nil}
use Rattle.std.specs.Prelude.{◌||◌, if◌then◌else◌}
use Rattle.std.specs.List.{AllByRecursion, flat_map}
use Rattle.std.proofs.lemmas.Bool.{eqb-true}
use Rattle.std.proofs.lemmas.List.{drop-map}
use Rattle.wt_span.specs.Items.{Item, char, whole, sources}
use Rattle.wt_span.specs.Runs.{runs, IsRun, AreRuns}
use Rattle.wt_span.proofs.RunLaws.{runs_are}
use Rattle.wt_tree.specs.declared.kind.Kind.TheVariants as node_kind
use Rattle.wt_tree.specs.declared.kind.AttrName.TheVariants as attr
use Rattle.wt_tiles.specs.declared.context.Context.{Context}
use Rattle.wt_tiles.specs.declared.glyph.GlyphClass.TheVariants as class
use Rattle.wt_tiles.specs.declared.shape.Shape.{Shape}
use Rattle.wt_tiles.specs.declared.shape.TileKind.{TileKind}
use Rattle.wt_tiles.specs.declared.shape.TileKind.TheVariants as kind
use Rattle.wt_tiles.specs.declared.tag.Name.{Name}
use Rattle.wt_tiles.specs.declared.tag.Name.TheVariants.{Paired, Break, Island}
use Rattle.wt_tiles.specs.declared.tag.Tag.{Tag}
use Rattle.wt_tiles.specs.Contexts.{in_line, in_text, in_pair}
use Rattle.wt_tiles.specs.Glyphs.{glyph_of, run_len}
use Rattle.wt_tiles.specs.Tags.{tag_at}
use Rattle.wt_tiles.specs.Tiles.{tiles}
use Rattle.wt_tiles.specs.Reading.{IsForm}
use Rattle.wt_quotes.specs.Styles.{style_tree_of}
use Rattle.wt_quotes.specs.Forest.{Forest, bare, grown, forest_of}
use Rattle.wt_inline.specs.declared.loose.Loose.TheVariants.{Text}
use Rattle.wt_inline.specs.ItemTree.{ItemTree, plain, leaf}
use Rattle.wt_inline.specs.Parts.{Part, node, parts}
use Rattle.wt_schema.specs.Written.{HasAttributes}
use Rattle.wt_context.specs.Segments.{Segment, is_quote, one_stretch, loose_segment, loose_segments, tree_segment, segment_items, segment_parts}
use Rattle.wt_context.specs.Heads.{glyphs, placeholder, link_head, category_head, key, ext_link_head, bracketed_url, text_of, bare_url_head, name_end, attribute_items, attributes_of, pair_by_name, pair_by, pair_head, switch_property, switch_head}
use Rattle.wt_context.specs.Chunks.{chunks}
use Rattle.wt_context.specs.Nodes.{Reading, opening_of, inside_of, closing_of, trail_of, bare_url, trail_parts, link_by, nested_tree, tile_tree, segments_by, tile_segments, segments}
use Rattle.wt_context.specs.Styled.{style_kind, between, style_node, styled, with_styles}
use Rattle.wt_context.specs.Line.{within, context_parts, line_parts}
use Rattle.wt_context.proofs.AttributeCuts.{name_edge, tag_edge}
use Rattle.wt_page_round_trip.proofs.TextItems.{AreTexts, BeginsLow, EndsLow, cut_after, cut_items_before}
use Rattle.wt_page_round_trip.proofs.OfPage.{IsPageItem, AreOfPage, ArePageItems, no_page_items}
use Rattle.wt_page_round_trip.proofs.PageLines.{all_left, all_right, all_both, all_taken, all_dropped, both_page}
use Rattle.wt_page_round_trip.proofs.WrittenParts.{FitsIn, NodeFits, no_parts, fits_both, fits_fewer, fits_node, fits_text}
use Rattle.wt_page_round_trip.proofs.InlineNodes.{round, IsFilled, bold_node, italic_node, wiki_link_node, ext_link_node, tag_node, category_leaf, switch_leaf, break_leaf, skip_leaf, kept_leaf, kept_round}
use Rattle.wt_page_round_trip.proofs.TileTexts.{taken_items, dropped_items, AreParts, parts_of_page, IsPageTile, tiles_good}
use Rattle.wt_page_round_trip.proofs.ShownTexts.{shown_utf8, bracketed_utf8}
use Rattle.wt_page_round_trip.proofs.LinkHeads.{link_has, category_has, url_has}
use Rattle.wt_page_round_trip.proofs.SpanAttributes.{tag_has}
use Rattle.wt_page_round_trip.proofs.SwitchHeads.{switch_has}
use Rattle.wt_page_round_trip.proofs.StyleDepth.{IsNested, styles_nest}

-- ---- segments

pub record SegmentFits (most : ℕ) (u : Segment) : Type 0 where
  pub parts : FitsIn most u.parts
  pub items : ArePageItems u.items

loose_fits : (most : ℕ) (xs : List Item) → most < 199 → ArePageItems xs → SegmentFits most (loose_segment xs)
loose_fits most xs small h = record { parts = fits_text most xs small h.texts h.page; items = h }

-- ---- characters: each apostrophe by itself, and what stands between them

ends_quote : (x : Item) → is_quote x ≡ true → EndsLow (x ∷ [])
ends_quote (char o b) e = let f : b ≡ 39 = eqb-true b 39 e in omega (arith, f)
ends_quote (whole f o bs) e = tt

begins_quote : (x : Item) (xs : List Item) → is_quote x ≡ true → BeginsLow (x ∷ xs)
begins_quote (char o b) xs e = let f : b ≡ 39 = eqb-true b 39 e in omega (arith, f)
begins_quote (whole f o bs) xs e = tt

one_by : (x y : Item) (ys : List Item) (s t : Bool) → is_quote x ≡ s → is_quote y ≡ t → not (s || t) ≡ false → EndsLow (x ∷ []) ⊎ BeginsLow (y ∷ ys)
one_by x y ys true t e f h = inl (ends_quote x e)
one_by x y ys false true e f h = inr (begins_quote y ys f)
one_by x y ys false false e f h = cc

pub run_edge : (r : List Item) (y : Item) (others : List Item) → IsRun one_stretch r (y ∷ others) → EndsLow r ⊎ BeginsLow (y ∷ others)
run_edge [] y others h = absurd h
run_edge (x ∷ []) y others h = one_by x y others (is_quote x) (is_quote y) refl refl h
run_edge (x ∷ z ∷ zs) y others h = run_edge (z ∷ zs) y others h.1

cut_by : (r ys : List Item) → EndsLow r ⊎ BeginsLow ys → AreTexts [] (r ++ ys) → AreTexts [] r × AreTexts [] ys
cut_by r ys (inl e) t = cut_after r ys e t
cut_by r ys (inr e) t = cut_items_before [] r ys e t

cut_run : (r others : List Item) → IsRun one_stretch r others → AreTexts [] (r ++ others) → AreTexts [] r × AreTexts [] others
cut_run r [] h t = (subst (AreTexts []) (append-nil r) t, no_page_items.texts)
cut_run r (y ∷ others) h t = cut_by r (y ∷ others) (run_edge r y others h) t

runs_fit : (most : ℕ) (rs : List (List Item)) (xs : List Item) → most < 199 → AreRuns one_stretch rs xs → ArePageItems xs
    → AllByRecursion (SegmentFits most) (map loose_segment rs)
runs_fit most [] xs small a h = tt
runs_fit most (r ∷ rs) xs small a h =
    let t : AreTexts [] r × AreTexts [] a.0 = cut_run r a.0 a.2 (subst (AreTexts []) a.1 h.texts) in
    let p : AreOfPage (r ++ a.0) = subst AreOfPage a.1 h.page in (
      loose_fits most r small (record { texts = t.0; page = all_left IsPageItem r a.0 p }),
      runs_fit most rs a.0 small a.3 (record { texts = t.1; page = all_right IsPageItem r a.0 p }),
    )

loose_all : (most : ℕ) (xs : List Item) → most < 199 → ArePageItems xs → AllByRecursion (SegmentFits most) (loose_segments xs)
unfolding loose_segments
loose_all most xs small h = runs_fit most (runs one_stretch xs) xs small (runs_are one_stretch xs) h

-- ---- tiles

-- what a function that reads contexts gives
abbrev Reads : ℕ → Reading → Type 0
Reads most read = (cx : Context) (xs : List Item) → ArePageItems xs → FitsIn most (read cx xs)

filled : (most : ℕ) (opening closing : List Item) (ps : List Part) → most < 199 → ArePageItems opening → ArePageItems closing → FitsIn (suc most) ps
    → IsFilled most opening ps closing
filled most opening closing ps small h i f = record { opening = h; closing = i; inside = f; small = small }

trail_fits : (most : ℕ) (closing trail : List Item) → suc most < 199 → ArePageItems closing → ArePageItems trail → FitsIn (suc most) (trail_parts closing trail)
trail_fits most closing trail small h i =
    fits_both (suc most) (node (leaf (plain node_kind.Skip) closing) ∷ []) (parts Text trail)
    (fits_node (suc most) (leaf (plain node_kind.Skip) closing) (skip_leaf (suc most) closing small h))
    (fits_text (suc most) trail small i.texts i.page)

link_node : (most n : ℕ) (xs opening closing trail : List Item) (ps : List Part) → suc most < 199 → ArePageItems opening → ArePageItems closing
    → ArePageItems trail → FitsIn (suc most) ps → NodeFits most (link_by (link_head xs) n opening closing trail ps)
unfolding link_head
link_node most n xs opening closing trail ps small h i j f = by_test (n == 0)
  where
    by_test : (t : Bool) → NodeFits most (if t then round (link_head xs) opening ps closing else round (link_head xs) opening
        (ps ++ trail_parts closing trail) [])
    by_test true = wiki_link_node most _ (link_has (glyphs xs)) opening closing ps (filled most opening closing ps (omega (arith, small)) h i f)
    by_test false = wiki_link_node most _ (link_has (glyphs xs)) opening [] (ps ++ trail_parts closing trail)
        (filled most opening [] (ps ++ trail_parts closing trail) (omega (arith, small)) h no_page_items
        (fits_both (suc most) ps (trail_parts closing trail) f (trail_fits most closing trail small i j)))

ext_node : (most : ℕ) (opening closing : List Item) (ps : List Part) → most < 199 → ArePageItems opening → ArePageItems closing → FitsIn (suc most) ps
    → NodeFits most (round (ext_link_head opening) opening ps closing)
unfolding ext_link_head
ext_node most opening closing ps small h i f =
    ext_link_node most _ (url_has (bracketed_url (text_of opening)) (bracketed_utf8 (text_of opening) (shown_utf8 opening h))) opening closing ps
    (filled most opening closing ps small h i f)

-- what stands between the name of a tag and its `>`
attributes_page : (opening : List Item) → ArePageItems opening → ArePageItems (attribute_items opening)
unfolding attribute_items
attributes_page opening h =
    let n : ℕ = name_end (glyphs opening) in
    let k : ℕ = run_len class.Tag (drop n (glyphs opening)) in
    let behind : ArePageItems (drop n opening) = dropped_items opening n h (λ pos. name_edge (glyphs opening) (glyphs opening) n refl refl pos) in
    taken_items (drop n opening) k behind (λ pos. tag_edge (drop n (glyphs opening)) (map glyph_of (drop n opening)) k (sym (drop-map glyph_of n opening)) refl)

pair_named : (most : ℕ) (m : Name) (opening closing : List Item) (ps : List Part) → ArePageItems opening → IsFilled most opening ps closing
    → NodeFits most (round (pair_by_name m opening) opening ps closing)
unfolding placeholder
pair_named most (Paired m) opening closing ps h f = tag_node m most (attributes_of m opening)
    (tag_has m opening (attributes_page opening h)) opening closing ps f
pair_named most Break opening closing ps h f = kept_round most opening closing ps f
pair_named most Island opening closing ps h f = kept_round most opening closing ps f

pair_of : (most : ℕ) (o : Option Tag) (opening closing : List Item) (ps : List Part) → ArePageItems opening → IsFilled most opening ps closing
    → NodeFits most (round (pair_by o opening) opening ps closing)
unfolding placeholder
pair_of most None opening closing ps h f = kept_round most opening closing ps f
pair_of most (Some t) opening closing ps h f = pair_named most t.name opening closing ps h f

pair_node : (most : ℕ) (opening closing : List Item) (ps : List Part) → ArePageItems opening → IsFilled most opening ps closing
    → NodeFits most (round (pair_head opening) opening ps closing)
unfolding pair_head
pair_node most opening closing ps h f = pair_of most (tag_at (glyphs opening)) opening closing ps h f

url_node : (most : ℕ) (w : Shape) (xs : List Item) → suc most < 199 → AreParts w xs → NodeFits most (bare_url w xs)
unfolding bare_url bare_url_head
url_node most w xs small h =
    ext_link_node most _ (url_has (text_of (inside_of w xs)) (shown_utf8 (inside_of w xs) h.inside)) (opening_of w xs) (closing_of w xs)
    (parts Text (inside_of w xs))
    (filled most (opening_of w xs) (closing_of w xs) (parts Text (inside_of w xs)) (omega (arith, small)) h.opening h.closing
    (fits_text (suc most) (inside_of w xs) small h.inside.texts h.inside.page))

one_tree : (most : ℕ) (xs : List Item) (t : ItemTree) → ArePageItems xs → NodeFits most t → AllByRecursion (SegmentFits most) (tree_segment xs t ∷ [])
one_tree most xs t h f = (record { parts = fits_node most t f; items = h }, tt)

abbrev HasSwitch : List Item → Type 0
HasSwitch xs = HasAttributes node_kind.Switch ((attr.Property, switch_property (sources xs)) ∷ [])

form_parts : (cx : Context) (w : Shape) (xs : List Item) (k : TileKind) → IsForm k → w.kind ≡ k → IsPageTile cx (w, xs) → AreParts w xs
form_parts cx w xs k f e h = parts_of_page w xs (h.cuts (subst IsForm (sym e) f)) h.items

tile_by : (most : ℕ) (read : Reading) → suc most < 199 → Reads (suc most) read → (cx : Context) (w : Shape) (xs : List Item) → IsPageTile cx (w, xs)
    → (k : TileKind) → w.kind ≡ k
    → AllByRecursion (SegmentFits most) (segments_by (tile_tree read cx k w xs) xs)
unfolding nested_tree category_head switch_head placeholder
tile_by most read small r cx w xs h kind.Link e =
    let p : AreParts w xs = form_parts cx w xs kind.Link tt e h in
    one_tree most xs _ h.items (link_node most w.trail xs (opening_of w xs) (closing_of w xs) (trail_of w xs)
    (read (in_text cx) (inside_of w xs)) small p.opening p.closing p.trail
    (r (in_text cx) (inside_of w xs) p.inside))
tile_by most read small r cx w xs h kind.Category e = one_tree most xs _ h.items
    (category_leaf most _ (category_has (glyphs xs) (key xs)) xs (omega (arith, small)) h.items)
tile_by most read small r cx w xs h kind.Media e = one_tree most xs _ h.items (kept_leaf most xs (omega (arith, small)) h.items)
tile_by most read small r cx w xs h kind.ExtLink e =
    let p : AreParts w xs = form_parts cx w xs kind.ExtLink tt e h in
    one_tree most xs _ h.items (ext_node most (opening_of w xs) (closing_of w xs) (read (in_text cx) (inside_of w xs))
    (omega (arith, small)) p.opening p.closing
    (r (in_text cx) (inside_of w xs) p.inside))
tile_by most read small r cx w xs h kind.BareUrl e = one_tree most xs _ h.items (url_node most w xs small (form_parts cx w xs kind.BareUrl tt e h))
tile_by most read small r cx w xs h kind.Br e = one_tree most xs _ h.items (break_leaf most xs (omega (arith, small)) h.items)
tile_by most read small r cx w xs h kind.Pair e =
    let p : AreParts w xs = form_parts cx w xs kind.Pair tt e h in
    one_tree most xs _ h.items (pair_node most (opening_of w xs) (closing_of w xs) (read (in_pair cx) (inside_of w xs)) p.opening
    (filled most (opening_of w xs) (closing_of w xs) (read (in_pair cx) (inside_of w xs)) (omega (arith, small)) p.opening p.closing
    (r (in_pair cx) (inside_of w xs) p.inside)))
tile_by most read small r cx w xs h kind.TagIsland e = one_tree most xs _ h.items (kept_leaf most xs (omega (arith, small)) h.items)
tile_by most read small r cx w xs h kind.Switch e =
    let b = h.begins (subst IsForm (sym e) tt) in
    one_tree most xs _ h.items (switch_leaf most _ (subst (λ (ys : List Item). HasSwitch ys) (sym b.are)
    (switch_has cx b.after b.all w e b.stands)) xs (omega (arith, small)) h.items)
tile_by most read small r cx w xs h kind.Atom e = loose_all most xs (omega (arith, small)) h.items
tile_by most read small r cx w xs h kind.Mark e = loose_all most xs (omega (arith, small)) h.items
tile_by most read small r cx w xs h kind.Chars e = loose_all most xs (omega (arith, small)) h.items

all_tiles : (most : ℕ) (read : Reading) → suc most < 199 → Reads (suc most) read → (cx : Context) (ts : List (Shape × List Item))
    → AllByRecursion (IsPageTile cx) ts
    → AllByRecursion (SegmentFits most) (flat_map (tile_segments read cx) ts)
all_tiles most read small r cx [] h = tt
all_tiles most read small r cx ((w, xs) ∷ ts) h =
    all_both (SegmentFits most) (tile_segments read cx (w, xs)) (flat_map (tile_segments read cx) ts) (tile_by most read small r cx w xs h.0 w.kind refl)
    (all_tiles most read small r cx ts h.1)

segments_fit : (most : ℕ) (read : Reading) → suc most < 199 → Reads (suc most) read → (cx : Context) (xs : List Item) → ArePageItems xs
    → AllByRecursion (SegmentFits most) (segments read cx xs)
unfolding segments
segments_fit most read small r cx xs h = all_tiles most read small r cx (tiles cx xs) (tiles_good cx xs h)

-- ---- styles

parts_fit : (most : ℕ) (us : List Segment) → AllByRecursion (SegmentFits most) us → FitsIn most (segment_parts us)
parts_fit most [] h = no_parts most
parts_fit most (u ∷ us) h = fits_both most u.parts (segment_parts us) h.0.parts (parts_fit most us h.1)

segments_page : (most : ℕ) (us : List Segment) → AllByRecursion (SegmentFits most) us → ArePageItems (segment_items us)
segments_page most [] h = no_page_items
segments_page most (u ∷ us) h = both_page u.items (segment_items us) h.0.items (segments_page most us h.1)

between_fit : (most from to : ℕ) (us : List Segment) → AllByRecursion (SegmentFits most) us → AllByRecursion (SegmentFits most) (between from to us)
between_fit most from to us h = all_taken (SegmentFits most) (to - from) (drop from us) (all_dropped (SegmentFits most) from us h)

style_by : (most : ℕ) (b : Bool) (opening closing : List Item) (ps : List Part) → IsFilled most opening ps closing
    → NodeFits most (round (plain (style_kind b)) opening ps closing)
style_by most true opening closing ps f = bold_node most opening closing ps f
style_by most false opening closing ps f = italic_node most opening closing ps f

styled_fits : (n most low high : ℕ) (f : Forest) (us : List Segment) → IsNested n f → most + n < 199 → AllByRecursion (SegmentFits (most + n)) us
    → FitsIn most (styled low high f us)
styled_fits n most low high bare us d small h = fits_fewer (most + n) most (segment_parts (between low high us)) (omega arith)
    (parts_fit (most + n) (between low high us) (between_fit (most + n) low high us h))
styled_fits zero most low high (grown s inside after) us d small h = absurd d
styled_fits (suc n) most low high (grown s inside after) us d small h =
    let m : ℕ = most + suc n in
    let z : m ≡ suc most + n = omega arith in
    let before : FitsIn most (segment_parts (between low s.from us)) =
    fits_fewer m most _ (omega arith) (parts_fit m (between low s.from us) (between_fit m low s.from us h)) in
    let ps : List Part = styled (s.from + s.open_w) (s.to - s.close_w) inside us in
    let within : FitsIn (suc most) ps = styled_fits n (suc most) (s.from + s.open_w) (s.to - s.close_w) inside us d.0 (omega (arith, small))
    (subst (λ k. AllByRecursion (SegmentFits k) us) z h) in
    let here : NodeFits most (style_node s ps us) = style_by most s.bold (segment_items (between s.from (s.from + s.open_w) us))
    (segment_items (between (s.to - s.close_w) s.to us)) ps
    (record {
      opening = segments_page m _ (between_fit m s.from (s.from + s.open_w) us h);
      closing = segments_page m _ (between_fit m (s.to - s.close_w) s.to us h);
      inside = within;
      small = omega (arith, small);
    }) in
    fits_both most (segment_parts (between low s.from us)) (node (style_node s ps us) ∷ styled s.to high after us) before
    (fits_both most (node (style_node s ps us) ∷ []) (styled s.to high after us) (fits_node most (style_node s ps us) here)
    (styled_fits (suc n) most s.to high after us d.1 small h))

styles_fit : (most : ℕ) (us : List Segment) → most + 2 < 199 → AllByRecursion (SegmentFits (most + 2)) us → FitsIn most (with_styles us)
unfolding with_styles
styles_fit most us small h = styled_fits 2 most 0 (length us) (forest_of (style_tree_of (chunks us))) us (styles_nest (chunks us)) small h

-- ---- contexts

context_fits : (n most : ℕ) → most + 3 * n < 196 → Reads most (within n)
context_fits zero most small cx xs h = fits_text most xs (omega (arith, small)) h.texts h.page
context_fits (suc n) most small cx xs h =
    styles_fit most (segments (within n) cx xs) (omega (arith, small))
    (segments_fit (most + 2) (within n) (omega (arith, small)) (context_fits n (suc (most + 2)) (omega (arith, small))) cx xs h)

-- Within 141 elements or fewer, a line may stand: 18 contexts stand in one another, each with two styles and an element round
-- the next.
pub line_fits : (most : ℕ) → most < 142 → (xs : List Item) → ArePageItems xs → FitsIn most (line_parts xs)
unfolding context_parts
line_fits most small xs h = context_fits 18 most (omega (arith, small)) in_line xs h
