-- What stands on a line, by its parts: characters of texts, and inline elements.
use Rattle.std.proofs.Common.{ℕ, zero, suc, ◌+◌, ◌-◌, Bool, true, false, Option, Some, None, List, [], ◌∷◌, ◌++◌, length, map, take, drop, refl, sym, subst}
use Rattle.std.specs.Prelude.{◌==◌, if◌then◌else◌}
use Rattle.std.specs.List.{AllByRecursion, flat_map}
use Rattle.wt_span.specs.declared.form.ItemForm.{ItemForm}
use Rattle.wt_span.specs.declared.form.ItemForm.TheVariants as form
use Rattle.wt_span.specs.Items.{Item, char, whole}
use Rattle.wt_span.specs.Runs.{runs, AreRuns}
use Rattle.wt_span.proofs.RunLaws.{runs_are}
use Rattle.wt_tiles.specs.declared.context.Context.{Context}
use Rattle.wt_tiles.specs.declared.shape.Shape.{Shape}
use Rattle.wt_tiles.specs.declared.shape.TileKind.{TileKind}
use Rattle.wt_tiles.specs.declared.shape.TileKind.TheVariants as kind
use Rattle.wt_tiles.specs.declared.tag.Name.{Name}
use Rattle.wt_tiles.specs.declared.tag.Name.TheVariants.{Paired, Break, Island}
use Rattle.wt_tiles.specs.declared.tag.Tag.{Tag}
use Rattle.wt_tiles.specs.Glyphs.{glyph_of}
use Rattle.wt_tiles.specs.Contexts.{in_line, in_text}
use Rattle.wt_tiles.specs.Tags.{tag_at}
use Rattle.wt_tiles.specs.Tiles.{size, shapes, parts as tile_parts}
use Rattle.wt_tiles.proofs.Joining.{tiles_are}
use Rattle.wt_quotes.specs.Styles.{style_tree_of}
use Rattle.wt_quotes.specs.Forest.{Forest, bare, grown, forest_of}
use Rattle.wt_inline.specs.declared.loose.Loose.TheVariants.{Text}
use Rattle.wt_inline.specs.Parts.{Part, node, parts, whole_tree, nowiki}
use Rattle.wt_context.specs.Heads.{glyphs, placeholder, link_head, category_head, ext_link_head, bare_url_head, pair_by_name, pair_by, pair_head, switch_head}
use Rattle.wt_context.specs.Segments.{Segment, one_stretch, loose_segment, loose_segments, segment_parts}
use Rattle.wt_context.specs.Chunks.{chunks}
use Rattle.wt_context.specs.Styled.{style_kind, between, style_node, styled, with_styles}
use Rattle.wt_context.specs.Nodes.{Reading, opening_of, inside_of, closing_of, trail_of, link_by, bare_url, nested_tree, tile_tree, segments_by, tile_segments, segments}
use Rattle.wt_context.specs.Line.{within, context_parts, line_parts}
use Rattle.wt_page_round_trip.proofs.OfPage.{IsPageItem, AreOfPage}
use Rattle.wt_page_round_trip.proofs.PageLines.{all_left, all_right, all_both, all_taken, all_dropped}
use Rattle.wt_page_round_trip.proofs.Separated.{head_of}
use Rattle.wt_page_round_trip.proofs.Bordered.{IsInlineKind, IsLinePart}

-- ---- items by themselves

whole_line : (f : ItemForm) (o : Option ℕ) (bs : List ℕ) → IsPageItem (whole f o bs) → IsInlineKind (head_of (whole_tree f o bs)).kind
unfolding nowiki
whole_line form.Chars o bs h = absurd h.1
whole_line (form.Entity c) o bs h = record { block = refl; group = refl }
whole_line form.Nowiki o bs h = record { block = refl; group = refl }
whole_line form.Extension o bs h = record { block = refl; group = refl }
whole_line form.Function o bs h = record { block = refl; group = refl }
whole_line form.Comment o bs h = record { block = refl; group = refl }
whole_line form.Include o bs h = record { block = refl; group = refl }
whole_line form.Hidden o bs h = record { block = refl; group = refl }
whole_line form.EmptyCall o bs h = record { block = refl; group = refl }

pub text_line : (xs : List Item) → AreOfPage xs → AllByRecursion IsLinePart (parts Text xs)
text_line [] h = tt
text_line (char o b ∷ xs) h = (tt, text_line xs h.1)
text_line (whole f o bs ∷ xs) h = (whole_line f o bs h.0, text_line xs h.1)

-- ---- segments

abbrev IsLineSegment : Segment → Type 0
IsLineSegment u = AllByRecursion IsLinePart u.parts

stretches_line : (rs : List (List Item)) (xs : List Item) → AreRuns one_stretch rs xs → AreOfPage xs → AllByRecursion IsLineSegment (map loose_segment rs)
stretches_line [] xs a h = tt
stretches_line (r ∷ rs) xs a h =
    let v : AreOfPage (r ++ a.0) = subst AreOfPage a.1 h in
    (text_line r (all_left IsPageItem r a.0 v), stretches_line rs a.0 a.3 (all_right IsPageItem r a.0 v))

loose_line : (xs : List Item) → AreOfPage xs → AllByRecursion IsLineSegment (loose_segments xs)
unfolding loose_segments
loose_line xs h = stretches_line (runs one_stretch xs) xs (runs_are one_stretch xs) h

link_line : (n : ℕ) (xs opening closing trail : List Item) (ps : List Part) → IsInlineKind (head_of (link_by (link_head xs) n opening closing trail ps)).kind
unfolding link_head
link_line n xs opening closing trail ps = by_test (n == 0)
  where
    by_test : (t : Bool) → IsInlineKind (head_of
        (if t then link_by (link_head xs) 0 opening closing trail ps else link_by (link_head xs) 1 opening closing trail ps)).kind
    by_test true = record { block = refl; group = refl }
    by_test false = record { block = refl; group = refl }

pair_named : (m : Name) (opening : List Item) → IsInlineKind (pair_by_name m opening).kind
unfolding placeholder
pair_named (Paired m) opening = record { block = refl; group = refl }
pair_named Break opening = record { block = refl; group = refl }
pair_named Island opening = record { block = refl; group = refl }

pair_line : (o : Option Tag) (opening : List Item) → IsInlineKind (pair_by o opening).kind
unfolding placeholder
pair_line None opening = record { block = refl; group = refl }
pair_line (Some t) opening = pair_named t.name opening

tile_line : (read : Reading) (cx : Context) (w : Shape) (xs : List Item) → AreOfPage xs → (k : TileKind)
    → AllByRecursion IsLineSegment (segments_by (tile_tree read cx k w xs) xs)
unfolding nested_tree category_head switch_head placeholder bare_url bare_url_head ext_link_head pair_head
tile_line read cx w xs h kind.Link = ((link_line w.trail xs (opening_of w xs) (closing_of w xs) (trail_of w xs) (read (in_text cx) (inside_of w xs)), tt), tt)
tile_line read cx w xs h kind.Category = ((record { block = refl; group = refl }, tt), tt)
tile_line read cx w xs h kind.Media = ((record { block = refl; group = refl }, tt), tt)
tile_line read cx w xs h kind.ExtLink = ((record { block = refl; group = refl }, tt), tt)
tile_line read cx w xs h kind.BareUrl = ((record { block = refl; group = refl }, tt), tt)
tile_line read cx w xs h kind.Br = ((record { block = refl; group = refl }, tt), tt)
tile_line read cx w xs h kind.Pair = ((pair_line (tag_at (glyphs (opening_of w xs))) (opening_of w xs), tt), tt)
tile_line read cx w xs h kind.TagIsland = ((record { block = refl; group = refl }, tt), tt)
tile_line read cx w xs h kind.Switch = ((record { block = refl; group = refl }, tt), tt)
tile_line read cx w xs h kind.Atom = loose_line xs h
tile_line read cx w xs h kind.Mark = loose_line xs h
tile_line read cx w xs h kind.Chars = loose_line xs h

tiles_line : (read : Reading) (cx : Context) (ws : List Shape) (xs : List Item) → AreOfPage xs
    → AllByRecursion IsLineSegment (flat_map (tile_segments read cx) (tile_parts ws xs))
tiles_line read cx [] xs h = tt
tiles_line read cx (w ∷ ws) xs h =
    let here : List Item = take (size w) xs in
    all_both IsLineSegment (tile_segments read cx (w, here)) (flat_map (tile_segments read cx) (tile_parts ws (drop (size w) xs)))
    (tile_line read cx w here (all_taken IsPageItem (size w) xs h) w.kind)
    (tiles_line read cx ws (drop (size w) xs) (all_dropped IsPageItem (size w) xs h))

segments_line : (read : Reading) (cx : Context) (xs : List Item) → AreOfPage xs → AllByRecursion IsLineSegment (segments read cx xs)
unfolding segments
segments_line read cx xs h =
    subst (λ (ps : List (Shape × List Item)). AllByRecursion IsLineSegment (flat_map (tile_segments read cx) ps)) (sym (tiles_are cx xs))
    (tiles_line read cx (shapes cx (map glyph_of xs)) xs h)

-- ---- styles

parts_line : (us : List Segment) → AllByRecursion IsLineSegment us → AllByRecursion IsLinePart (segment_parts us)
parts_line [] h = tt
parts_line (u ∷ us) h = all_both IsLinePart u.parts (segment_parts us) h.0 (parts_line us h.1)

between_line : (from to : ℕ) (us : List Segment) → AllByRecursion IsLineSegment us → AllByRecursion IsLinePart (segment_parts (between from to us))
between_line from to us h =
    parts_line (between from to us) (all_taken IsLineSegment (to - from) (drop from us) (all_dropped IsLineSegment from us h))

style_line : (b : Bool) → IsInlineKind (style_kind b)
style_line true = record { block = refl; group = refl }
style_line false = record { block = refl; group = refl }

styled_line : (low high : ℕ) (f : Forest) (us : List Segment) → AllByRecursion IsLineSegment us → AllByRecursion IsLinePart (styled low high f us)
styled_line low high bare us h = between_line low high us h
styled_line low high (grown s inside after) us h =
    all_both IsLinePart (segment_parts (between low s.from us))
    (node (style_node s (styled (s.from + s.open_w) (s.to - s.close_w) inside us) us) ∷ styled s.to high after us)
    (between_line low s.from us h) (style_line s.bold, styled_line s.to high after us h)

styles_line : (us : List Segment) → AllByRecursion IsLineSegment us → AllByRecursion IsLinePart (with_styles us)
unfolding with_styles
styles_line us h = styled_line 0 (length us) (forest_of (style_tree_of (chunks us))) us h

-- ---- lines

context_line : (n : ℕ) (cx : Context) (xs : List Item) → AreOfPage xs → AllByRecursion IsLinePart (within n cx xs)
context_line zero cx xs h = text_line xs h
context_line (suc n) cx xs h = styles_line (segments (within n) cx xs) (segments_line (within n) cx xs h)

pub line_is : (xs : List Item) → AreOfPage xs → AllByRecursion IsLinePart (line_parts xs)
unfolding context_parts
line_is xs h = context_line 18 in_line xs h
