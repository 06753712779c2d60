-- What stands on a line is characters of texts, and nodes that are neither blocks nor separators.
use Rattle.std.proofs.Common.{◌≡◌, ℕ, zero, suc, ◌+◌, ◌-◌, Bool, true, false, Option, Some, None, List, [], ◌∷◌, length, drop, refl}
use Rattle.std.specs.Prelude.{◌==◌, if◌then◌else◌}
use Rattle.std.specs.List.{AllByRecursion}
use Rattle.wt_span.specs.declared.form.ItemForm.{ItemForm}
use Rattle.wt_span.specs.declared.form.ItemForm.TheVariants as form
use Rattle.wt_span.specs.Items.{Item, char, whole}
use Rattle.wt_span.specs.Runs.{runs}
use Rattle.wt_tiles.specs.declared.context.Context.{Context}
use Rattle.wt_tiles.specs.declared.shape.Shape.{Shape}
use Rattle.wt_tiles.specs.declared.shape.TileKind.{TileKind}
use Rattle.wt_tiles.specs.declared.shape.TileKind.TheVariants as kind
use Rattle.wt_tiles.specs.declared.tag.Name.{Name}
use Rattle.wt_tiles.specs.declared.tag.Name.TheVariants.{Paired, Break, Island}
use Rattle.wt_tiles.specs.declared.tag.Tag.{Tag}
use Rattle.wt_tiles.specs.Contexts.{in_line, in_text}
use Rattle.wt_tiles.specs.Tags.{tag_at}
use Rattle.wt_tiles.specs.Tiles.{tiles}
use Rattle.wt_quotes.specs.Styles.{style_tree_of}
use Rattle.wt_quotes.specs.Forest.{Forest, bare, grown, forest_of}
use Rattle.wt_inline.specs.declared.loose.Loose.TheVariants.{Text}
use Rattle.wt_inline.specs.Parts.{Part, loose, node, part, parts, whole_tree, nowiki}
use Rattle.wt_context.specs.Heads.{glyphs, placeholder, link_head, category_head, ext_link_head, bare_url_head, pair_by_name, pair_by, pair_head, switch_head}
use Rattle.wt_context.specs.Segments.{Segment, one_stretch, loose_segment, loose_segments, segment_parts}
use Rattle.wt_context.specs.Chunks.{chunks}
use Rattle.wt_context.specs.Styled.{style_kind, between, style_node, styled, with_styles}
use Rattle.wt_context.specs.Nodes.{Reading, opening_of, inside_of, closing_of, trail_of, link_by, bare_url, nested_tree, tile_tree, segments_by, tile_segments, segments}
use Rattle.wt_context.specs.Line.{within, context_parts, line_parts}
use Rattle.wt_page_laws.specs.Roles.{other, role, role_of}
use Rattle.wt_page_laws.proofs.Alls.{all_both, all_taken, all_dropped, all_mapped, all_flat}

abbrev pub IsWord : Part → Type 0
IsWord (loose k o b) = k ≡ Text
IsWord (node t) = role_of t ≡ other

abbrev pub AreWords : List Part → Type 0
AreWords ps = AllByRecursion IsWord ps

-- ---- items by themselves

pub whole_role : (f : ItemForm) (o : Option ℕ) (bs : List ℕ) → role_of (whole_tree f o bs) ≡ other
unfolding nowiki
whole_role form.Chars o bs = refl
whole_role (form.Entity c) o bs = refl
whole_role form.Nowiki o bs = refl
whole_role form.Extension o bs = refl
whole_role form.Function o bs = refl
whole_role form.Comment o bs = refl
whole_role form.Include o bs = refl
whole_role form.Hidden o bs = refl
whole_role form.EmptyCall o bs = refl

item_word : (x : Item) → IsWord (part Text x)
item_word (char o b) = refl
item_word (whole f o bs) = whole_role f o bs

pub text_words : (xs : List Item) → AreWords (parts Text xs)
text_words xs = all_mapped IsWord (part Text) item_word xs

-- ---- segments

abbrev HasWords : Segment → Type 0
HasWords u = AreWords u.parts

loose_words : (xs : List Item) → AllByRecursion HasWords (loose_segments xs)
unfolding loose_segments
loose_words xs = all_mapped HasWords loose_segment (λ r. text_words r) (runs one_stretch xs)

link_role : (n : ℕ) (xs opening closing trail : List Item) (ps : List Part) → role_of (link_by (link_head xs) n opening closing trail ps) ≡ other
unfolding link_head
link_role n xs opening closing trail ps = by_test (n == 0)
  where
    by_test : (t : Bool) → role_of
        (if t then link_by (link_head xs) 0 opening closing trail ps else link_by (link_head xs) 1 opening closing trail ps) ≡ other
    by_test true = refl
    by_test false = refl

name_role : (m : Name) (opening : List Item) → role (pair_by_name m opening).kind ≡ other
unfolding placeholder
name_role (Paired m) opening = refl
name_role Break opening = refl
name_role Island opening = refl

pair_role : (o : Option Tag) (opening : List Item) → role (pair_by o opening).kind ≡ other
unfolding placeholder
pair_role None opening = refl
pair_role (Some t) opening = name_role t.name opening

tile_words : (read : Reading) (cx : Context) (w : Shape) (xs : List Item) (k : TileKind) → AllByRecursion HasWords (segments_by (tile_tree read cx k w xs) xs)
unfolding nested_tree category_head switch_head placeholder bare_url bare_url_head ext_link_head pair_head
tile_words read cx w xs kind.Link = ((link_role w.trail xs (opening_of w xs) (closing_of w xs) (trail_of w xs) (read (in_text cx) (inside_of w xs)), tt), tt)
tile_words read cx w xs kind.Category = ((refl, tt), tt)
tile_words read cx w xs kind.Media = ((refl, tt), tt)
tile_words read cx w xs kind.ExtLink = ((refl, tt), tt)
tile_words read cx w xs kind.BareUrl = ((refl, tt), tt)
tile_words read cx w xs kind.Br = ((refl, tt), tt)
tile_words read cx w xs kind.Pair = ((pair_role (tag_at (glyphs (opening_of w xs))) (opening_of w xs), tt), tt)
tile_words read cx w xs kind.TagIsland = ((refl, tt), tt)
tile_words read cx w xs kind.Switch = ((refl, tt), tt)
tile_words read cx w xs kind.Atom = loose_words xs
tile_words read cx w xs kind.Mark = loose_words xs
tile_words read cx w xs kind.Chars = loose_words xs

one_tile : (read : Reading) (cx : Context) (p : Shape × List Item) → AllByRecursion HasWords (tile_segments read cx p)
one_tile read cx (w, xs) = tile_words read cx w xs w.kind

segments_words : (read : Reading) (cx : Context) (xs : List Item) → AllByRecursion HasWords (segments read cx xs)
unfolding segments
segments_words read cx xs = all_flat HasWords (tile_segments read cx) (one_tile read cx) (tiles cx xs)

-- ---- styles

parts_words : (us : List Segment) → AllByRecursion HasWords us → AreWords (segment_parts us)
parts_words [] h = tt
parts_words (u ∷ us) h = all_both IsWord u.parts (segment_parts us) h.0 (parts_words us h.1)

between_words : (from to : ℕ) (us : List Segment) → AllByRecursion HasWords us → AreWords (segment_parts (between from to us))
between_words from to us h =
    parts_words (between from to us) (all_taken HasWords (to - from) (drop from us) (all_dropped HasWords from us h))

style_role : (b : Bool) → role (style_kind b) ≡ other
style_role true = refl
style_role false = refl

styled_words : (low high : ℕ) (f : Forest) (us : List Segment) → AllByRecursion HasWords us → AreWords (styled low high f us)
styled_words low high bare us h = between_words low high us h
styled_words low high (grown s inside after) us h =
    all_both IsWord (segment_parts (between low s.from us))
    (node (style_node s (styled (s.from + s.open_w) (s.to - s.close_w) inside us) us) ∷ styled s.to high after us)
    (between_words low s.from us h) (style_role s.bold, styled_words s.to high after us h)

styles_words : (us : List Segment) → AllByRecursion HasWords us → AreWords (with_styles us)
unfolding with_styles
styles_words us h = styled_words 0 (length us) (forest_of (style_tree_of (chunks us))) us h

-- ---- lines

context_words : (n : ℕ) (cx : Context) (xs : List Item) → AreWords (within n cx xs)
context_words zero cx xs = text_words xs
context_words (suc n) cx xs = styles_words (segments (within n) cx xs) (segments_words (within n) cx xs)

pub line_words : (xs : List Item) → AreWords (line_parts xs)
unfolding context_parts
line_words xs = context_words 18 in_line xs
