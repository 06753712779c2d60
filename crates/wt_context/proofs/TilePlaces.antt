-- No link stands in the text of a link, no pair where sixteen are open, and nothing joins a tile but a link.
use Rattle.std.proofs.Common.{◌≡◌, ℕ, ◌+◌, ◌-◌, ◌<◌, Bool, true, false, Option, Some, None, List, [], ◌∷◌, length, take, drop, map, refl, sym, subst, arith, length-drop}
use Rattle.std.specs.Prelude.{◌&&◌, ◌==◌, if◌then◌else◌, option_map, nat_lt, codes}
use Rattle.std.specs.Option.{option_or}
use Rattle.std.specs.List.{AllByRecursion}
use Rattle.std.proofs.lemmas.Bool.Decides.{nat_tests}
use Rattle.std.proofs.lemmas.List.{length-map, length-take-le}
use Rattle.wt_span.specs.Items.{Item}
use Rattle.wt_tiles.specs.declared.context.Context.{Context}
use Rattle.wt_tiles.specs.declared.glyph.GlyphClass.TheVariants as class
use Rattle.wt_tiles.specs.declared.glyph.Glyph.{Glyph}
use Rattle.wt_tiles.specs.declared.glyph.Glyph.TheVariants as glyph
use Rattle.wt_tiles.specs.declared.shape.Shape.{Shape}
use Rattle.wt_tiles.specs.declared.shape.TileKind.{TileKind}
use Rattle.wt_tiles.specs.declared.shape.TileKind.TheVariants as kind
use Rattle.wt_tiles.specs.declared.tag.Name.{Name}
use Rattle.wt_tiles.specs.declared.tag.Name.TheVariants.{Paired, Break, Island}
use Rattle.wt_tiles.specs.declared.tag.TagShape.{TagShape}
use Rattle.wt_tiles.specs.declared.tag.TagShape.TheVariants.{Opening, Alone, Closing}
use Rattle.wt_tiles.specs.declared.tag.Tag.{Tag}
use Rattle.wt_tiles.specs.declared.target.LinkKind.{LinkKind}
use Rattle.wt_tiles.specs.declared.target.LinkKind.TheVariants.{Page, Category, Media}
use Rattle.wt_tiles.specs.declared.target.Target.{Target}
use Rattle.wt_tiles.specs.Glyphs.{glyph_of, first_is, begins, run_len}
use Rattle.wt_tiles.specs.Tags.{tag_at}
use Rattle.wt_tiles.specs.Partners.{number, partner}
use Rattle.wt_tiles.specs.Links.{leaf, target_of, kind_of, target_len, inner_len, has_pipe, head_len, link_shape, link_with, link_to, link_by, link_in, link_at}
use Rattle.wt_tiles.specs.Urls.{scheme_len, url_items, kept_len, text_len, ext_shape, ext_link_of, ext_link_at, bare_shape, bare_url_of, bare_url_at}
use Rattle.wt_tiles.specs.Tiles.{pair_or_island, shape_of_tag, tag_tile, switch_names, switch_len, switch_at, outside, link_or_url, form_at, tile_with, size, shapes, parts, tiles}
use Rattle.wt_tiles.specs.Reading.{tile_at, StandsBy, AreTiles, is_word_at}
use Rattle.wt_tiles.proofs.Readings.{shapes_are}

-- a tile of this kind with so many items behind it stands in the context
abbrev pub MayStand : Context → TileKind → ℕ → Type 0
MayStand cx kind.Link n = cx.in_link ≡ false
MayStand cx kind.ExtLink n = (cx.in_link ≡ false) × (n ≡ 0)
MayStand cx kind.Pair n = (cx.pairs < 16) × (n ≡ 0)
MayStand cx k n = n ≡ 0

abbrev OptStands : Context → Option Shape → Type 0
OptStands cx None = Unit {0}
OptStands cx (Some w) = MayStand cx w.kind w.trail

or_stands : (cx : Context) (a b : Option Shape) → OptStands cx a → OptStands cx b → OptStands cx (option_or a b)
or_stands cx None b f g = g
or_stands cx (Some w) b f g = f

if_stands : (cx : Context) (t : Bool) (o : Option Shape) → OptStands cx o → OptStands cx (if t then o else None)
if_stands cx true o f = f
if_stands cx false o f = tt

unless_stands : (cx : Context) (t : Bool) (o : Option Shape) → OptStands cx o → OptStands cx (if t then None else o)
unless_stands cx true o f = tt
unless_stands cx false o f = f

mapped_stands : (cx : Context) (f : ℕ → Shape) (o : Option ℕ) → ((n : ℕ) → OptStands cx (Some (f n))) → OptStands cx (option_map f o)
mapped_stands cx f None h = tt
mapped_stands cx f (Some n) h = h n

-- ---- links and URLs

shape_stands : (cx : Context) (k : LinkKind) (head n : ℕ) (gs : List Glyph) → cx.in_link ≡ false → OptStands cx (Some (link_shape k head n gs))
shape_stands cx Page head n gs e = e
shape_stands cx Category head n gs e = refl
shape_stands cx Media head n gs e = refl

with_stands : (cx : Context) (t : Target) (n : ℕ) (o : Option ℕ) (gs : List Glyph) → cx.in_link ≡ false → OptStands cx (link_with t n o gs)
with_stands cx t n None gs e = tt
with_stands cx t n (Some k) gs e =
    unless_stands cx (has_pipe n gs && k == n + 1) (Some (link_shape (kind_of t) (head_len t.colon n gs) k gs))
    (shape_stands cx (kind_of t) (head_len t.colon n gs) k gs e)

to_stands : (cx : Context) (o : Option Target) (n : ℕ) (gs : List Glyph) → cx.in_link ≡ false → OptStands cx (link_to o n gs)
to_stands cx None n gs e = tt
to_stands cx (Some t) n gs e = with_stands cx t n (inner_len (kind_of t) n gs) gs e

by_stands : (cx : Context) (o : Option ℕ) (gs : List Glyph) → cx.in_link ≡ false → OptStands cx (link_by o gs)
by_stands cx None gs e = tt
by_stands cx (Some n) gs e = to_stands cx (target_of (take n gs)) n gs e

link_stands : (cx : Context) (gs : List Glyph) → cx.in_link ≡ false → OptStands cx (link_at gs)
unfolding link_at link_in
link_stands cx gs e = if_stands cx (begins (codes "[[") gs) (link_by (target_len (drop 2 gs)) (drop 2 gs)) (by_stands cx (target_len (drop 2 gs)) (drop 2 gs) e)

ext_of_stands : (cx : Context) (s m : ℕ) (gs : List Glyph) → cx.in_link ≡ false → OptStands cx (ext_link_of s m gs)
ext_of_stands cx s m gs e =
    let n = 1 + s + m in
    let k = n + run_len class.Blank (drop n gs) in
    if_stands cx (nat_lt 0 s && nat_lt 0 m) (option_map (ext_shape k) (text_len (drop k gs)))
    (mapped_stands cx (ext_shape k) (text_len (drop k gs)) (λ i. (e, refl)))

ext_stands : (cx : Context) (gs : List Glyph) → cx.in_link ≡ false → OptStands cx (ext_link_at gs)
unfolding ext_link_at
ext_stands cx gs e =
    let s = scheme_len (drop 1 gs) in
    let m = length (url_items (drop 1 gs)) in
    if_stands cx (first_is (class.Only 91) gs) (ext_link_of s m gs) (ext_of_stands cx s m gs e)

bare_stands : (cx : Context) (after : Bool) (gs : List Glyph) → OptStands cx (bare_url_at after gs)
unfolding bare_url_at
bare_stands cx after gs =
    let s = scheme_len gs in
    let m = kept_len (url_items gs) in
    unless_stands cx after (bare_url_of s m) (if_stands cx (nat_lt 0 s && nat_lt 0 m) (Some (bare_shape (s + m))) refl)

links_stand : (cx : Context) (after : Bool) (gs : List Glyph) → cx.in_link ≡ false → OptStands cx (link_or_url after gs)
unfolding link_or_url
links_stand cx after gs e =
    or_stands cx (link_at gs) (option_or (ext_link_at gs) (bare_url_at after gs)) (link_stands cx gs e)
    (or_stands cx (ext_link_at gs) (bare_url_at after gs) (ext_stands cx gs e) (bare_stands cx after gs))

outside_stands : (cx : Context) (t : Bool) (o : Option Shape) → cx.in_link ≡ t → (cx.in_link ≡ false → OptStands cx o) → OptStands cx (outside t o)
outside_stands cx true o e f = tt
outside_stands cx false o e f = f e

-- ---- tags and switches

pair_stands : (cx : Context) (t : Bool) (n : ℕ) (o : Option (List Glyph)) (gs : List Glyph) → nat_lt cx.pairs 16 ≡ t
    → OptStands cx (Some (pair_or_island n (if t then o else None) gs))
pair_stands cx true n None gs e = refl
pair_stands cx true n (Some rest) gs e = let l : cx.pairs < 16 = grind (arith, nat_tests) in (l, refl)
pair_stands cx false n o gs e = refl

named_stands : (cx : Context) (m : Name) (s : TagShape) (n : ℕ) (gs : List Glyph) → OptStands cx (Some (shape_of_tag cx.pairs m s n gs))
named_stands cx (Paired m) Opening n gs = pair_stands cx (nat_lt cx.pairs 16) n (partner (number m) 0 (drop n gs)) gs refl
named_stands cx (Paired m) Alone n gs = refl
named_stands cx (Paired m) Closing n gs = refl
named_stands cx Break Opening n gs = refl
named_stands cx Break Alone n gs = refl
named_stands cx Break Closing n gs = refl
named_stands cx Island s n gs = refl

tagged_stands : (cx : Context) (o : Option Tag) (gs : List Glyph) → OptStands cx (option_map (λ t. shape_of_tag cx.pairs t.name t.shape t.len gs) o)
tagged_stands cx None gs = tt
tagged_stands cx (Some t) gs = named_stands cx t.name t.shape t.len gs

tag_stands : (cx : Context) (gs : List Glyph) → OptStands cx (tag_tile cx.pairs gs)
unfolding tag_tile
tag_stands cx gs = tagged_stands cx (tag_at gs) gs

switch_stands : (cx : Context) (gs : List Glyph) → OptStands cx (switch_at gs)
unfolding switch_at
switch_stands cx gs =
    let o = switch_len switch_names (drop 2 gs) in
    if_stands cx (begins (codes "__") gs) (option_map (λ n. leaf kind.Switch (2 + n)) o) (mapped_stands cx (λ n. leaf kind.Switch (2 + n)) o (λ n. refl))

-- ---- any form

form_stands : (cx : Context) (after : Bool) (gs : List Glyph) → OptStands cx (form_at cx after gs)
unfolding form_at
form_stands cx after gs =
    or_stands cx (outside cx.in_link (link_or_url after gs)) (option_or (tag_tile cx.pairs gs) (switch_at gs))
    (outside_stands cx cx.in_link (link_or_url after gs) refl (links_stand cx after gs))
    (or_stands cx (tag_tile cx.pairs gs) (switch_at gs) (tag_stands cx gs) (switch_stands cx gs))

one_stands : (cx : Context) (after : Bool) (g : Glyph) (gs : List Glyph) → OptStands cx (tile_with cx after g (g ∷ gs))
one_stands cx after (glyph.Byte b) gs = form_stands cx after (glyph.Byte b ∷ gs)
one_stands cx after (glyph.Entity c) gs = refl
one_stands cx after glyph.Atom gs = refl
one_stands cx after glyph.Mark gs = refl

at_stands : (cx : Context) (after : Bool) (gs : List Glyph) → OptStands cx (tile_at cx after gs)
at_stands cx after [] = tt
at_stands cx after (g ∷ gs) = one_stands cx after g gs

form_by : (cx : Context) (after : Bool) (gs : List Glyph) (w : Shape) → tile_at cx after gs ≡ Some w → MayStand cx w.kind w.trail
form_by cx after gs w e = let P : Option Shape → Type 0 = λ o. OptStands cx o in subst P e (at_stands cx after gs)

tile_stands : (k : TileKind) (cx : Context) (after : Bool) (w : Shape) (gs : List Glyph) → StandsBy k cx after w gs → MayStand cx w.kind w.trail
tile_stands kind.Chars cx after w gs h = let P : Shape → Type 0 = λ v. MayStand cx v.kind v.trail in subst P (sym h.0) refl
tile_stands k cx after w gs h = form_by cx after gs w h

-- ---- the tiles of a context

-- a tile has as many items as it takes, and may stand there
abbrev pub IsPlaced : Context → Shape × List Item → Type 0
IsPlaced cx p = (length p.1 ≡ size p.0) × MayStand cx p.0.kind p.0.trail

placed_by : (cx : Context) (after : Bool) (ws : List Shape) (xs : List Item) (gs : List Glyph) → length gs ≡ length xs → AreTiles cx after ws gs
    → AllByRecursion (IsPlaced cx) (parts ws xs)
placed_by cx after [] xs gs e h = tt
placed_by cx after (w ∷ ws) xs gs e (pos, le, stands, apart, rest) = (
  (length-take-le (size w) xs (omega (arith, e)), tile_stands w.kind cx after w gs stands),
  placed_by cx (is_word_at gs (size w - 1)) ws (drop (size w) xs) (drop (size w) gs)
      (omega (arith, e, length-drop (size w) gs, length-drop (size w) xs)) rest,
)

pub tiles_placed : (cx : Context) (xs : List Item) → AllByRecursion (IsPlaced cx) (tiles cx xs)
unfolding tiles
tiles_placed cx xs = placed_by cx false (shapes cx (map glyph_of xs)) xs (map glyph_of xs) (length-map xs glyph_of) (shapes_are cx (map glyph_of xs))
