-- A tile in which a context stands has an open delimiter, so that its inside is shorter.
use Rattle.std.proofs.Common.{◌≡◌, ℕ, ◌+◌, ◌-◌, ◌<◌, ◌≤◌, Bool, true, false, Option, Some, None, List, [], ◌∷◌, length, take, drop, map, codes, refl, sym, ap, ◌∙◌, subst, arith}
use Rattle.std.specs.Prelude.{◌&&◌, ◌==◌, if◌then◌else◌, option_map, nat_lt}
use Rattle.std.specs.List.{AllByRecursion}
use Rattle.std.specs.Option.{option_or}
use Rattle.std.proofs.lemmas.List.{length-map, length-take-le, drop-map}
use Rattle.wt_span.specs.Items.{Item}
use Rattle.wt_tiles.specs.declared.context.Context.{Context}
use Rattle.wt_tiles.specs.declared.glyph.Glyph.{Glyph}
use Rattle.wt_tiles.specs.declared.glyph.Glyph.TheVariants as glyph
use Rattle.wt_tiles.specs.declared.glyph.GlyphClass.TheVariants as class
use Rattle.wt_tiles.specs.declared.shape.Shape.{Shape}
use Rattle.wt_tiles.specs.declared.shape.TileKind.{TileKind}
use Rattle.wt_tiles.specs.declared.shape.TileKind.TheVariants as kind
use Rattle.wt_tiles.specs.declared.tag.Name.{Name}
use Rattle.wt_tiles.specs.declared.tag.Name.TheVariants.{Paired, Break, Island}
use Rattle.wt_tiles.specs.declared.tag.TagShape.{TagShape}
use Rattle.wt_tiles.specs.declared.tag.TagShape.TheVariants.{Opening, Alone, Closing}
use Rattle.wt_tiles.specs.declared.tag.Tag.{Tag}
use Rattle.wt_tiles.specs.declared.target.LinkKind.{LinkKind}
use Rattle.wt_tiles.specs.declared.target.LinkKind.TheVariants.{Page, Category, Media}
use Rattle.wt_tiles.specs.declared.target.Target.{Target}
use Rattle.wt_tiles.specs.Glyphs.{glyph_of, begins, first_is, run_len}
use Rattle.wt_tiles.specs.Tags.{tag_at}
use Rattle.wt_tiles.specs.Links.{leaf, target_of, kind_of, target_len, inner_len, has_pipe, head_len, link_shape, link_with, link_to, link_by, link_in, link_at}
use Rattle.wt_tiles.specs.Urls.{scheme_len, kept_len, url_items, text_len, ext_shape, ext_link_after, ext_link_of, ext_link_at, bare_url_at}
use Rattle.wt_tiles.specs.Tiles.{pair_or_island, closing_for, shape_of_tag, tag_tile, switch_names, switch_len, switch_at, outside, link_or_url, form_at, tile_with, size, parts, shapes, tiles}
use Rattle.wt_tiles.specs.Reading.{tile_at, StandsBy, is_word_at, AreTiles}
use Rattle.wt_tiles.proofs.TagFits.{OptTag, tag_fits}
use Rattle.wt_tiles.proofs.Readings.{shapes_are}
use Rattle.wt_tiles.proofs.Joining.{tiles_are}

abbrev pub Opens : TileKind → ℕ → Type 0
Opens kind.Link n = 0 < n
Opens kind.Category n = Unit {0}
Opens kind.Media n = Unit {0}
Opens kind.ExtLink n = 0 < n
Opens kind.BareUrl n = Unit {0}
Opens kind.Br n = Unit {0}
Opens kind.Pair n = 0 < n
Opens kind.TagIsland n = Unit {0}
Opens kind.Switch n = Unit {0}
Opens kind.Atom n = Unit {0}
Opens kind.Mark n = Unit {0}
Opens kind.Chars n = Unit {0}

abbrev OptOpens : Option Shape → Type 0
OptOpens None = Unit {0}
OptOpens (Some w) = Opens w.kind w.opening

-- ---- choices

or_opens : (a b : Option Shape) → OptOpens a → OptOpens b → OptOpens (option_or a b)
or_opens None b f g = g
or_opens (Some w) b f g = f

if_opens : (t : Bool) (o : Option Shape) → OptOpens o → OptOpens (if t then o else None)
if_opens true o f = f
if_opens false o f = tt

-- ---- links

shape_opens : (k : LinkKind) (head n : ℕ) (gs : List Glyph) → Opens (link_shape k head n gs).kind (link_shape k head n gs).opening
shape_opens Page head n gs = omega arith
shape_opens Category head n gs = tt
shape_opens Media head n gs = tt

some_link : (t : Bool) (w : Shape) → Opens w.kind w.opening → OptOpens (if t then None else Some w)
some_link true w f = tt
some_link false w f = f

with_opens : (t : Target) (n : ℕ) (o : Option ℕ) (gs : List Glyph) → OptOpens (link_with t n o gs)
with_opens t n None gs = tt
with_opens t n (Some k) gs = some_link (has_pipe n gs && k == n + 1) _ (shape_opens (kind_of t) (head_len t.colon n gs) k gs)

to_opens : (t : Option Target) (n : ℕ) (gs : List Glyph) → OptOpens (link_to t n gs)
to_opens None n gs = tt
to_opens (Some t) n gs = with_opens t n (inner_len (kind_of t) n gs) gs

by_opens : (o : Option ℕ) (gs : List Glyph) → OptOpens (link_by o gs)
by_opens None gs = tt
by_opens (Some n) gs = to_opens (target_of (take n gs)) n gs

link_opens : (gs : List Glyph) → OptOpens (link_at gs)
unfolding link_at link_in
link_opens gs = if_opens (begins (codes "[[") gs) _ (by_opens (target_len (drop 2 gs)) (drop 2 gs))

-- ---- external links and URLs

ext_by : (m : ℕ) (o : Option ℕ) → 0 < m → OptOpens (option_map (ext_shape m) o)
ext_by m None h = tt
ext_by m (Some k) h = h

ext_of : (scheme m : ℕ) (gs : List Glyph) → OptOpens (ext_link_of scheme m gs)
ext_of scheme m gs =
    let n = 1 + scheme + m in
    if_opens (nat_lt 0 scheme && nat_lt 0 m) (ext_link_after n gs)
    (ext_by (n + run_len class.Blank (drop n gs)) (text_len (drop (n + run_len class.Blank (drop n gs)) gs)) (omega arith))

ext_opens : (gs : List Glyph) → OptOpens (ext_link_at gs)
unfolding ext_link_at
ext_opens gs = if_opens (first_is (class.Only 91) gs) _ (ext_of (scheme_len (drop 1 gs)) (length (url_items (drop 1 gs))) gs)

not_if : (t : Bool) (o : Option Shape) → OptOpens o → OptOpens (if t then None else o)
not_if true o f = tt
not_if false o f = f

bare_opens : (after : Bool) (gs : List Glyph) → OptOpens (bare_url_at after gs)
unfolding bare_url_at
bare_opens after gs = not_if after _ (if_opens (nat_lt 0 (scheme_len gs) && nat_lt 0 (kept_len (url_items gs))) _ tt)

-- ---- tags

pair_opens : (n : ℕ) (o : Option (List Glyph)) (gs : List Glyph) → 0 < n → Opens (pair_or_island n o gs).kind (pair_or_island n o gs).opening
pair_opens n None gs h = tt
pair_opens n (Some rest) gs h = h

tag_opens : (pairs : ℕ) (m : Name) (s : TagShape) (n : ℕ) (gs : List Glyph) → 0 < n
    → Opens (shape_of_tag pairs m s n gs).kind (shape_of_tag pairs m s n gs).opening
tag_opens pairs (Paired m) Opening n gs h = pair_opens n (closing_for pairs m n gs) gs h
tag_opens pairs (Paired m) Alone n gs h = tt
tag_opens pairs (Paired m) Closing n gs h = tt
tag_opens pairs Break Opening n gs h = tt
tag_opens pairs Break Alone n gs h = tt
tag_opens pairs Break Closing n gs h = tt
tag_opens pairs Island s n gs h = tt

tagged_opens : (pairs : ℕ) (gs : List Glyph) (o : Option Tag) → OptTag gs o → OptOpens (option_map (λ t. shape_of_tag pairs t.name t.shape t.len gs) o)
tagged_opens pairs gs None f = tt
tagged_opens pairs gs (Some t) f = tag_opens pairs t.name t.shape t.len gs (omega (arith, f.some))

tile_of_tag_opens : (pairs : ℕ) (gs : List Glyph) → OptOpens (tag_tile pairs gs)
unfolding tag_tile
tile_of_tag_opens pairs gs = tagged_opens pairs gs (tag_at gs) (tag_fits gs)

-- ---- switches

leaf_by : (o : Option ℕ) → OptOpens (option_map (λ n. leaf kind.Switch (2 + n)) o)
leaf_by None = tt
leaf_by (Some n) = tt

switch_opens : (gs : List Glyph) → OptOpens (switch_at gs)
unfolding switch_at
switch_opens gs = if_opens (begins (codes "__") gs) _ (leaf_by (switch_len switch_names (drop 2 gs)))

-- ---- any form

form_opens : (cx : Context) (after : Bool) (gs : List Glyph) → OptOpens (form_at cx after gs)
unfolding form_at link_or_url
form_opens cx after gs =
    or_opens (outside cx.in_link (link_or_url after gs)) _
    (not_if cx.in_link _ (or_opens (link_at gs) _ (link_opens gs) (or_opens (ext_link_at gs) (bare_url_at after gs) (ext_opens gs) (bare_opens after gs))))
    (or_opens (tag_tile cx.pairs gs) (switch_at gs) (tile_of_tag_opens cx.pairs gs) (switch_opens gs))

one_opens : (cx : Context) (after : Bool) (g : Glyph) (gs : List Glyph) → OptOpens (tile_with cx after g (g ∷ gs))
one_opens cx after (glyph.Byte b) gs = form_opens cx after (glyph.Byte b ∷ gs)
one_opens cx after (glyph.Entity c) gs = tt
one_opens cx after glyph.Atom gs = tt
one_opens cx after glyph.Mark gs = tt

all_open : (cx : Context) (after : Bool) (gs : List Glyph) → OptOpens (tile_at cx after gs)
all_open cx after [] = tt
all_open cx after (g ∷ gs) = one_opens cx after g gs

-- ---- the tiles of a context

opens_by : (cx : Context) (after : Bool) (gs : List Glyph) (w : Shape) → tile_at cx after gs ≡ Some w → Opens w.kind w.opening
opens_by cx after gs w e = let P : Option Shape → Type 0 = λ o. OptOpens o in subst P e (all_open cx after gs)

opened_kind : (k j : TileKind) (n : ℕ) → j ≡ k → Opens j n → Opens k n
opened_kind k j n e h = subst (λ (i : TileKind). Opens i n) e h

shape_stands : (k : TileKind) (cx : Context) (after : Bool) (w : Shape) (gs : List Glyph) → w.kind ≡ k → StandsBy k cx after w gs
    → Opens k w.opening
shape_stands kind.Link cx after w gs e h = opened_kind kind.Link w.kind w.opening e (opens_by cx after gs w h)
shape_stands kind.ExtLink cx after w gs e h = opened_kind kind.ExtLink w.kind w.opening e (opens_by cx after gs w h)
shape_stands kind.Pair cx after w gs e h = opened_kind kind.Pair w.kind w.opening e (opens_by cx after gs w h)
shape_stands kind.Category cx after w gs e h = tt
shape_stands kind.Media cx after w gs e h = tt
shape_stands kind.BareUrl cx after w gs e h = tt
shape_stands kind.Br cx after w gs e h = tt
shape_stands kind.TagIsland cx after w gs e h = tt
shape_stands kind.Switch cx after w gs e h = tt
shape_stands kind.Atom cx after w gs e h = tt
shape_stands kind.Mark cx after w gs e h = tt
shape_stands kind.Chars cx after w gs e h = tt

-- a tile has as many items as its shape tells, and an open delimiter where a context stands in it
abbrev pub IsOpened : Shape × List Item → Type 0
IsOpened (w, xs) = (length xs ≡ size w) × (0 < size w) × Opens w.kind w.opening

parts_opened : (cx : Context) (after : Bool) (ws : List Shape) (xs : List Item) (gs : List Glyph) → gs ≡ map glyph_of xs
    → AreTiles cx after ws gs → AllByRecursion IsOpened (parts ws xs)
parts_opened cx after [] xs gs e h = tt
parts_opened cx after (w ∷ ws) xs gs e (pos, le, stands, apart, rest) =
    let m : size w ≤ length xs = omega (arith, le, ap length e, length-map xs glyph_of) in (
      (length-take-le (size w) xs m, pos, shape_stands w.kind cx after w gs refl stands),
      parts_opened cx (is_word_at gs (size w - 1)) ws (drop (size w) xs) (drop (size w) gs)
          (ap (drop (size w)) e ∙ drop-map glyph_of (size w) xs) rest,
    )

pub tiles_opened : (cx : Context) (xs : List Item) → AllByRecursion IsOpened (tiles cx xs)
tiles_opened cx xs =
    subst (AllByRecursion IsOpened) (sym (tiles_are cx xs))
    (parts_opened cx false (shapes cx (map glyph_of xs)) xs (map glyph_of xs) refl (shapes_are cx (map glyph_of xs)))
