-- With what external links and bare URLs open.
use Rattle.std.proofs.Common.{arith, ◌≡◌, ℕ, ◌+◌, ◌≤◌, Bool, true, false, Option, Some, None, List, length, take, drop, ap, subst}
use Rattle.std.specs.Prelude.{◌&&◌, ◌==◌, if◌then◌else◌, option_map, nat_lt, codes}
use Rattle.std.specs.Option.{option_or}
use Rattle.wt_tiles.specs.declared.context.Context.{Context}
use Rattle.wt_tiles.specs.declared.glyph.GlyphClass.TheVariants as class
use Rattle.wt_tiles.specs.declared.glyph.Glyph.{Glyph}
use Rattle.wt_tiles.specs.declared.shape.Shape.{Shape}
use Rattle.wt_tiles.specs.declared.shape.TileKind.{TileKind}
use Rattle.wt_tiles.specs.declared.shape.TileKind.TheVariants as kind
use Rattle.wt_tiles.specs.declared.tag.Name.{Name}
use Rattle.wt_tiles.specs.declared.tag.Name.TheVariants.{Paired, Break, Island}
use Rattle.wt_tiles.specs.declared.tag.TagShape.{TagShape}
use Rattle.wt_tiles.specs.declared.tag.TagShape.TheVariants.{Opening, Alone, Closing}
use Rattle.wt_tiles.specs.declared.tag.Tag.{Tag}
use Rattle.wt_tiles.specs.declared.target.LinkKind.{LinkKind}
use Rattle.wt_tiles.specs.declared.target.LinkKind.TheVariants.{Page, Category, Media}
use Rattle.wt_tiles.specs.declared.target.Target.{Target}
use Rattle.wt_tiles.specs.Glyphs.{first_is, begins, run_len}
use Rattle.wt_tiles.specs.Tags.{tag_at}
use Rattle.wt_tiles.specs.Links.{leaf, target_of, kind_of, target_len, inner_len, has_pipe, head_len, link_shape, link_with, link_to, link_by, link_in, link_at}
use Rattle.wt_tiles.specs.Urls.{scheme_len, url_items, kept_len, text_len, ext_shape, ext_link_of, ext_link_at, bare_shape, bare_url_of, bare_url_at}
use Rattle.wt_tiles.specs.Tiles.{size, pair_or_island, closing_for, shape_of_tag, tag_tile, switch_names, switch_len, switch_at, outside, link_or_url, form_at}

-- an external link has an opening delimiter, and a bare URL is all inside
abbrev pub OpensAs : TileKind → Shape → Type 0
OpensAs kind.Link w = Unit {0}
OpensAs kind.Category w = Unit {0}
OpensAs kind.Media w = Unit {0}
OpensAs kind.ExtLink w = 1 ≤ w.opening
OpensAs kind.BareUrl w = w ≡ bare_shape (size w)
OpensAs kind.Br w = Unit {0}
OpensAs kind.Pair w = Unit {0}
OpensAs kind.TagIsland w = Unit {0}
OpensAs kind.Switch w = Unit {0}
OpensAs kind.Atom w = Unit {0}
OpensAs kind.Mark w = Unit {0}
OpensAs kind.Chars w = Unit {0}

abbrev Opens : Option Shape → Type 0
Opens None = Unit {0}
Opens (Some w) = OpensAs w.kind w

or_opens : (a b : Option Shape) → Opens a → Opens b → Opens (option_or a b)
or_opens None b f g = g
or_opens (Some w) b f g = f

if_opens : (t : Bool) (o : Option Shape) → Opens o → Opens (if t then o else None)
if_opens true o f = f
if_opens false o f = tt

unless_opens : (t : Bool) (o : Option Shape) → Opens o → Opens (if t then None else o)
unless_opens true o f = tt
unless_opens false o f = f

mapped_opens : (f : ℕ → Shape) (o : Option ℕ) → ((n : ℕ) → OpensAs (f n).kind (f n)) → Opens (option_map f o)
mapped_opens f None h = tt
mapped_opens f (Some n) h = h n

-- ---- links and URLs

shape_opens : (k : LinkKind) (head n : ℕ) (gs : List Glyph) → OpensAs (link_shape k head n gs).kind (link_shape k head n gs)
shape_opens Page head n gs = tt
shape_opens Category head n gs = tt
shape_opens Media head n gs = tt

with_opens : (t : Target) (n : ℕ) (o : Option ℕ) (gs : List Glyph) → Opens (link_with t n o gs)
with_opens t n None gs = tt
with_opens t n (Some k) gs =
    unless_opens (has_pipe n gs && k == n + 1) (Some (link_shape (kind_of t) (head_len t.colon n gs) k gs)) (shape_opens (kind_of t) (head_len t.colon n gs) k gs)

to_opens : (o : Option Target) (n : ℕ) (gs : List Glyph) → Opens (link_to o n gs)
to_opens None n gs = tt
to_opens (Some t) n gs = with_opens t n (inner_len (kind_of t) n gs) gs

by_opens : (o : Option ℕ) (gs : List Glyph) → Opens (link_by o gs)
by_opens None gs = tt
by_opens (Some n) gs = to_opens (target_of (take n gs)) n gs

link_opens : (gs : List Glyph) → Opens (link_at gs)
unfolding link_at link_in
link_opens gs = if_opens (begins (codes "[[") gs) (link_by (target_len (drop 2 gs)) (drop 2 gs)) (by_opens (target_len (drop 2 gs)) (drop 2 gs))

ext_of_opens : (s m : ℕ) (gs : List Glyph) → Opens (ext_link_of s m gs)
ext_of_opens s m gs =
    let n : ℕ = 1 + s + m in
    let k : ℕ = n + run_len class.Blank (drop n gs) in
    let some : 1 ≤ k = omega arith in
    if_opens (nat_lt 0 s && nat_lt 0 m) (option_map (ext_shape k) (text_len (drop k gs))) (mapped_opens (ext_shape k) (text_len (drop k gs)) (λ i. some))

ext_opens : (gs : List Glyph) → Opens (ext_link_at gs)
unfolding ext_link_at
ext_opens gs =
    let s : ℕ = scheme_len (drop 1 gs) in
    let m : ℕ = length (url_items (drop 1 gs)) in
    if_opens (first_is (class.Only 91) gs) (ext_link_of s m gs) (ext_of_opens s m gs)

bare_is : (n : ℕ) → bare_shape n ≡ bare_shape (size (bare_shape n))
bare_is n = let z : n ≡ size (bare_shape n) = omega arith in ap bare_shape z

bare_opens : (after : Bool) (gs : List Glyph) → Opens (bare_url_at after gs)
unfolding bare_url_at
bare_opens after gs =
    let s : ℕ = scheme_len gs in
    let m : ℕ = kept_len (url_items gs) in
    unless_opens after (bare_url_of s m) (if_opens (nat_lt 0 s && nat_lt 0 m) (Some (bare_shape (s + m))) (bare_is (s + m)))

links_open : (after : Bool) (gs : List Glyph) → Opens (link_or_url after gs)
unfolding link_or_url
links_open after gs =
    or_opens (link_at gs) (option_or (ext_link_at gs) (bare_url_at after gs)) (link_opens gs)
    (or_opens (ext_link_at gs) (bare_url_at after gs) (ext_opens gs) (bare_opens after gs))

outside_opens : (t : Bool) (o : Option Shape) → Opens o → Opens (outside t o)
outside_opens true o f = tt
outside_opens false o f = f

-- ---- tags and switches

pair_opens : (n : ℕ) (o : Option (List Glyph)) (gs : List Glyph) → OpensAs (pair_or_island n o gs).kind (pair_or_island n o gs)
pair_opens n None gs = tt
pair_opens n (Some rest) gs = tt

named_opens : (pairs : ℕ) (m : Name) (s : TagShape) (n : ℕ) (gs : List Glyph) → OpensAs (shape_of_tag pairs m s n gs).kind (shape_of_tag pairs m s n gs)
named_opens pairs (Paired m) Opening n gs = pair_opens n (closing_for pairs m n gs) gs
named_opens pairs (Paired m) Alone n gs = tt
named_opens pairs (Paired m) Closing n gs = tt
named_opens pairs Break Opening n gs = tt
named_opens pairs Break Alone n gs = tt
named_opens pairs Break Closing n gs = tt
named_opens pairs Island s n gs = tt

tagged_opens : (pairs : ℕ) (o : Option Tag) (gs : List Glyph) → Opens (option_map (λ t. shape_of_tag pairs t.name t.shape t.len gs) o)
tagged_opens pairs None gs = tt
tagged_opens pairs (Some t) gs = named_opens pairs t.name t.shape t.len gs

tag_opens : (pairs : ℕ) (gs : List Glyph) → Opens (tag_tile pairs gs)
unfolding tag_tile
tag_opens pairs gs = tagged_opens pairs (tag_at gs) gs

switch_opens : (gs : List Glyph) → Opens (switch_at gs)
unfolding switch_at
switch_opens gs =
    let o : Option ℕ = switch_len switch_names (drop 2 gs) in
    if_opens (begins (codes "__") gs) (option_map (λ n. leaf kind.Switch (2 + n)) o) (mapped_opens (λ n. leaf kind.Switch (2 + n)) o (λ n. tt))

-- ---- any form

form_opens : (cx : Context) (after : Bool) (gs : List Glyph) → Opens (form_at cx after gs)
unfolding form_at
form_opens cx after gs =
    or_opens (outside cx.in_link (link_or_url after gs)) (option_or (tag_tile cx.pairs gs) (switch_at gs))
    (outside_opens cx.in_link (link_or_url after gs) (links_open after gs))
    (or_opens (tag_tile cx.pairs gs) (switch_at gs) (tag_opens cx.pairs gs) (switch_opens gs))

pub opens_so : (cx : Context) (after : Bool) (gs : List Glyph) (w : Shape) → form_at cx after gs ≡ Some w → OpensAs w.kind w
opens_so cx after gs w e = subst Opens e (form_opens cx after gs)
