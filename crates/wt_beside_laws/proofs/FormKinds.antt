-- A form that begins at a character is a node.
use Rattle.std.proofs.Common.{◌≡◌, ℕ, ◌+◌, Bool, true, false, Option, Some, None, List, length, take, drop, refl, subst}
use Rattle.std.specs.Prelude.{◌&&◌, ◌==◌, if◌then◌else◌, option_map, nat_lt, codes}
use Rattle.std.specs.Option.{option_or}
use Rattle.wt_span.specs.Items.{Item}
use Rattle.wt_tiles.specs.declared.context.Context.{Context}
use Rattle.wt_tiles.specs.declared.glyph.GlyphClass.TheVariants as class
use Rattle.wt_tiles.specs.declared.glyph.Glyph.{Glyph}
use Rattle.wt_tiles.specs.declared.shape.Shape.{Shape}
use Rattle.wt_tiles.specs.declared.shape.TileKind.{TileKind}
use Rattle.wt_tiles.specs.declared.shape.TileKind.TheVariants as kind
use Rattle.wt_tiles.specs.declared.tag.Name.{Name}
use Rattle.wt_tiles.specs.declared.tag.Name.TheVariants.{Paired, Break, Island}
use Rattle.wt_tiles.specs.declared.tag.TagShape.{TagShape}
use Rattle.wt_tiles.specs.declared.tag.TagShape.TheVariants.{Opening, Alone, Closing}
use Rattle.wt_tiles.specs.declared.tag.Tag.{Tag}
use Rattle.wt_tiles.specs.declared.target.LinkKind.{LinkKind}
use Rattle.wt_tiles.specs.declared.target.LinkKind.TheVariants.{Page, Category, Media}
use Rattle.wt_tiles.specs.declared.target.Target.{Target}
use Rattle.wt_tiles.specs.Glyphs.{first_is, begins, run_len}
use Rattle.wt_tiles.specs.Tags.{tag_at}
use Rattle.wt_tiles.specs.Links.{leaf, target_of, kind_of, target_len, inner_len, has_pipe, head_len, link_shape, link_with, link_to, link_by, link_in, link_at}
use Rattle.wt_tiles.specs.Urls.{scheme_len, url_items, kept_len, text_len, ext_shape, ext_link_of, ext_link_at, bare_shape, bare_url_of, bare_url_at}
use Rattle.wt_tiles.specs.Tiles.{pair_or_island, closing_for, shape_of_tag, tag_tile, switch_names, switch_len, switch_at, outside, link_or_url, form_at}
use Rattle.wt_inline.specs.ItemTree.{ItemTree}
use Rattle.wt_context.specs.Nodes.{Reading, tile_tree}

-- it has a tree, whatever is in it
abbrev pub IsNodeKind : TileKind → Type 0
IsNodeKind kind.Link = Unit {0}
IsNodeKind kind.Category = Unit {0}
IsNodeKind kind.Media = Unit {0}
IsNodeKind kind.ExtLink = Unit {0}
IsNodeKind kind.BareUrl = Unit {0}
IsNodeKind kind.Br = Unit {0}
IsNodeKind kind.Pair = Unit {0}
IsNodeKind kind.TagIsland = Unit {0}
IsNodeKind kind.Switch = Unit {0}
IsNodeKind kind.Atom = ⊥
IsNodeKind kind.Mark = ⊥
IsNodeKind kind.Chars = ⊥

pub record HasTree (o : Option ItemTree) : Type 0 where
  pub node : ItemTree
  pub is : o ≡ Some node

pub has_tree : (read : Reading) (cx : Context) (k : TileKind) (w : Shape) (xs : List Item) → IsNodeKind k → HasTree (tile_tree read cx k w xs)
has_tree read cx kind.Link w xs h = record { node = _; is = refl }
has_tree read cx kind.Category w xs h = record { node = _; is = refl }
has_tree read cx kind.Media w xs h = record { node = _; is = refl }
has_tree read cx kind.ExtLink w xs h = record { node = _; is = refl }
has_tree read cx kind.BareUrl w xs h = record { node = _; is = refl }
has_tree read cx kind.Br w xs h = record { node = _; is = refl }
has_tree read cx kind.Pair w xs h = record { node = _; is = refl }
has_tree read cx kind.TagIsland w xs h = record { node = _; is = refl }
has_tree read cx kind.Switch w xs h = record { node = _; is = refl }
has_tree read cx kind.Atom w xs h = absurd h
has_tree read cx kind.Mark w xs h = absurd h
has_tree read cx kind.Chars w xs h = absurd h

-- ---- of a form, if there is one

abbrev OptNode : Option Shape → Type 0
OptNode None = Unit {0}
OptNode (Some w) = IsNodeKind w.kind

or_node : (a b : Option Shape) → OptNode a → OptNode b → OptNode (option_or a b)
or_node None b f g = g
or_node (Some w) b f g = f

if_node : (t : Bool) (o : Option Shape) → OptNode o → OptNode (if t then o else None)
if_node true o f = f
if_node false o f = tt

unless_node : (t : Bool) (o : Option Shape) → OptNode o → OptNode (if t then None else o)
unless_node true o f = tt
unless_node false o f = f

mapped_node : (f : ℕ → Shape) (o : Option ℕ) → ((n : ℕ) → IsNodeKind (f n).kind) → OptNode (option_map f o)
mapped_node f None h = tt
mapped_node f (Some n) h = h n

-- ---- links and URLs

shape_node : (k : LinkKind) (head n : ℕ) (gs : List Glyph) → IsNodeKind (link_shape k head n gs).kind
shape_node Page head n gs = tt
shape_node Category head n gs = tt
shape_node Media head n gs = tt

with_node : (t : Target) (n : ℕ) (o : Option ℕ) (gs : List Glyph) → OptNode (link_with t n o gs)
with_node t n None gs = tt
with_node t n (Some k) gs =
    unless_node (has_pipe n gs && k == n + 1) (Some (link_shape (kind_of t) (head_len t.colon n gs) k gs)) (shape_node (kind_of t) (head_len t.colon n gs) k gs)

to_node : (o : Option Target) (n : ℕ) (gs : List Glyph) → OptNode (link_to o n gs)
to_node None n gs = tt
to_node (Some t) n gs = with_node t n (inner_len (kind_of t) n gs) gs

by_node : (o : Option ℕ) (gs : List Glyph) → OptNode (link_by o gs)
by_node None gs = tt
by_node (Some n) gs = to_node (target_of (take n gs)) n gs

link_node : (gs : List Glyph) → OptNode (link_at gs)
unfolding link_at link_in
link_node gs = if_node (begins (codes "[[") gs) (link_by (target_len (drop 2 gs)) (drop 2 gs)) (by_node (target_len (drop 2 gs)) (drop 2 gs))

ext_of_node : (s m : ℕ) (gs : List Glyph) → OptNode (ext_link_of s m gs)
ext_of_node s m gs =
    let n = 1 + s + m in
    let k = n + run_len class.Blank (drop n gs) in
    if_node (nat_lt 0 s && nat_lt 0 m) (option_map (ext_shape k) (text_len (drop k gs))) (mapped_node (ext_shape k) (text_len (drop k gs)) (λ i. tt))

ext_node : (gs : List Glyph) → OptNode (ext_link_at gs)
unfolding ext_link_at
ext_node gs =
    let s = scheme_len (drop 1 gs) in
    let m = length (url_items (drop 1 gs)) in
    if_node (first_is (class.Only 91) gs) (ext_link_of s m gs) (ext_of_node s m gs)

bare_node : (after : Bool) (gs : List Glyph) → OptNode (bare_url_at after gs)
unfolding bare_url_at
bare_node after gs =
    let s = scheme_len gs in
    let m = kept_len (url_items gs) in
    unless_node after (bare_url_of s m) (if_node (nat_lt 0 s && nat_lt 0 m) (Some (bare_shape (s + m))) tt)

links_node : (after : Bool) (gs : List Glyph) → OptNode (link_or_url after gs)
unfolding link_or_url
links_node after gs =
    or_node (link_at gs) (option_or (ext_link_at gs) (bare_url_at after gs)) (link_node gs)
    (or_node (ext_link_at gs) (bare_url_at after gs) (ext_node gs) (bare_node after gs))

outside_node : (t : Bool) (o : Option Shape) → OptNode o → OptNode (outside t o)
outside_node true o f = tt
outside_node false o f = f

-- ---- tags and switches

pair_node : (n : ℕ) (o : Option (List Glyph)) (gs : List Glyph) → IsNodeKind (pair_or_island n o gs).kind
pair_node n None gs = tt
pair_node n (Some rest) gs = tt

named_node : (pairs : ℕ) (m : Name) (s : TagShape) (n : ℕ) (gs : List Glyph) → IsNodeKind (shape_of_tag pairs m s n gs).kind
named_node pairs (Paired m) Opening n gs = pair_node n (closing_for pairs m n gs) gs
named_node pairs (Paired m) Alone n gs = tt
named_node pairs (Paired m) Closing n gs = tt
named_node pairs Break Opening n gs = tt
named_node pairs Break Alone n gs = tt
named_node pairs Break Closing n gs = tt
named_node pairs Island s n gs = tt

tagged_node : (pairs : ℕ) (o : Option Tag) (gs : List Glyph) → OptNode (option_map (λ t. shape_of_tag pairs t.name t.shape t.len gs) o)
tagged_node pairs None gs = tt
tagged_node pairs (Some t) gs = named_node pairs t.name t.shape t.len gs

tag_node : (pairs : ℕ) (gs : List Glyph) → OptNode (tag_tile pairs gs)
unfolding tag_tile
tag_node pairs gs = tagged_node pairs (tag_at gs) gs

switch_node : (gs : List Glyph) → OptNode (switch_at gs)
unfolding switch_at
switch_node gs =
    let o = switch_len switch_names (drop 2 gs) in
    if_node (begins (codes "__") gs) (option_map (λ n. leaf kind.Switch (2 + n)) o) (mapped_node (λ n. leaf kind.Switch (2 + n)) o (λ n. tt))

-- ---- any form

form_node : (cx : Context) (after : Bool) (gs : List Glyph) → OptNode (form_at cx after gs)
unfolding form_at
form_node cx after gs =
    or_node (outside cx.in_link (link_or_url after gs)) (option_or (tag_tile cx.pairs gs) (switch_at gs))
    (outside_node cx.in_link (link_or_url after gs) (links_node after gs))
    (or_node (tag_tile cx.pairs gs) (switch_at gs) (tag_node cx.pairs gs) (switch_node gs))

pub form_is_node : (cx : Context) (after : Bool) (gs : List Glyph) (w : Shape) → form_at cx after gs ≡ Some w → IsNodeKind w.kind
form_is_node cx after gs w e = subst OptNode e (form_node cx after gs)
