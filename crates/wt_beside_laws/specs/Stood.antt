-- Nodes as they stand in the page: each is read there as a form that takes all of its items.
use Rattle.std.specs.Prelude.{◌≡◌, ◌⊎◌, ℕ, ◌+◌, ◌||◌, ◌==◌, Bool, true, false, Some, List, [], ◌∷◌, ◌++◌, length, encode_utf8, if◌then◌else◌}
use Rattle.wt_span.specs.Characters as byte
use Rattle.wt_guards.specs.declared.role.Role.{Role}
use Rattle.wt_guards.specs.declared.role.Role.TheVariants.{Link, External, Bare, Switch, Toggle, Mark, Group, Function, Node}
use Rattle.wt_guards.specs.Content.{ContentSign, Thing, letter, thing}
use Rattle.wt_tiles.specs.declared.glyph.Glyph.{Glyph}
use Rattle.wt_tiles.specs.declared.shape.Shape.{Shape}
use Rattle.wt_tiles.specs.declared.shape.TileKind.{TileKind}
use Rattle.wt_tiles.specs.declared.shape.TileKind.TheVariants as kind
use Rattle.wt_tiles.specs.declared.glyph.GlyphClass.TheVariants as class
use Rattle.wt_tiles.specs.Contexts.{in_line}
use Rattle.wt_tiles.specs.Glyphs.{is_in, first_is, byte_glyphs}
use Rattle.wt_tiles.specs.Tiles.{size}
use Rattle.wt_tiles.specs.Urls.{is_url_glyph, is_dropped, is_word}
use Rattle.wt_beside_laws.specs.Cuts.{own_glyphs, ends_word, form_before}

-- ---- a node

-- an apostrophe, or a character that doesn't end a URL
abbrev pub is_url_end : ℕ → Bool
is_url_end b = b == byte.apostrophe || is_dropped false b

-- what may be behind a bare URL in a page: no item of a URL, or one of these
abbrev pub EndsUrl : List Glyph → Type 0
EndsUrl [] = Unit {0}
EndsUrl (g ∷ gs) = (is_url_glyph g ≡ false) ⊎ (is_in is_url_end g ≡ true)

-- tiles that keep their source whole
abbrev pub IsOtherTile : TileKind → Type 0
IsOtherTile kind.Chars = ⊥
IsOtherTile kind.Mark = ⊥
IsOtherTile kind.Atom = Unit {0}
IsOtherTile kind.Link = ⊥
IsOtherTile kind.Category = Unit {0}
IsOtherTile kind.Media = Unit {0}
IsOtherTile kind.ExtLink = ⊥
IsOtherTile kind.BareUrl = ⊥
IsOtherTile kind.Br = Unit {0}
IsOtherTile kind.Pair = Unit {0}
IsOtherTile kind.TagIsland = Unit {0}
IsOtherTile kind.Switch = ⊥

-- what a tile is to its neighbours
abbrev pub IsTileOf : Role → TileKind → Type 0
IsTileOf Link k = k ≡ kind.Link
IsTileOf External k = k ≡ kind.ExtLink
IsTileOf (Bare ends) k = k ≡ kind.BareUrl
IsTileOf Switch k = k ≡ kind.Switch
IsTileOf Toggle k = ⊥
IsTileOf (Mark ends began) k = k ≡ kind.Mark
IsTileOf (Group g) k = ⊥
IsTileOf Function k = k ≡ kind.Atom
IsTileOf Node k = IsOtherTile k

-- It is read before what its line has behind it, as a form of its kind, and takes all of its items; `after` says whether a letter,
-- digit or `_` comes before it.
pub record IsRead (after : Bool) (r : Role) (own behind : List Glyph) : Type 0 where
  pub shape : Shape
  pub form : form_before in_line after own behind ≡ Some shape
  pub whole : size shape ≡ length own
  pub tile : IsTileOf r shape.kind

-- what such a node has behind it
abbrev pub HasBehind : Role → List Glyph → Type 0
HasBehind Link gs = first_is class.Trail gs ≡ false
HasBehind External gs = Unit {0}
HasBehind (Bare ends) gs = EndsUrl gs
HasBehind Switch gs = Unit {0}
HasBehind Toggle gs = Unit {0}
HasBehind (Mark ends began) gs = Unit {0}
HasBehind (Group g) gs = Unit {0}
HasBehind Function gs = Unit {0}
HasBehind Node gs = Unit {0}

-- ---- a content of the page

-- the items of the rest of a line: each character as it is, and each node by its source
abbrev pub line_glyphs : List ContentSign → List Glyph
line_glyphs [] = []
line_glyphs (letter c ∷ after) = if c == byte.line_break then [] else byte_glyphs (encode_utf8 c) ++ line_glyphs after
line_glyphs (thing t ∷ after) = own_glyphs t ++ line_glyphs after

-- each node is read so
abbrev pub AreStood : Bool → List ContentSign → Type 0
AreStood a [] = Unit {0}
AreStood a (letter c ∷ after) = AreStood (is_word c) after
AreStood a (thing t ∷ after) = IsRead a t.role (own_glyphs t) (line_glyphs after) × AreStood (ends_word a (own_glyphs t)) after

-- and has its place in the source of the block
abbrev pub AreAt : ℕ → List ContentSign → Type 0
AreAt at [] = Unit {0}
AreAt at (letter c ∷ after) = AreAt (at + length (encode_utf8 c)) after
AreAt at (thing t ∷ after) = (t.place ≡ Some (record { start = at; end = at + length t.source })) × AreAt (at + length t.source) after

-- the nodes of a content
abbrev pub things : List ContentSign → List Thing
things [] = []
things (letter c ∷ signs) = things signs
things (thing t ∷ signs) = t ∷ things signs
