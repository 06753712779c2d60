-- The tiles of a content of text that is typed and nodes that stay: of each sign by itself, and of the nowikis that are put.
use Rattle.std.specs.Prelude.{◌≡◌, ◌⊎◌, ℕ, ◌+◌, ◌&&◌, Bool, true, false, not, Option, Some, None, List, [], ◌∷◌, ◌++◌, length, map, codes, encode_utf8}
use Rattle.wt_guards.specs.Content.{ContentSign, Thing, letter, thing}
use Rattle.wt_guards.specs.Guards.{Setting, is_guarded}
use Rattle.wt_guards.specs.Letters.{is_escaped}
use Rattle.wt_tiles.specs.declared.context.Context.{Context}
use Rattle.wt_tiles.specs.declared.glyph.Glyph.{Glyph}
use Rattle.wt_tiles.specs.declared.shape.Shape.{Shape}
use Rattle.wt_tiles.specs.declared.shape.TileKind.TheVariants as kind
use Rattle.wt_tiles.specs.Glyphs.{glyph_of, is_in, byte_glyphs}
use Rattle.wt_tiles.specs.Links.{leaf}
use Rattle.wt_tiles.specs.Tiles.{size, Cut, closed, tile_with, cuts}
use Rattle.wt_tiles.specs.Urls.{is_word}
use Rattle.wt_beside_laws.specs.NodeItems.{node_items}
use Rattle.wt_beside_laws.specs.Glyphs.{content_glyphs}

-- so many characters before what follows
abbrev pub add_chars : ℕ → Cut → Cut
add_chars n c = (n + c.0, c.1)

-- a form before what follows
abbrev pub add_tile : Shape → Cut → Cut
add_tile w c = (0, w ∷ closed c.0 c.1)

abbrev pub own_glyphs : Thing → List Glyph
own_glyphs t = map glyph_of (node_items t.source)

-- the form that a node begins with; none, if it is a style delimiter
abbrev pub own_form : Context → List Glyph → Option Shape
own_form cx [] = None
own_form cx (g ∷ gs) = tile_with cx false g (g ∷ gs)

abbrev pub add_node : Option Shape → ℕ → Cut → Cut
add_node None n c = add_chars n c
add_node (Some w) n c = add_tile w c

abbrev pub guard_cut : Bool → Cut → Cut
guard_cut true c = add_tile (leaf kind.Atom 1) c
guard_cut false c = c

abbrev pub letter_cut : Bool → ℕ → Cut → Cut
letter_cut true d c = add_tile (leaf kind.Atom 1) c
letter_cut false d c = add_chars (length (encode_utf8 d)) c

-- before these tiles
abbrev pub content_cut : Context → Setting → List ContentSign → List ContentSign → Cut → Cut
content_cut cx s before [] c = guard_cut (is_guarded s before []) c
content_cut cx s before (letter d ∷ after) c =
    guard_cut (is_guarded s before (letter d ∷ after)) (letter_cut (is_escaped s.within s.place before d after) d (content_cut cx s (letter d ∷ before) after c))
content_cut cx s before (thing t ∷ after) c =
    guard_cut (is_guarded s before (thing t ∷ after)) (add_node (own_form cx (own_glyphs t)) (length (own_glyphs t)) (content_cut cx s (thing t ∷ before) after c))

-- ---- nodes that are one tile

-- whether a letter, digit or `_` is last; of no items, whether one comes before them
abbrev pub ends_word : Bool → List Glyph → Bool
ends_word a [] = a
ends_word a (g ∷ gs) = ends_word (is_in is_word g) gs

-- of the signs before a place: whether one is last, as it is written or as a reference
abbrev pub is_word_last : List ContentSign → Bool
is_word_last [] = false
is_word_last (letter c ∷ before) = is_word c
is_word_last (thing t ∷ before) = ends_word false (own_glyphs t)

-- the form that begins a node before what is read behind it
abbrev pub form_before : Context → Bool → List Glyph → List Glyph → Option Shape
form_before cx a [] behind = None
form_before cx a (g ∷ gs) behind = tile_with cx a g (g ∷ (gs ++ behind))

-- Its form is all of it, and stays before what is read behind it; `word` says whether a letter, digit or `_` may come before it. A node
-- without a form is a style delimiter.
abbrev pub StandsAs : Option Shape → Context → Bool → List Glyph → List Glyph → Type 0
StandsAs None cx word own behind = (own ≡ byte_glyphs (codes "''")) ⊎ (own ≡ byte_glyphs (codes "'''"))
StandsAs (Some w) cx word own behind = (size w ≡ length own) × ((a : Bool) → (a ≡ true → word ≡ true) → form_before cx a own behind ≡ Some w)

abbrev pub Stands : Context → Bool → List Glyph → List Glyph → Type 0
Stands cx word own behind = StandsAs (own_form cx own) cx word own behind

-- so each node that stays, before what follows it
abbrev pub AllStand : Context → Setting → List ContentSign → List ContentSign → List Glyph → Type 0
AllStand cx s before [] rest = Unit {0}
AllStand cx s before (letter c ∷ after) rest = AllStand cx s (letter c ∷ before) after rest
AllStand cx s before (thing t ∷ after) rest =
    Stands cx (not (is_guarded s before (thing t ∷ after)) && is_word_last before) (own_glyphs t) (content_glyphs s (thing t ∷ before) after rest)
    × AllStand cx s (thing t ∷ before) after rest

-- what is read behind the content is read so whether or not a letter, digit or `_` comes before it
abbrev pub IsFree : Context → List Glyph → Type 0
IsFree cx rest = (a : Bool) → cuts cx a 0 rest ≡ cuts cx false 0 rest
