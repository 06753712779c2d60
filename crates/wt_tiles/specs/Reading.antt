-- The tiles of a context as a relation: a list of shapes, each of which is where it should be.
use Rattle.std.specs.Prelude.{◌≡◌, ℕ, zero, suc, ◌-◌, ◌<◌, ◌≤◌, Bool, false, Option, Some, None, List, [], ◌∷◌, length, drop}
use Rattle.wt_tiles.specs.declared.context.Context.{Context}
use Rattle.wt_tiles.specs.declared.glyph.Glyph.{Glyph}
use Rattle.wt_tiles.specs.declared.shape.Shape.{Shape}
use Rattle.wt_tiles.specs.declared.shape.TileKind.{TileKind}
use Rattle.wt_tiles.specs.declared.shape.TileKind.TheVariants as kind
use Rattle.wt_tiles.specs.Glyphs.{is_in}
use Rattle.wt_tiles.specs.Urls.{is_word}
use Rattle.wt_tiles.specs.Tiles.{tile_with, size, chars}

-- the tile that begins the items, if one does
abbrev pub tile_at : Context → Bool → List Glyph → Option Shape
tile_at cx after [] = None
tile_at cx after (g ∷ gs) = tile_with cx after g (g ∷ gs)

-- a form, and no run of characters
abbrev pub IsForm : TileKind → Type 0
IsForm kind.Link = Unit {0}
IsForm kind.Category = Unit {0}
IsForm kind.Media = Unit {0}
IsForm kind.ExtLink = Unit {0}
IsForm kind.BareUrl = Unit {0}
IsForm kind.Br = Unit {0}
IsForm kind.Pair = Unit {0}
IsForm kind.TagIsland = Unit {0}
IsForm kind.Switch = Unit {0}
IsForm kind.Atom = Unit {0}
IsForm kind.Mark = Unit {0}
IsForm kind.Chars = ⊥

-- a letter, digit or `_` comes before the k-th item; `after` says it of the first
abbrev pub is_word_at : List Glyph → ℕ → Bool
is_word_at [] k = false
is_word_at (g ∷ gs) zero = is_in is_word g
is_word_at (g ∷ gs) (suc k) = is_word_at gs k

abbrev pub word_before : Bool → List Glyph → ℕ → Bool
word_before after gs zero = after
word_before after gs (suc k) = is_word_at gs k

-- What a shape says of the items that it begins: it is the form that begins there, the first of several; or it is a run of
-- characters, at none of which a form begins.
abbrev pub StandsBy : TileKind → Context → Bool → Shape → List Glyph → Type 0
StandsBy kind.Chars cx after w gs = (w ≡ chars (size w)) × ((k : ℕ) → k < size w → tile_at cx (word_before after gs k) (drop k gs) ≡ None)
StandsBy k cx after w gs = tile_at cx after gs ≡ Some w

abbrev pub Stands : Context → Bool → Shape → List Glyph → Type 0
Stands cx after w gs = StandsBy w.kind cx after w gs

-- the first of these shapes is no run of characters
abbrev pub BeginsWithForm : List Shape → Type 0
BeginsWithForm [] = Unit {0}
BeginsWithForm (w ∷ ws) = IsForm w.kind

-- no two runs of characters are neighbours
abbrev pub Apart : TileKind → List Shape → Type 0
Apart kind.Chars ws = BeginsWithForm ws
Apart k ws = Unit {0}

-- The shapes are those of the tiles of a context: together they take all its items, each is where it should be, and no two
-- runs are neighbours.
abbrev pub AreTiles : Context → Bool → List Shape → List Glyph → Type 0
AreTiles cx after [] gs = gs ≡ []
AreTiles cx after (w ∷ ws) gs = (0 < size w) ×
    (size w ≤ length gs) × Stands cx after w gs × Apart w.kind ws × AreTiles cx (is_word_at gs (size w - 1)) ws
    (drop (size w) gs)
