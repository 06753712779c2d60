-- The toggles of a line's apostrophes by the lengths of its runs alone, before one of them is exchanged; and where their numbers
-- are odd.
use Rattle.std.specs.Prelude.{ℕ, suc, ◌==◌, ◌%◌, ◌||◌, Bool, List, [], ◌∷◌, ◌++◌, count_by, drop, map, nat_le, take, if◌then◌else◌}
use Rattle.std.specs.List.{list_any}
use Rattle.wt_span.specs.Bytes.{is_break}
use Rattle.wt_span.specs.Items.{Item}
use Rattle.wt_span.specs.Characters as byte
use Rattle.wt_tiles.specs.declared.glyph.Glyph.{Glyph}
use Rattle.wt_tiles.specs.declared.shape.Shape.{Shape}
use Rattle.wt_tiles.specs.declared.shape.TileKind.{TileKind}
use Rattle.wt_tiles.specs.declared.shape.TileKind.TheVariants as tile
use Rattle.wt_tiles.specs.Contexts.{in_line}
use Rattle.wt_tiles.specs.Glyphs.{glyph_of, is_in}
use Rattle.wt_tiles.specs.Tiles.{shapes, size}

-- ---- lines

abbrev pub is_break_glyph : Glyph → Bool
is_break_glyph g = is_in is_break g

abbrev pub onto : Glyph → List (List Glyph) → List (List Glyph)
onto g [] = (g ∷ []) ∷ []
onto g (l ∷ ls) = (g ∷ l) ∷ ls

-- the lines, without their line breaks
abbrev pub lines : List Glyph → List (List Glyph)
lines [] = [] ∷ []
lines (g ∷ gs) = if is_break_glyph g then [] ∷ lines gs else onto g (lines gs)

-- ---- runs of apostrophes

abbrev pub is_quote : Glyph → Bool
is_quote g = is_in (λ b. b == byte.apostrophe) g

-- the lengths of the runs, where so many apostrophes come before these; that no apostrophe is between two others is a run, too
abbrev pub quote_runs : ℕ → List Glyph → List ℕ
quote_runs n [] = n ∷ []
quote_runs n (g ∷ gs) = if is_quote g then quote_runs (suc n) gs else n ∷ quote_runs 0 gs

-- those of a tile: apostrophes in links, tags and other forms aren't of the line
abbrev pub tile_runs : TileKind → List Glyph → List ℕ
tile_runs tile.Link gs = []
tile_runs tile.Category gs = []
tile_runs tile.Media gs = []
tile_runs tile.ExtLink gs = []
tile_runs tile.BareUrl gs = []
tile_runs tile.Br gs = []
tile_runs tile.Pair gs = []
tile_runs tile.TagIsland gs = []
tile_runs tile.Switch gs = []
tile_runs tile.Atom gs = []
tile_runs tile.Mark gs = []
tile_runs tile.Chars gs = quote_runs 0 gs

abbrev pub runs_of : List Shape → List Glyph → List ℕ
runs_of [] gs = []
runs_of (w ∷ ws) gs = tile_runs w.kind (take (size w) gs) ++ runs_of ws (drop (size w) gs)

-- ---- what they switch

-- two apostrophes switch italic, three and four bold, five and more both
abbrev pub switches_italic : ℕ → Bool
switches_italic n = n == 2 || nat_le 5 n

abbrev pub switches_bold : ℕ → Bool
switches_bold n = nat_le 3 n

abbrev pub is_odd : (ℕ → Bool) → List ℕ → Bool
is_odd p ns = count_by p ns % 2 == 1

abbrev pub are_odd : List ℕ → Bool
are_odd ns = is_odd switches_italic ns || is_odd switches_bold ns

-- a line has an odd number of italic or of bold toggles
abbrev pub is_odd_line : List Glyph → Bool
is_odd_line gs = are_odd (runs_of (shapes in_line gs) gs)

-- some line of these items does
abbrev pub has_odd_line : List Item → Bool
has_odd_line xs = list_any is_odd_line (lines (map glyph_of xs))
