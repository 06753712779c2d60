-- The tiles of a line, or of what is in a link or a pair of tags, as a scanner.
use Rattle.std.specs.Prelude.{Bool, Option, None, List, [], ◌∷◌}
use Rattle.wt_tiles.specs.declared.glyph.Glyph.{Glyph}
use Rattle.wt_tiles.specs.declared.shape.Shape.{Shape}
use Rattle.wt_tiles.specs.declared.context.Context.{Context}
use Rattle.wt_tiles.specs.Glyphs.{is_in}
use Rattle.wt_tiles.specs.Urls.{is_word}
use Rattle.wt_tiles.specs.Tiles.{chars, size, tile_with}
use Rattle.wt_part_laws.specs.Scans.{Scanner}

abbrev pub tile_form : Context → Bool → List Glyph → Option Shape
tile_form cx after [] = None
tile_form cx after (g ∷ gs) = tile_with cx after g (g ∷ gs)

abbrev pub tiler : Context → Scanner Glyph Shape
tiler cx = record { form = tile_form cx; size = size; run = chars; mark = is_in is_word }
