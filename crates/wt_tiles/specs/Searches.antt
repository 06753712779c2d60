-- What is sought in links.
use Rattle.std.specs.Prelude.{◌≤◌, ℕ, Bool, ◌||◌, Option, List, codes}
use Rattle.wt_tiles.specs.declared.glyph.Glyph.{Glyph}
use Rattle.wt_tiles.specs.declared.glyph.GlyphClass.TheVariants as class
use Rattle.wt_tiles.specs.declared.link.Search.{Search}
use Rattle.wt_tiles.specs.declared.link.Search.TheVariants as search
use Rattle.wt_tiles.specs.declared.target.LinkKind.{LinkKind}
use Rattle.wt_tiles.specs.declared.target.LinkKind.TheVariants.{Page, Category, Media}
use Rattle.wt_tiles.specs.Glyphs.{first_is, begins}
use Rattle.wt_tiles.specs.Links.{place}

abbrev pub stops : Search → List Glyph → Bool
stops search.Target gs = first_is (class.Only 124) gs || begins (codes "]]") gs
stops search.Close gs = begins (codes "]]") gs
stops search.Text gs = first_is (class.Only 93) gs

abbrev pub bars : Search → List Glyph → Bool
bars search.Target gs = begins (codes "[[") gs
bars search.Close gs = begins (codes "[[") gs
bars search.Text gs = first_is (class.Only 91) gs

abbrev pub search_place : Search → List Glyph → Option ℕ
search_place s gs = place (stops s) (bars s) gs

-- what belongs to the open delimiter of a page's link lies before its `]]`
abbrev pub IsHead : LinkKind → ℕ → ℕ → Type 0
IsHead Page head k = head ≤ k
IsHead Category head k = Unit {0}
IsHead Media head k = Unit {0}
