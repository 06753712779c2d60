-- Calls of the program that send paragraphs and headings of a page, told by the page's items and by its lines, with edited contents and with texts, and
-- how they end.
use Rattle.std.specs.Prelude.{◌≡◌, ℕ, List, Some}
use Rattle.wt_span.specs.Items.{Item}
use Rattle.wt_devices.specs.Device.{Pages}
use Rattle.wt_commands.specs.Calls.{Call}
use Rattle.wt_text_edit_laws.specs.BlockSpots.{BlockSpot}
use Rattle.wt_called_edit_laws.specs.LinedAmong.{spots_of_lines, end_of_lines, IsLinedAmong}
use Rattle.wt_called_edit_laws.specs.PlacedLines.{LinedBlock}
use Rattle.wt_called_edit_laws.specs.PlacedSpots.{IsPlacedPage}
use Rattle.wt_program.specs.CalledCalls.{TakesThemAmong}
use Rattle.wt_program.specs.ContentCalls.{TakesContentsThere}

-- Over a folder of these pages, contents are taken wherever they were edited in such a page.
abbrev pub TakesContentsAtPlaces : Call → ℕ → Type 0
TakesContentsAtPlaces c ended =
    (pages : Pages) (ss : List BlockSpot) (behind : List ℕ) → c.folder.pages_before ≡ Some pages → IsPlacedPage ss behind
    → TakesContentsThere c ended pages ss behind

-- and texts wherever they were typed
abbrev pub TakesTextsAtPlaces : Call → ℕ → Type 0
TakesTextsAtPlaces c ended =
    (pages : Pages) (ss : List BlockSpot) (behind : List ℕ) → c.folder.pages_before ≡ Some pages → IsPlacedPage ss behind
    → TakesThemAmong c ended pages ss behind

-- So of each page that calls nothing or anything, by the lines of the expanded page.
abbrev pub TakesContentsInLines : Call → ℕ → Type 0
TakesContentsInLines c ended =
    (pages : Pages) (page : List ℕ) (bs : List LinedBlock) (behind : List (List Item)) → c.folder.pages_before ≡ Some pages → IsLinedAmong pages page bs behind
    → TakesContentsThere c ended pages (spots_of_lines pages page bs) (end_of_lines pages page bs behind)

abbrev pub TakesTextsInLines : Call → ℕ → Type 0
TakesTextsInLines c ended =
    (pages : Pages) (page : List ℕ) (bs : List LinedBlock) (behind : List (List Item)) → c.folder.pages_before ≡ Some pages → IsLinedAmong pages page bs behind
    → TakesThemAmong c ended pages (spots_of_lines pages page bs) (end_of_lines pages page bs behind)
