-- What a call does with contents on pages with calls it does with those at their places in pages without calls, and with those that the lines of an
-- expanded page tell: the pages are such pages.
use Rattle.std.proofs.Common.{ℕ}
use Rattle.wt_commands.specs.Calls.{Call}
use Rattle.wt_pagetool.specs.Promises.{Ends, EndsAsEdit}
use Rattle.wt_called_edit_laws.specs.LinedAmong.{spots_of_lines, end_of_lines}
use Rattle.wt_called_edit_laws.proofs.Among.LinedParts.{lined_editable}
use Rattle.wt_called_edit_laws.proofs.BlocksOutside.{called_editable}
use Rattle.wt_called_edit_laws.proofs.Cells.PlacedSpots.{spots_called}
use Rattle.wt_called_edit_laws.proofs.EditableBlocks.{editable_with_calls}
use Rattle.wt_program.specs.CalledCalls.{TakesTextsAmongCalls}
use Rattle.wt_program.specs.ContentCalls.{TakesContentsAmongCalls}
use Rattle.wt_program.specs.PlacedCalls.{TakesContentsAtPlaces, TakesTextsAtPlaces, TakesContentsInLines, TakesTextsInLines}
use Rattle.wt_program.proofs.AmongCalls.{calls_take}
use Rattle.wt_program.proofs.TextCalls.{texts_so}

pub contents_at : (c : Call) (ended : ℕ) → TakesContentsAmongCalls c ended → TakesContentsAtPlaces c ended
contents_at c ended t = λ pages ss behind told h.
    t pages ss behind told (editable_with_calls pages ss behind (called_editable pages ss behind (spots_called pages ss behind h)))

texts_by : (c : Call) (ended : ℕ) → TakesTextsAmongCalls c ended → TakesTextsAtPlaces c ended
texts_by c ended t = λ pages ss behind told h. t pages ss behind told (called_editable pages ss behind (spots_called pages ss behind h))

pub texts_at : (c : Call) (ended : ℕ) → TakesContentsAmongCalls c ended → TakesTextsAtPlaces c ended
texts_at c ended t = texts_by c ended (texts_so c ended t)

pub contents_in : (c : Call) (ended : ℕ) → TakesContentsAmongCalls c ended → TakesContentsInLines c ended
contents_in c ended t = λ pages page bs behind told h.
    t pages (spots_of_lines pages page bs) (end_of_lines pages page bs behind) told
    (editable_with_calls pages (spots_of_lines pages page bs) (end_of_lines pages page bs behind) (lined_editable pages page bs behind h))

texts_in_by : (c : Call) (ended : ℕ) → TakesTextsAmongCalls c ended → TakesTextsInLines c ended
texts_in_by c ended t = λ pages page bs behind told h.
    t pages (spots_of_lines pages page bs) (end_of_lines pages page bs behind) told (lined_editable pages page bs behind h)

pub texts_in : (c : Call) (ended : ℕ) → TakesContentsAmongCalls c ended → TakesTextsInLines c ended
texts_in c ended t = texts_in_by c ended (texts_so c ended t)

pub calls_take_in_lines : (c : Call) (ended : ℕ) → Ends c ended → EndsAsEdit c ended → TakesContentsInLines c ended
calls_take_in_lines c ended ends as_edit = contents_in c ended (calls_take c ended ends as_edit)

pub calls_type_in_lines : (c : Call) (ended : ℕ) → Ends c ended → EndsAsEdit c ended → TakesTextsInLines c ended
calls_type_in_lines c ended ends as_edit = texts_in c ended (calls_take c ended ends as_edit)
