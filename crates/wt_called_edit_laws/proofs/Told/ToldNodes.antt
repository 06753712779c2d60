-- The nodes of a paragraph or a heading that is told by its lines, or that is among calls, stay beside texts.
use Rattle.std.proofs.Common.{List, [], ◌∷◌, ◌++◌, ℕ, map}
use Rattle.wt_span.specs.Items.{Item}
use Rattle.wt_expand.specs.Work.{Pages}
use Rattle.wt_page.specs.Lines.{ending}
use Rattle.wt_tables.specs.Parts.{joined}
use Rattle.wt_text_edit_laws.specs.BlockSpots.{BlockSpot, AreContents, AreRead}
use Rattle.wt_text_edit_laws.specs.Contents.{IsContent}
use Rattle.wt_text_edit_laws.specs.NoCalls.{CallsNothing}
use Rattle.wt_text_edit_laws.specs.TextBlocks.{TextBlock, block_items}
use Rattle.wt_beside_laws.specs.EndedNodes.{AreEndedNodes}
use Rattle.wt_beside_laws.specs.FlatBlocks.{signs_in}
use Rattle.wt_beside_laws.specs.StyledIn.{IsStyledIn}
use Rattle.wt_beside_laws.proofs.Own.Kept.{content_styled}
use Rattle.wt_beside_laws.proofs.Derived.CutPages.{cut_read}
use Rattle.wt_called_edit_laws.specs.CalledBlocks.{CallNothing}
use Rattle.wt_called_edit_laws.specs.CalledPages.{IsCalledPage}
use Rattle.wt_called_edit_laws.specs.PlacedLines.{spots_by, end_by}
use Rattle.wt_called_edit_laws.specs.PlacedSpots.{IsPlacedPage}
use Rattle.wt_called_edit_laws.specs.ToldLines.{Told, lined, IsToldPage}
use Rattle.wt_called_edit_laws.proofs.Cells.PlacedLines.{lined_in}
use Rattle.wt_called_edit_laws.proofs.Cells.PlacedSpots.{AreCutFree, spots_free}
use Rattle.wt_called_edit_laws.proofs.Parts.NoCallsCalled.{read_contents, read_none_called}
use Rattle.wt_called_edit_laws.proofs.Told.ToldPages.{told_lined}

-- a block that is read by itself, and calls nothing
record IsCalmContent (k : TextBlock) (q : List ℕ) : Type 0 where
  is : IsContent k q
  calls_nothing : CallsNothing (block_items k q)

spot_calm : (ss : List BlockSpot) (s : BlockSpot) (rs : List BlockSpot) → AreContents (ss ++ s ∷ rs) → CallNothing (ss ++ s ∷ rs) → IsCalmContent s.block s.text
spot_calm [] s rs h c = record { is = h.0; calls_nothing = c.0 }
spot_calm (r ∷ ss) s rs h c = spot_calm ss s rs h.1 c.1

told_calm : (es : List Item) (ts : List Told) (t : Told) (us : List Told) → AreContents (spots_by es (map lined (ts ++ t ∷ us)))
    → CallNothing (spots_by es (map lined (ts ++ t ∷ us))) → IsCalmContent (lined t).block (lined t).text
told_calm es [] t us h c = record { is = h.0; calls_nothing = c.0 }
told_calm es (r ∷ ts) t us h c = told_calm (ending (joined ((lined r).first ∷ (lined r).more))) ts t us h.1 c.1

styled_by : (k : TextBlock) (q : List ℕ) → IsCalmContent k q → AreEndedNodes (signs_in k q) → IsStyledIn k q
styled_by k q h ended = content_styled k q h.is h.calls_nothing ended

pub spot_styled : (pages : Pages) (ss : List BlockSpot) (s : BlockSpot) (rs : List BlockSpot) (behind : List ℕ) → IsCalledPage pages (ss ++ s ∷ rs) behind
    → AreEndedNodes (signs_in s.block s.text) → IsStyledIn s.block s.text
spot_styled pages ss s rs behind h = styled_by s.block s.text (spot_calm ss s rs h.outside.among.contents h.outside.among.calm)

pub told_styled : (page : List ℕ) (ts : List Told) (t : Told) (us : List Told) (rest : List (List Item)) → IsToldPage page (ts ++ t ∷ us) rest
    → AreEndedNodes (signs_in (lined t).block (lined t).text) → IsStyledIn (lined t).block (lined t).text
told_styled page ts t us rest h =
    let all : List Told = ts ++ t ∷ us in
    let ss : List BlockSpot = spots_by [] (map lined all) in
    let behind : List ℕ = end_by [] (map lined all) rest in
    let placed : IsPlacedPage ss behind = lined_in page (map lined all) rest (told_lined page all rest h) in
    let free : AreCutFree ss behind = spots_free ss behind placed in
    let read : AreRead ss behind = cut_read ss behind placed.utf8 placed.calls_nothing free.cuts free.free in
    styled_by (lined t).block (lined t).text (told_calm [] ts t us (read_contents ss behind read) (read_none_called ss behind read))
