-- Calls of the program that send a text edit of a page, and how they end.
use Rattle.std.specs.Prelude.{◌≡◌, ◌⊎◌, ℕ, List, Option, Some}
use Rattle.std.specs.List.{AllByRecursion}
use Rattle.wt_span.specs.Items.{Item}
use Rattle.wt_devices.specs.Device.{Pages}
use Rattle.wt_tree.specs.Tree.{Tree}
use Rattle.wt_page_round_trip.specs.PageTree.{page_tree}
use Rattle.wt_slices.specs.BodySlices.{slices}
use Rattle.wt_slices.specs.Changes.{marked}
use Rattle.wt_splice.specs.Splice.{spliced}
use Rattle.wt_visible.specs.SameNodes.{same_node}
use Rattle.wt_commands.specs.declared.command.Command.TheVariants.{Edit, Selser}
use Rattle.wt_commands.specs.declared.status.Status.TheVariants as status
use Rattle.wt_commands.specs.Answers.{remarked_of}
use Rattle.wt_commands.specs.Calls.{Call, NothingFailed}
use Rattle.wt_commands.specs.Statuses.{code, IsFaultOrNoMemory}
use Rattle.wt_called_edit_laws.specs.CalledBlocks.{counted}
use Rattle.wt_called_edit_laws.specs.CalledTexts.{spots_tree}
use Rattle.wt_called_edit_laws.specs.CallingGroups.{block_with_groups}
use Rattle.wt_called_edit_laws.specs.EditsAt.{AllStand}
use Rattle.wt_called_edit_laws.specs.LinedAmong.{spots_of_lines, end_of_lines, IsLinedAmong}
use Rattle.wt_called_edit_laws.specs.LinedCalling.{IsLinedCalling}
use Rattle.wt_called_edit_laws.specs.LocalChange.{ExpandsAlike}
use Rattle.wt_called_edit_laws.specs.PlacedLines.{LinedBlock}
use Rattle.wt_called_edit_laws.specs.SettledAt.{AllSettled}
use Rattle.wt_program.specs.AnyCalls.{SendsFor}
use Rattle.wt_program.specs.Calls.{WroteNewPage}
use Rattle.wt_inside_laws.specs.BesideEdits.{IsBesideHtml}
use Rattle.wt_inside_laws.specs.EditsWithCalls.{IsMarkedEdit, IsMarkedDifference}
use Rattle.wt_inside_laws.specs.HtmlEdits.{IsHtmlEdit}
use Rattle.wt_inside_laws.specs.LocalTextEdits.{IsLocalTextEdit}
use Rattle.wt_inside_laws.specs.ToldEdits.{IsOrdinaryEdit}
use Rattle.wt_inside_laws.specs.TypedBeside.{IsTypedIn}

-- the page with the insides of its marked blocks replaced by what was sent for them, as it is spelled
abbrev pub retyped_page : Pages → List ℕ → Tree → List ℕ
retyped_page pages page new = spliced page (slices same_node (page_tree pages page) new)

-- The blocks that the lines of the expanded page tell are at paths of its tree. Where a call sends HTML that is a text edit of some of them,
-- * `edit` has written the page with the insides of these replaced; or a device failed, or memory ran out;
-- * where no device failed, only want of memory may come in its place.
pub record TakesToldEditsThere (c : Call) (ended : ℕ) (pages : Pages) (page : List ℕ) (bs : List LinedBlock) (rest : List (List Item)) : Type 0 where
  pub paths : List (List ℕ)
  pub stand : AllStand (spots_of_lines pages page bs) paths (spots_tree pages (spots_of_lines pages page bs) (end_of_lines pages page bs rest))
  pub edit : (new : Tree) → (s : SendsFor c Edit page (retyped_page pages page new) (λ b. new)) → IsHtmlEdit pages page s.input paths new s.unsourced
      → WroteNewPage c ended (retyped_page pages page new) ⊎ IsFaultOrNoMemory ended
  pub complete : (new : Tree) → (s : SendsFor c Edit page (retyped_page pages page new) (λ b. new)) → IsHtmlEdit pages page s.input paths new s.unsourced
      → NothingFailed c → WroteNewPage c ended (retyped_page pages page new) ⊎ (ended ≡ code status.NoMemory)

-- over a folder of these pages, of each page whose lines tell them so
abbrev pub TakesToldEdits : Call → ℕ → Type 0
TakesToldEdits c ended =
    (pages : Pages) (page : List ℕ) (bs : List LinedBlock) (rest : List (List Item)) → c.folder.pages_before ≡ Some pages → IsLinedAmong pages page bs rest
    → TakesToldEditsThere c ended pages page bs rest

-- The same of blocks that may hold calls.
pub record TakesBesideThere (c : Call) (ended : ℕ) (pages : Pages) (page : List ℕ) (bs : List LinedBlock) (rest : List (List Item)) : Type 0 where
  pub paths : List (List ℕ)
  pub stand : AllSettled (block_with_groups pages (spots_of_lines pages page bs) (end_of_lines pages page bs rest)) (counted (spots_of_lines pages page bs)) paths
      (spots_tree pages (spots_of_lines pages page bs) (end_of_lines pages page bs rest))
  pub edit : (new : Tree) → (s : SendsFor c Edit page (retyped_page pages page new) (λ b. new)) → IsBesideHtml pages page s.input paths new s.unsourced
      → WroteNewPage c ended (retyped_page pages page new) ⊎ IsFaultOrNoMemory ended
  pub complete : (new : Tree) → (s : SendsFor c Edit page (retyped_page pages page new) (λ b. new)) → IsBesideHtml pages page s.input paths new s.unsourced
      → NothingFailed c → WroteNewPage c ended (retyped_page pages page new) ⊎ (ended ≡ code status.NoMemory)
  pub local : (input : List ℕ) (new : Tree) (unsourced : Option ℕ) → IsBesideHtml pages page input paths new unsourced → IsLocalTextEdit pages page new
  pub apart : (input : List ℕ) (new : Tree) (unsourced : Option ℕ) → IsBesideHtml pages page input paths new unsourced
      → AllByRecursion (IsTypedIn pages) (marked (page_tree pages page) new)

abbrev pub TakesBesideEdits : Call → ℕ → Type 0
TakesBesideEdits c ended =
    (pages : Pages) (page : List ℕ) (bs : List LinedBlock) (rest : List (List Item)) → c.folder.pages_before ≡ Some pages → IsLinedCalling pages page bs rest
    → TakesBesideThere c ended pages page bs rest

-- Where a call sends HTML that is such an edit of a page,
-- * `edit` has written the page with the insides of the marked blocks replaced; or a device failed, or memory ran out;
-- * where no device failed, only want of memory may come in its place;
-- * the edit is local: what the page means outside of these blocks stays, moved by the bytes that were added before it; where these call nothing, each
--   call gives what it gave, for the same work;
-- * what is written for each of these blocks makes nothing but what was typed, beside the calls and the nodes that stay.
pub record TakesMarked (c : Call) (ended : ℕ) : Type 0 where
  pub edit : (pages : Pages) (page : List ℕ) (new : Tree) → c.folder.pages_before ≡ Some pages
      → (s : SendsFor c Edit page (retyped_page pages page new) (λ b. new)) → IsMarkedEdit pages page s.input new s.unsourced
      → WroteNewPage c ended (retyped_page pages page new) ⊎ IsFaultOrNoMemory ended
  pub complete : (pages : Pages) (page : List ℕ) (new : Tree) → c.folder.pages_before ≡ Some pages
      → (s : SendsFor c Edit page (retyped_page pages page new) (λ b. new)) → IsMarkedEdit pages page s.input new s.unsourced → NothingFailed c
      → WroteNewPage c ended (retyped_page pages page new) ⊎ (ended ≡ code status.NoMemory)
  pub local : (pages : Pages) (page input : List ℕ) (new : Tree) (unsourced : Option ℕ) → IsMarkedEdit pages page input new unsourced
      → IsLocalTextEdit pages page new
  pub alike : (pages : Pages) (page input : List ℕ) (new : Tree) (unsourced : Option ℕ) → IsOrdinaryEdit pages page input new unsourced
      → ExpandsAlike pages page (retyped_page pages page new)
  pub apart : (pages : Pages) (page input : List ℕ) (new : Tree) (unsourced : Option ℕ) → IsMarkedEdit pages page input new unsourced
      → AllByRecursion (IsTypedIn pages) (marked (page_tree pages page) new)

-- Where a call of `selser` sends HTML without marks, whose difference from a page is such an edit, it is done; or a device failed, or memory ran out.
abbrev pub TakesDifferences : Call → ℕ → Type 0
TakesDifferences c ended =
    (pages : Pages) (page : List ℕ) (new : Tree) → c.folder.pages_before ≡ Some pages
    → (s : SendsFor c Selser page (retyped_page pages page (remarked_of pages page new)) (λ b. new)) → IsMarkedDifference pages page s.input new s.unsourced
    → (ended ≡ code status.Done) ⊎ IsFaultOrNoMemory ended

-- A text edit of a page, in which the marked blocks are ordinary or may hold calls; the same without marks; and a text edit of blocks that may hold calls,
-- among any that the lines of the expanded page are said to tell.
pub record TakesTextEdits (c : Call) (ended : ℕ) : Type 0 where
  pub edits : TakesMarked c ended
  pub selser : TakesDifferences c ended
  pub beside : TakesBesideEdits c ended
