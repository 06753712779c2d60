-- Any number of paragraphs and headings of a page's tree at once, with calls in them or without: their contents may be edited at their paths.
use Rattle.std.specs.Prelude.{◌≡◌, ℕ, false, List}
use Rattle.std.specs.List.{AllByRecursion}
use Rattle.wt_span.specs.Items.{Item}
use Rattle.wt_tree.specs.Tree.{Tree, label}
use Rattle.wt_expand.specs.PageCalls.{expanded_page}
use Rattle.wt_expand.specs.Work.{Pages}
use Rattle.wt_selser.specs.Edits.{is_tangled}
use Rattle.wt_called_edit_laws.specs.AllTold.{IsOneOf}
use Rattle.wt_called_edit_laws.specs.CallingContents.{TakesContentsIn}
use Rattle.wt_called_edit_laws.specs.CallingTold.{IsExceptedCalling}
use Rattle.wt_called_edit_laws.specs.EditableNodes.{IsEditableNode}
use Rattle.wt_called_edit_laws.specs.Groups.{called_tree}
use Rattle.wt_called_edit_laws.specs.LinedAmong.{spots_of_lines, end_of_lines}
use Rattle.wt_called_edit_laws.specs.LinedCalling.{IsLinedCalling}
use Rattle.wt_called_edit_laws.specs.PlacedLines.{LinedBlock}
use Rattle.wt_called_edit_laws.specs.RowBlocks.{IsTextBlock, IsReachedAt}

-- A paragraph or heading of the page's tree at this path, outside of groups: it isn't tangled, is none of the excepted, and its content may be edited.
pub record IsEditableAt (pages : Pages) (page : List ℕ) (p : List ℕ) (t : Tree) : Type 0 where
  pub reached : IsReachedAt p (called_tree pages page) t
  pub block : IsTextBlock (label t).kind
  pub untangled : is_tangled (expanded_page pages page) page t ≡ false
  pub unexcepted : IsExceptedCalling pages page t → ⊥
  pub editable : IsEditableNode pages t

-- at each of these paths is one
abbrev pub EachEditable : Pages → List ℕ → List (List ℕ) → Type 0
EachEditable pages page ps = AllByRecursion (λ p. (t : Tree) × IsEditableAt pages page p t) ps

-- Some blocks are told by the lines of the expanded page, their contents may be edited at their paths, and each of these paths is one of theirs.
pub record TakeThere (pages : Pages) (page : List ℕ) (ps : List (List ℕ)) : Type 0 where
  pub bs : List LinedBlock
  pub behind : List (List Item)
  pub lined : IsLinedCalling pages page bs behind
  pub taken : TakesContentsIn pages (spots_of_lines pages page bs) (end_of_lines pages page bs behind)
  pub there : AllByRecursion (λ p. IsOneOf p taken.paths) ps
