-- The same without marks, as a browser sends it.
use Rattle.std.specs.Prelude.{◌≡◌, ℕ, ◌≤◌, List, length, Option, Some}
use Rattle.wt_span.specs.declared.limits.TheConstants.{HTML_BYTES, PAGE_BYTES}
use Rattle.wt_devices.specs.Device.{Pages}
use Rattle.wt_tree.specs.Tree.{Label, Tree, label}
use Rattle.wt_schema.specs.Read.{page as as_page, read}
use Rattle.wt_checks.specs.Kept.{children}
use Rattle.wt_commands.specs.UnmarkedEdits.{DoneByEdit}
use Rattle.wt_typed_blocks.specs.Sent.{Sents}
use Rattle.wt_typed_blocks.specs.Unmarked.{free_body, AreToldApart}
use Rattle.wt_text_edit_laws.specs.Parts.{part_tree}
use Rattle.wt_called_edit_laws.specs.CellEdits.{CellPage, page_with, new_page, IsCellEdit, LeadsFrom}

-- the edited tree: whatever marks are on the paragraph in which the text was typed, and on the body
abbrev pub unmarked_page : CellPage → Sents → Label → Tree
unmarked_page c ss b = free_body (label (part_tree (page_with c c.text))) b ss

-- The text that was typed is another one than what the paragraph held.
pub record IsUnmarkedCellEdit (c : CellPage) (path text : List ℕ) (ss : Sents) : Type 0 where
  pub edit : IsCellEdit c path text ss
  pub apart : AreToldApart ss

-- The paragraph is at a path at which any other text may be typed: `edit` of the difference is done.
pub record TakesUnmarked (c : CellPage) : Type 0 where
  pub path : List ℕ
  pub leads : LeadsFrom path (children (part_tree (page_with c c.text)))
  pub takes : (pages : Pages) (stands : Option (List ℕ)) (input : List ℕ) (b : Label) (unsourced : Option ℕ) (text : List ℕ) (ss : Sents)
      → IsUnmarkedCellEdit c path text ss → stands ≡ Some (page_with c c.text) → length (page_with c c.text) ≤ PAGE_BYTES
      → length (new_page c text) ≤ PAGE_BYTES → length input ≤ HTML_BYTES → read input ≡ as_page (unmarked_page c ss b) unsourced
      → DoneByEdit pages stands input
