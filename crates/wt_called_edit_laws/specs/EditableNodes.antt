-- Paragraphs and headings of a page's tree whose contents may be edited, with their calls or without.
use Rattle.std.specs.Prelude.{◌≡◌, ◌⊎◌, ℕ, List}
use Rattle.wt_tree.specs.Source.{flat}
use Rattle.wt_tree.specs.Tree.{Tree, label}
use Rattle.wt_expand.specs.Work.{Pages}
use Rattle.wt_typed_blocks.specs.Sent.{kind_of}
use Rattle.wt_text_edit_laws.specs.Contents.{IsContent}
use Rattle.wt_text_edit_laws.specs.NoCalls.{CallsNothing}
use Rattle.wt_text_edit_laws.specs.TextBlocks.{TextBlock, block_of, source_of, block_items}
use Rattle.wt_called_edit_laws.specs.CallingBlocks.{IsContentIn}
use Rattle.wt_called_edit_laws.specs.EditableBlocks.{HoldsCalls}

-- A content is read by itself and calls nothing, or it holds calls, and is one in this folder that may be edited.
abbrev pub IsEditable : Pages → TextBlock → List ℕ → Type 0
IsEditable pages k q = (IsContent k q × CallsNothing (block_items k q)) ⊎ (IsContentIn pages k q × HoldsCalls pages k q)

-- A paragraph or heading of a page has the source of such a block.
pub record IsEditableNode (pages : Pages) (t : Tree) : Type 0 where
  pub block : TextBlock
  pub text : List ℕ
  pub kind : kind_of (block_of block) ≡ (label t).kind
  pub source : flat t ≡ source_of block text
  pub content : IsEditable pages block text
