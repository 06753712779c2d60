-- The same without marks, as a browser sends it.
use Rattle.wt_tree.specs.Tree.{Label, Tree, label}
use Rattle.wt_checks.specs.Kept.{children}
use Rattle.wt_typed_blocks.specs.Unmarked.{free_body, AreToldApart}
use Rattle.wt_text_edit_laws.specs.BlockEdits.{BlockEdit, old_tree, sendings, sent_children, IsBlockEdit}

-- the edited tree: whatever marks stand on the paragraphs and headings in which texts were typed, and on the body
abbrev pub unmarked_page : Label → BlockEdit → Tree
unmarked_page b e = free_body (label (old_tree e)) b (sent_children (sendings e) (children (old_tree e)))

-- Each text that was typed is another one than what its paragraph or heading held.
pub record IsUnmarkedBlockEdit (e : BlockEdit) : Type 0 where
  pub edit : IsBlockEdit e
  pub apart : AreToldApart (sent_children (sendings e) (children (old_tree e)))
