-- The same without marks, as a browser sends it.
use Rattle.std.specs.Prelude.{List}
use Rattle.wt_tree.specs.Tree.{Label, Tree, label}
use Rattle.wt_checks.specs.Kept.{children}
use Rattle.wt_typed_blocks.specs.Unmarked.{free_body, AreToldApart}
use Rattle.wt_text_edit_laws.specs.ProseTrees.{prose_body}
use Rattle.wt_text_edit_laws.specs.ProseEdits.{PassageEdit, old_passages, sent_children, all_sendings, IsProseEdit}

-- the edited tree: whatever marks are on the paragraphs in which texts were typed, and on the body
abbrev pub unmarked_prose : Label → List PassageEdit → Tree
unmarked_prose b es = let body = prose_body (old_passages es) in free_body (label body) b (sent_children (all_sendings es) (children body))

-- An edit of prose in which each text that was typed is another one than what its paragraph held.
pub record IsUnmarkedEdit (es : List PassageEdit) : Type 0 where
  pub edit : IsProseEdit es
  pub apart : AreToldApart (sent_children (all_sendings es) (children (prose_body (old_passages es))))
