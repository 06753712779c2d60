-- What is written for a paragraph or heading with calls in it makes nothing but what was typed, beside the calls and the other nodes that stay.
use Rattle.std.specs.Prelude.{◌≡◌, ℕ, List, []}
use Rattle.std.specs.List.{AllByRecursion}
use Rattle.wt_span.specs.Origins.{OuterCall}
use Rattle.wt_tree.specs.Plain.{Plains, plain_before}
use Rattle.wt_tree.specs.Tree.{Label, Tree}
use Rattle.wt_annotated.specs.CutTexts.{cut_texts}
use Rattle.wt_guards.specs.Guards.{Setting, spelled}
use Rattle.wt_lines.specs.Lines.{lines}
use Rattle.wt_expand.specs.Work.{Pages}
use Rattle.wt_part_laws.specs.Expanded.{part_items}
use Rattle.wt_part_laws.specs.HeldCalls.{block_in}
use Rattle.wt_typed_blocks.specs.Edited.{Pieces, edited_before}
use Rattle.wt_text_edit_laws.specs.TextBlocks.{TextBlock}
use Rattle.wt_beside_laws.specs.Called.{items_with, owns_in}
use Rattle.wt_beside_laws.specs.ContentEdits.{content_edit, new_content}
use Rattle.wt_beside_laws.specs.FlatBlocks.{sent_for}
use Rattle.wt_beside_laws.specs.SpelledApart.{HasEvenToggles}
use Rattle.wt_beside_laws.specs.Styled.{signs_in}
use Rattle.wt_called_edit_laws.specs.CalledContents.{tree_round}

-- The new content of this block, for which these pieces are sent. It is what was sent, as it is spelled. However many calls come before it in the page, its
-- items are what each call gives, those of each other node by itself, of the texts the characters and references, and the nowikis that are put: no lexeme
-- goes over from one into the other, and what is typed makes none but references. On each of its lines the toggles are even in number. And read again, as
-- a block of its kind, it shows what was sent.
pub record IsSpelledBeside (pages : Pages) (k : TextBlock) (block : Tree) (m : Label) (ps : Pieces) : Type 0 where
  pub setting : Setting
  pub is : new_content k block m ps ≡ spelled setting (signs_in (sent_for block ps))
  pub items : (i : ℕ) → part_items pages i (new_content k block m ps)
      ≡ items_with setting [] (signs_in (sent_for block ps)) (owns_in pages i (signs_in (sent_for block ps)))
  pub toggles : (i : ℕ) → AllByRecursion HasEvenToggles (lines (part_items pages i (new_content k block m ps)))
  pub shows : (calls : List OuterCall) (i : ℕ) (rest : Plains)
      → plain_before (cut_texts (block_in calls (tree_round k (part_items pages i (new_content k block m ps))))) rest
      ≡ edited_before (content_edit k block m ps) rest
