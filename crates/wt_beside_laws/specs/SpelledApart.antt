-- What is written for a paragraph or a heading in which texts were typed makes nothing but what was typed, beside the nodes that stay.
use Rattle.std.specs.Prelude.{◌≡◌, ℕ, false, List, []}
use Rattle.std.specs.List.{AllByRecursion}
use Rattle.wt_span.specs.Items.{Item}
use Rattle.wt_tree.specs.Plain.{Plains, plain_before}
use Rattle.wt_tree.specs.Tree.{Label, Tree}
use Rattle.wt_expand.specs.PageItems.{page_items}
use Rattle.wt_guards.specs.Guards.{Setting, spelled}
use Rattle.wt_lines.specs.Lines.{lines}
use Rattle.wt_quotes.specs.Toggles.{is_odd, toggles_of}
use Rattle.wt_tiles.specs.Contexts.{in_line}
use Rattle.wt_context.specs.Chunks.{chunks}
use Rattle.wt_context.specs.Line.{context_parts}
use Rattle.wt_context.specs.Nodes.{segments}
use Rattle.wt_part_laws.specs.Standing.{standing}
use Rattle.wt_typed_blocks.specs.Edited.{Pieces, edited_before}
use Rattle.wt_text_edit_laws.specs.TextBlocks.{TextBlock, block_tree}
use Rattle.wt_beside_laws.specs.Content.{content_items}
use Rattle.wt_beside_laws.specs.ContentEdits.{content_edit, new_content}
use Rattle.wt_beside_laws.specs.FlatBlocks.{sent_for}
use Rattle.wt_beside_laws.specs.Styled.{signs_in}

-- of a line, outside of its forms: the numbers of bold and of italic toggles are even, so no run of apostrophes is exchanged
pub record HasEvenToggles (line : List Item) : Type 0 where
  pub bold : is_odd (λ t. t.bold) (toggles_of (chunks (segments context_parts in_line line))) ≡ false
  pub italic : is_odd (λ t. t.italic) (toggles_of (chunks (segments context_parts in_line line))) ≡ false

-- The new content of this block, for which these pieces are sent. It is what was sent, as it is spelled. Its items are those of each node that stays by
-- itself, of the texts the characters and references, and the nowikis that are put: no lexeme goes over from one into the other, and what is typed
-- makes none but references. On each of its lines the toggles are even in number. And read again, as a block of its kind, it shows what was sent.
pub record IsSpelledApart (k : TextBlock) (block : Tree) (m : Label) (ps : Pieces) : Type 0 where
  pub setting : Setting
  pub is : new_content k block m ps ≡ spelled setting (signs_in (sent_for block ps))
  pub items : page_items (new_content k block m ps) ≡ content_items setting [] (signs_in (sent_for block ps))
  pub toggles : AllByRecursion HasEvenToggles (lines (page_items (new_content k block m ps)))
  pub shows : (rest : Plains) → plain_before (standing 0 [] (block_tree k (new_content k block m ps))) rest ≡ edited_before (content_edit k block m ps) rest
