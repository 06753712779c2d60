-- A paragraph or a heading of the page for which one with another content is sent: what is written for it.
use Rattle.std.specs.Prelude.{◌≡◌, ℕ, None, List, []}
use Rattle.wt_tree.specs.Plain.{Plains, plain_before}
use Rattle.wt_tree.specs.Tree.{Label, Tree, label}
use Rattle.wt_content.specs.Content.{bad_content}
use Rattle.wt_link_spelling.specs.Spelling.{inline_spelling}
use Rattle.wt_visible.specs.SameNodes.{same_node}
use Rattle.wt_part_laws.specs.Standing.{standing}
use Rattle.wt_typed_blocks.specs.Edited.{Pieces, Edited, edited, page_node, sent_node, edited_before}
use Rattle.wt_typed_blocks.specs.EditedPage.{edited_source}
use Rattle.wt_typed_blocks.specs.EditedUnmarked.{AreInline}
use Rattle.wt_typed_blocks.specs.Typed.{place_of}
use Rattle.wt_text_edit_laws.specs.Contents.{IsNewContent}
use Rattle.wt_text_edit_laws.specs.TextBlocks.{TextBlock, block_of, source_of, block_tree}

-- it is sent with this label, and these pieces are its content
abbrev pub content_edit : TextBlock → Tree → Label → Pieces → Edited
content_edit k block m ps = edited (block_of k) (label block) m ps

-- the new content, as it is spelled
abbrev pub new_content : TextBlock → Tree → Label → Pieces → List ℕ
new_content k block m ps =
    let e : Edited = content_edit k block m ps in inline_spelling same_node (page_node e) (sent_node e) (place_of (block_of k))

-- It is taken: nothing is wrong in it, what is written may stand in the place of the content q, the block is its delimiters and this between them,
-- and shows what was sent; what stays in it is inline.
pub record MakesContent (k : TextBlock) (q : List ℕ) (block : Tree) (m : Label) (ps : Pieces) : Type 0 where
  pub taken : bad_content same_node (page_node (content_edit k block m ps)) (sent_node (content_edit k block m ps)) ≡ None
  pub new : IsNewContent k q (new_content k block m ps)
  pub source : edited_source same_node (content_edit k block m ps) ≡ source_of k (new_content k block m ps)
  pub shows : (rest : Plains) → edited_before (content_edit k block m ps) rest ≡ plain_before (standing 0 [] (block_tree k (new_content k block m ps))) rest
  pub inline : AreInline ps
