-- What is written for the marked blocks of a text edit makes nothing but what was typed, beside the nodes that stay.
use Rattle.std.specs.Prelude.{◌≡◌, ℕ, List}
use Rattle.wt_tree.specs.Tree.{label}
use Rattle.wt_link_spelling.specs.Spelling.{inline_spelling}
use Rattle.wt_slices.specs.Changes.{Pair}
use Rattle.wt_visible.specs.SameNodes.{same_node}
use Rattle.wt_typed_blocks.specs.Typed.{place_of}
use Rattle.wt_text_edit_laws.specs.TextBlocks.{TextBlock, block_of, block_tree}
use Rattle.wt_beside_laws.specs.ContentEdits.{new_content}
use Rattle.wt_beside_laws.specs.SpelledApart.{IsSpelledApart}
use Rattle.wt_called_edit_laws.specs.EditsAt.{IsStanding}
use Rattle.wt_inside_laws.specs.AsSent.{pieces_for}

-- A marked block is this paragraph or heading, with this content. What is written in its place is the content in pieces, as it is spelled, and that
-- makes nothing but what was typed.
pub record IsTypedApart (p : Pair) : Type 0 where
  pub block : TextBlock
  pub text : List ℕ
  pub stands : IsStanding (block_tree block text) p.old
  pub written : inline_spelling same_node p.old p.new (place_of (block_of block)) ≡ new_content block p.old (label p.new) (pieces_for p)
  pub apart : IsSpelledApart block p.old (label p.new) (pieces_for p)
