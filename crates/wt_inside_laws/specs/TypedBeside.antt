-- What is written for the marked blocks of a text edit, which may hold calls, makes nothing but what was typed.
use Rattle.std.specs.Prelude.{◌≡◌, ◌⊎◌}
use Rattle.wt_tree.specs.Tree.{label}
use Rattle.wt_expand.specs.Work.{Pages}
use Rattle.wt_link_spelling.specs.Spelling.{inline_spelling}
use Rattle.wt_slices.specs.Changes.{Pair}
use Rattle.wt_visible.specs.SameNodes.{same_node}
use Rattle.wt_typed_blocks.specs.Typed.{place_of}
use Rattle.wt_text_edit_laws.specs.TextBlocks.{TextBlock, block_of}
use Rattle.wt_beside_laws.specs.ContentEdits.{new_content}
use Rattle.wt_called_edit_laws.specs.SpelledBeside.{IsSpelledBeside}
use Rattle.wt_inside_laws.specs.AsSent.{pieces_for}
use Rattle.wt_inside_laws.specs.TypedApart.{IsTypedApart}

-- A marked block is a paragraph or heading. What is written in its place is the content in pieces, as it is spelled, and that makes nothing but what was
-- typed beside its calls.
pub record IsTypedBeside (pages : Pages) (p : Pair) : Type 0 where
  pub block : TextBlock
  pub written : inline_spelling same_node p.old p.new (place_of (block_of block)) ≡ new_content block p.old (label p.new) (pieces_for p)
  pub apart : IsSpelledBeside pages block p.old (label p.new) (pieces_for p)

-- a block that calls nothing, or one that may hold calls
abbrev pub IsTypedIn : Pages → Pair → Type 0
IsTypedIn pages p = IsTypedApart p ⊎ IsTypedBeside pages p
