-- Texts of paragraphs and headings of a page become other ones: by what the tree of the new page differs from that of the old one.
use Rattle.std.specs.Prelude.{ℕ, ◌+◌, List, [], ◌∷◌, ◌++◌, length}
use Rattle.wt_tree.specs.Tree.{Tree}
use Rattle.wt_inline.specs.ItemTree.{ItemTree, forest}
use Rattle.wt_checks.specs.Kept.{children}
use Rattle.wt_expand.specs.PageItems.{page_items}
use Rattle.wt_annotated.specs.Numbering.{count_all}
use Rattle.wt_annotated.specs.WithoutCalls.{placed, all_placed}
use Rattle.wt_inside_laws.specs.Replaced.{Edit}
use Rattle.wt_part_laws.specs.Standing.{standing}
use Rattle.wt_text_edit_laws.specs.TextBlocks.{TextBlock, source_of, block_tree}
use Rattle.wt_text_edit_laws.specs.BlockSpots.{BlockSpot, spots_source, page_blocks}
use Rattle.wt_text_edit_laws.specs.BlockEdits.{SpotEdit, BlockEdit, new_text}

-- ---- the page

-- What comes before a paragraph or heading: the spots before its own, and what is between them and it.
pub record Place : Type 0 where
  pub spots : List BlockSpot
  pub before : List ℕ

abbrev pub source_before : Place → List ℕ
source_before p = spots_source p.spots p.before

-- the spots of a page that has a block with this text there, and these spots after it
abbrev pub spots_with : Place → TextBlock → List ℕ → List BlockSpot → List BlockSpot
spots_with p k text further = p.spots ++ record { before = p.before; block = k; text = text } ∷ further

-- the page itself, in which this comes after the last spot
abbrev pub page_with : Place → TextBlock → List ℕ → List BlockSpot → List ℕ → List ℕ
page_with p k text further behind = spots_source (spots_with p k text further) behind

-- ---- one text

-- how many nodes of these blocks have a number
abbrev pub numbered : List ItemTree → ℕ
numbered ts = count_all (all_placed [] (forest ts))

-- The number of the block: those of all nodes before it come first.
abbrev pub number_at : Place → ℕ
number_at p = 1 + numbered (page_blocks p.spots p.before)

-- how many nodes in this block have one
abbrev pub numbered_inside : TextBlock → List ℕ → ℕ
numbered_inside k text = count_all (children (placed [] (block_tree k text)))

-- the block with this text as it is there, with its numbers and places
abbrev pub block_at : Place → TextBlock → List ℕ → Tree
block_at p k text = standing (number_at p) (page_items (source_before p)) (block_tree k text)

-- The text `new` is in this block where `old` was.
abbrev pub replaced_by : Place → TextBlock → List ℕ → List ℕ → Edit
replaced_by p k old new = record {
  number = number_at p;
  inside = children (block_at p k new);
  old_end = length (source_before p) + length (source_of k old);
  new_end = length (source_before p) + length (source_of k new);
  old_last = number_at p + numbered_inside k old;
  new_last = number_at p + numbered_inside k new;
}

-- ---- the texts of an edit

-- One after the other, after these spots. The last is replaced first, so before each of them everything is still as it was.
abbrev pub replaced_behind : List BlockSpot → List SpotEdit → List Edit
replaced_behind front [] = []
replaced_behind front (e ∷ es) =
    replaced_by (record { spots = front; before = e.spot.before }) e.spot.block e.spot.text (new_text e.spot.block e.typing e.spot.text)
    ∷ replaced_behind (front ++ e.spot ∷ []) es

abbrev pub all_replaced : BlockEdit → List Edit
all_replaced e = replaced_behind [] e.spots
