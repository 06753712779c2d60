-- Any number of paragraphs and headings of a page, which may hold calls, where they are in it: in the body, in cells and in captions.
use Rattle.std.specs.Prelude.{◌≡◌, ℕ, None, List, [], ◌∷◌, ◌++◌}
use Rattle.std.specs.Str.{IsUtf8}
use Rattle.wt_span.specs.Items.{Item, sources}
use Rattle.wt_expand.specs.PageItems.{page_items}
use Rattle.wt_expand.specs.Work.{Pages}
use Rattle.wt_commands.specs.Answers.{refusal_of_page}
use Rattle.wt_text_edit_laws.specs.BlockSpots.{BlockSpot, spots_source}
use Rattle.wt_text_edit_laws.specs.NoCalls.{NonePairs}
use Rattle.wt_text_edit_laws.specs.PageCuts.{BeginsBreak, EndsThere}
use Rattle.wt_text_edit_laws.specs.SignParts.{IsLedTo}
use Rattle.wt_text_edit_laws.specs.TextBlocks.{block_items}
use Rattle.wt_called_edit_laws.specs.CallingBlocks.{AreContentsInFolder, spots_with_calls, items_past}
use Rattle.wt_called_edit_laws.specs.Covered.{HaveFreeBytes}
use Rattle.wt_called_edit_laws.specs.EditableBlocks.{AreEditableContents}
use Rattle.wt_called_edit_laws.specs.Groups.{called_tree}
use Rattle.wt_called_edit_laws.specs.Parts.{all_left}
use Rattle.wt_called_edit_laws.specs.PlacedAmong.{Stand}

-- ---- where the page's items are cut

-- Items of a page from a place on, where calls are characters: those of what is before a block, those that the block has by itself, and others.
pub record IsCutAt (s : BlockSpot) (zs : List Item) : Type 0 where
  pub before : List Item
  pub rest : List Item
  pub is : zs ≡ before ++ (block_items s.block s.text ++ rest)
  pub source : sources before ≡ s.before

-- A block begins behind a line break, and behind it comments or tags, a paragraph behind the sign of a table's end, too; and it ends where its line ends.
abbrev pub AreFurtherCutsAt : List BlockSpot → List ℕ → List Item → Type 0
AreFurtherCutsAt [] behind zs = EndsThere behind
AreFurtherCutsAt (s ∷ ss) behind zs = (c : IsCutAt s zs) × IsLedTo s.before s.block s.text × BeginsBreak s.before × AreFurtherCutsAt ss behind c.rest

-- The first may begin where the page begins. There is one at least.
abbrev pub AreCutsAt : List BlockSpot → List ℕ → Type 0
AreCutsAt [] behind = ⊥
AreCutsAt (s ∷ ss) behind = (c : IsCutAt s (page_items (spots_source (s ∷ ss) behind))) × IsLedTo s.before s.block s.text × AreFurtherCutsAt ss behind c.rest

-- ---- the page

-- The page's items, where calls are characters, are cut at each block, and no call goes over the end of a part. Each block is a content in this folder
-- that may be edited, with its calls or without, and by what the calls give it is in the body, in a cell or in a caption, and no other text is beside a
-- paragraph. Each has a byte that no group of the page's tree has; and the page isn't refused.
pub record IsPlacedCalling (pages : Pages) (ss : List BlockSpot) (behind : List ℕ) : Type 0 where
  pub utf8 : IsUtf8 (spots_source ss behind)
  pub cuts : AreCutsAt ss behind
  pub contents : AreContentsInFolder pages ss
  pub editable : AreEditableContents pages ss
  pub apart : NonePairs (all_left ss behind)
  pub stand : Stand (spots_with_calls pages 0 ss) (items_past pages 0 ss behind)
  pub unrefused : refusal_of_page pages (spots_source ss behind) ≡ None
  pub free : HaveFreeBytes 0 ss (called_tree pages (spots_source ss behind))
