-- Paragraphs and headings with their contents among items, which may come from calls.
use Rattle.std.specs.Prelude.{◌≡◌, ◌⊎◌, ℕ, Bool, List, [], ◌∷◌, ◌++◌, length}
use Rattle.wt_span.specs.Items.{Item}
use Rattle.wt_expand.specs.PageItems.{page_items}
use Rattle.wt_text_edit_laws.specs.BlockSpots.{BlockSpot, spots_source, AreRead}
use Rattle.wt_text_edit_laws.specs.Parts.{HasNoGroups}
use Rattle.wt_text_edit_laws.specs.TextBlocks.{TextBlock}
use Rattle.wt_called_edit_laws.specs.AnyBlocks.{open_behind_part, LeadsInto, past_break, BeginsAfter, EndsAfter}
use Rattle.wt_called_edit_laws.specs.CalledContents.{items_round, AreItemsOf, IsTextAnywhere}
use Rattle.wt_called_edit_laws.specs.StaysIn.{StaysIn}

-- a block with the items of its content, and those before it, behind the one before or at the page's start
pub record ItemSpot : Type 0 where
  pub before : List Item
  pub block : TextBlock
  pub content : List Item

-- and behind the last
abbrev pub placed_items : List ItemSpot → List Item → List Item
placed_items [] behind = behind
placed_items (s ∷ ss) behind = s.before ++ (items_round s.block s.content ++ placed_items ss behind)

-- ---- of a page without calls

abbrev pub items_of_spot : BlockSpot → ItemSpot
items_of_spot s = record { before = page_items s.before; block = s.block; content = page_items s.text }

abbrev pub items_of_spots : List BlockSpot → List ItemSpot
items_of_spots [] = []
items_of_spots (s ∷ ss) = items_of_spot s ∷ items_of_spots ss

-- ---- where they stand

-- as `AreParts`, which is asked of bytes
abbrev pub IsPlacedAt : List Bool → List Item → ItemSpot → Type 0
IsPlacedAt bs xs s = AreItemsOf s.block s.content × LeadsInto s.block bs xs × StaysIn s.block bs xs s.content

abbrev pub ArePlacedAfter : TextBlock → List Bool → List ItemSpot → List Item → Type 0
ArePlacedAfter last bs [] behind = EndsAfter last (length bs) behind
ArePlacedAfter last bs (s ∷ ss) behind =
    BeginsAfter last s.block bs s.before × IsPlacedAt bs (past_break s.before) s
    × ArePlacedAfter s.block (open_behind_part bs (past_break s.before)) ss behind

abbrev pub ArePlaced : List ItemSpot → List Item → Type 0
ArePlaced [] behind = ⊥
ArePlaced (s ∷ ss) behind = IsPlacedAt [] s.before s × ArePlacedAfter s.block (open_behind_part [] s.before) ss behind

-- ---- a page without calls

-- Paragraphs and headings with any contents, in its body, in cells and in captions. The page calls nothing, what begins before a block or in its
-- content ends there, and no node of the page can only be kept as a whole.
pub record AreContentSpots (ss : List BlockSpot) (behind : List ℕ) : Type 0 where
  pub read : AreRead ss behind
  pub placed : ArePlaced (items_of_spots ss) (page_items behind)
  pub ungrouped : HasNoGroups (spots_source ss behind)

-- ---- the same but for the contents

abbrev pub SameItems : List ItemSpot → List ItemSpot → Type 0
SameItems [] [] = Unit {0}
SameItems [] (r ∷ rs) = ⊥
SameItems (s ∷ ss) [] = ⊥
SameItems (s ∷ ss) (r ∷ rs) = (r.before ≡ s.before) × (r.block ≡ s.block) × SameItems ss rs

-- which are the same, or text anywhere
abbrev pub AreNewIn : List ItemSpot → List ItemSpot → Type 0
AreNewIn [] rs = Unit {0}
AreNewIn (s ∷ ss) [] = Unit {0}
AreNewIn (s ∷ ss) (r ∷ rs) = ((r.content ≡ s.content) ⊎ IsTextAnywhere r.block r.content) × AreNewIn ss rs

abbrev pub AreContentsIn : List ItemSpot → Type 0
AreContentsIn [] = Unit {0}
AreContentsIn (s ∷ ss) = AreItemsOf s.block s.content × AreContentsIn ss
