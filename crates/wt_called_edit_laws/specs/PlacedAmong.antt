-- Any number of paragraphs and headings of a page with calls where they are in it, by what its parts give: in the body, in cells and in captions.
use Rattle.std.specs.Prelude.{◌≡◌, ℕ, Bool, None, List, [], ◌∷◌, length}
use Rattle.std.specs.Str.{IsUtf8}
use Rattle.wt_span.specs.Items.{Item}
use Rattle.wt_expand.specs.PageItems.{page_items}
use Rattle.wt_expand.specs.Work.{Pages}
use Rattle.wt_commands.specs.Answers.{refusal_of_page}
use Rattle.wt_text_edit_laws.specs.BlockSpots.{BlockSpot, spots_source}
use Rattle.wt_text_edit_laws.specs.NoCalls.{NonePairs, CallsNothing}
use Rattle.wt_text_edit_laws.specs.PageCuts.{AreCuts, AreFree}
use Rattle.wt_text_edit_laws.specs.TextBlocks.{TextBlock, source_of}
use Rattle.wt_called_edit_laws.specs.AnyBlocks.{open_behind_part, LeadsInto, past_break, BeginsAfter, EndsAfter}
use Rattle.wt_called_edit_laws.specs.CalledBlocks.{spots_among, items_behind}
use Rattle.wt_called_edit_laws.specs.StaysIn.{StaysIn}
use Rattle.wt_called_edit_laws.specs.Covered.{AreInNoGroup}
use Rattle.wt_called_edit_laws.specs.Groups.{called_tree}
use Rattle.wt_called_edit_laws.specs.ItemSpots.{ItemSpot}
use Rattle.wt_called_edit_laws.specs.Parts.{all_left}

-- no block calls anything by itself
abbrev pub AreCalm : List BlockSpot → Type 0
AreCalm [] = Unit {0}
AreCalm (s ∷ ss) = CallsNothing (page_items (source_of s.block s.text)) × AreCalm ss

-- ---- where they stand, whatever they hold

abbrev pub StandAfter : TextBlock → List Bool → List ItemSpot → List Item → Type 0
StandAfter last bs [] behind = EndsAfter last (length bs) behind
StandAfter last bs (s ∷ ss) behind =
    BeginsAfter last s.block bs s.before × LeadsInto s.block bs (past_break s.before)
    × StaysIn s.block bs (past_break s.before) s.content
    × StandAfter s.block (open_behind_part bs (past_break s.before)) ss behind

abbrev pub Stand : List ItemSpot → List Item → Type 0
Stand [] behind = ⊥
Stand (s ∷ ss) behind =
    LeadsInto s.block [] s.before × StaysIn s.block [] s.before s.content × StandAfter s.block (open_behind_part [] s.before) ss behind

-- ---- the page

-- The page's items, where calls are characters, are cut at each block (`AreCuts`), and no call goes over the end of a part. No block calls anything,
-- none is tangled or holds a group, and no group of the page's tree has the first byte of one. By what the calls give each is in the body, in a cell
-- or in a caption, and no other text is beside a paragraph. The page isn't refused.
pub record IsPlacedAmong (pages : Pages) (ss : List BlockSpot) (behind : List ℕ) : Type 0 where
  pub utf8 : IsUtf8 (spots_source ss behind)
  pub cuts : AreCuts ss behind
  pub calm : AreCalm ss
  pub apart : NonePairs (all_left ss behind)
  pub free : AreFree ss
  pub stand : Stand (spots_among pages 0 ss) (items_behind pages 0 ss behind)
  pub unrefused : refusal_of_page pages (spots_source ss behind) ≡ None
  pub in_no_group : AreInNoGroup 0 ss (called_tree pages (spots_source ss behind))
