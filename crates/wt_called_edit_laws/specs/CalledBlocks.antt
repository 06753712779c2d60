-- A page with paragraphs and headings among any other lines and any calls.
use Rattle.std.specs.Prelude.{◌≡◌, ℕ, zero, suc, ◌+◌, List, [], ◌∷◌, map}
use Rattle.wt_span.specs.Items.{Item}
use Rattle.wt_expand.specs.Work.{Pages}
use Rattle.wt_expand.specs.PageCalls.{expanded_page}
use Rattle.wt_inline.specs.ItemTree.{ItemTree}
use Rattle.wt_page.specs.Body.{meaning}
use Rattle.wt_part_laws.specs.Frames.{Frames, trees_at, all_places, content, AreFrames}
use Rattle.wt_expand.specs.PageItems.{page_items}
use Rattle.wt_text_edit_laws.specs.BlockSpots.{BlockSpot, spots_source, AreContents}
use Rattle.wt_text_edit_laws.specs.ParagraphBetween.{body_with}
use Rattle.wt_part_laws.specs.Expanded.{part_items, calls_in}
use Rattle.wt_text_edit_laws.specs.NoCalls.{CallsNothing}
use Rattle.wt_text_edit_laws.specs.TextBlocks.{a_paragraph, block_items, block_tree}
use Rattle.wt_called_edit_laws.specs.Parts.{AreCalled}
use Rattle.wt_called_edit_laws.specs.Retyped.{AreRetyped}
use Rattle.wt_called_edit_laws.specs.ItemSpots.{ItemSpot, ArePlaced}

-- ---- the blocks among the page's items

-- where so many outermost calls come before them
abbrev pub spots_among : Pages → ℕ → List BlockSpot → List ItemSpot
spots_among pages k [] = []
spots_among pages k (s ∷ ss) =
    record { before = part_items pages k s.before; block = s.block; content = page_items s.text } ∷ spots_among pages (k + calls_in pages s.before) ss

-- the items behind the last
abbrev pub items_behind : Pages → ℕ → List BlockSpot → List ℕ → List Item
items_behind pages k [] behind = part_items pages k behind
items_behind pages k (s ∷ ss) behind = items_behind pages (k + calls_in pages s.before) ss behind

-- no block calls anything by itself
abbrev pub CallNothing : List BlockSpot → Type 0
CallNothing [] = Unit {0}
CallNothing (s ∷ ss) = CallsNothing (block_items s.block s.text) × CallNothing ss

-- No call goes over the end of a part, and none is in a block; each content is one that is read by itself; and by what the calls give, each block is a
-- block of its own, in the body, in a cell or in a caption.
pub record AreAmongCalls (pages : Pages) (ss : List BlockSpot) (behind : List ℕ) : Type 0 where
  pub called : AreCalled pages ss behind
  pub contents : AreContents ss
  pub calm : CallNothing ss
  pub placed : ArePlaced (spots_among pages 0 ss) (items_behind pages 0 ss behind)

-- ---- its meaning

-- the block with this number
abbrev pub tree_by : List BlockSpot → ℕ → ItemTree
tree_by [] i = block_tree a_paragraph []
tree_by (s ∷ ss) zero = block_tree s.block s.text
tree_by (s ∷ ss) (suc i) = tree_by ss i

-- the numbers of all
abbrev pub counted : List BlockSpot → List ℕ
counted [] = []
counted (s ∷ ss) = zero ∷ map suc (counted ss)

-- Whatever texts are typed in them, they are at the same places of the page's tree, in their order, and all else is the same.
pub record StandAmongCalls (pages : Pages) (ss : List BlockSpot) (behind : List ℕ) : Type 0 where
  pub frames : Frames
  pub of_cells : AreFrames frames content
  pub in_order : all_places frames ≡ counted ss
  pub means : (rs : List BlockSpot) → AreRetyped ss rs
      → meaning (expanded_page pages (spots_source rs behind)).items ≡ body_with (trees_at (tree_by rs) frames)
