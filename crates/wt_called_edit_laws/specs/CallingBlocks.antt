-- Paragraphs and headings that may hold calls, among any other lines and calls: their contents in a folder, and where they are in the page's tree.
use Rattle.std.specs.Prelude.{◌≡◌, ◌⊎◌, ℕ, zero, suc, List, [], ◌∷◌}
use Rattle.wt_span.specs.Items.{Item}
use Rattle.wt_inline.specs.ItemTree.{ItemTree}
use Rattle.wt_page.specs.Body.{meaning}
use Rattle.wt_part_laws.specs.Frames.{Frames, trees_at, all_places, content, AreFrames}
use Rattle.wt_expand.specs.Work.{Pages}
use Rattle.wt_expand.specs.PageCalls.{expanded_page}
use Rattle.wt_part_laws.specs.Expanded.{part_items, GivesAnywhere}
use Rattle.wt_part_laws.specs.MovedCalls.{AreMoved}
use Rattle.wt_text_edit_laws.specs.BlockSpots.{BlockSpot, spots_source}
use Rattle.wt_text_edit_laws.specs.ParagraphBetween.{body_with}
use Rattle.wt_text_edit_laws.specs.ReadContents.{IsReadContent}
use Rattle.wt_text_edit_laws.specs.TextBlocks.{TextBlock, a_paragraph, source_of, block_tree}
use Rattle.wt_called_edit_laws.specs.CalledBlocks.{counted}
use Rattle.wt_called_edit_laws.specs.CalledContents.{items_round, tree_round, AreItemsOf, StayText}
use Rattle.wt_called_edit_laws.specs.ItemSpots.{ItemSpot, ArePlaced}
use Rattle.wt_called_edit_laws.specs.Parts.{calls_to, calls_past, AreCalled}
use Rattle.wt_called_edit_laws.specs.Retyped.{IsPartAnew}

-- ---- a content in a folder

-- It is read by itself; what it gives doesn't hang on whether a line begins; its block is its delimiters and what it gives by itself; and by what its
-- calls give it is a content of such a block, however many calls come before it in the page.
pub record IsContentIn (pages : Pages) (k : TextBlock) (q : List ℕ) : Type 0 where
  pub read : IsReadContent k q
  pub anywhere : GivesAnywhere pages (source_of k q)
  pub items : (i : ℕ) → part_items pages i (source_of k q) ≡ items_round k (part_items pages i q)
  pub is : (i : ℕ) → AreItemsOf k (part_items pages i q)

-- In the place of an old one, whose calls it has, but for their places: it is a part of the page as that was, and each of its lines is text anywhere.
pub record IsNewContentIn (pages : Pages) (k : TextBlock) (was now : List ℕ) : Type 0 where
  pub part : IsPartAnew pages k was now
  pub content : IsContentIn pages k now
  pub calls : AreMoved (expanded_page pages (source_of k was)).outer (expanded_page pages (source_of k now)).outer
  pub stays : (i n : ℕ) → StayText k n (part_items pages i now)

abbrev pub AreContentsInFolder : Pages → List BlockSpot → Type 0
AreContentsInFolder pages [] = Unit {0}
AreContentsInFolder pages (s ∷ ss) = IsContentIn pages s.block s.text × AreContentsInFolder pages ss

-- the same blocks, some of them with such new contents
abbrev pub AreEdited : Pages → List BlockSpot → List BlockSpot → Type 0
AreEdited pages [] [] = Unit {0}
AreEdited pages [] (r ∷ rs) = ⊥
AreEdited pages (s ∷ ss) [] = ⊥
AreEdited pages (s ∷ ss) (r ∷ rs) =
    (r.before ≡ s.before) × (r.block ≡ s.block) × ((r.text ≡ s.text) ⊎ IsNewContentIn pages r.block s.text r.text) × AreEdited pages ss rs

-- ---- the blocks among the page's items

-- where so many outermost calls come before them, those in the blocks among them
abbrev pub spots_with_calls : Pages → ℕ → List BlockSpot → List ItemSpot
spots_with_calls pages k [] = []
spots_with_calls pages k (s ∷ ss) =
    record { before = part_items pages k s.before; block = s.block; content = part_items pages (calls_to pages k s) s.text }
    ∷ spots_with_calls pages (calls_past pages k s) ss

-- the items behind the last
abbrev pub items_past : Pages → ℕ → List BlockSpot → List ℕ → List Item
items_past pages k [] behind = part_items pages k behind
items_past pages k (s ∷ ss) behind = items_past pages (calls_past pages k s) ss behind

-- No call goes over the end of a part or of a block; and by what the calls give, each block is a block of its own, in the body, in a cell or in a
-- caption.
pub record AreCallingBlocks (pages : Pages) (ss : List BlockSpot) (behind : List ℕ) : Type 0 where
  pub called : AreCalled pages ss behind
  pub contents : AreContentsInFolder pages ss
  pub placed : ArePlaced (spots_with_calls pages 0 ss) (items_past pages 0 ss behind)

-- ---- its meaning

-- the block with this number
abbrev pub tree_with_calls : Pages → ℕ → List BlockSpot → ℕ → ItemTree
tree_with_calls pages k [] i = block_tree a_paragraph []
tree_with_calls pages k (s ∷ ss) zero = tree_round s.block (part_items pages (calls_to pages k s) s.text)
tree_with_calls pages k (s ∷ ss) (suc i) = tree_with_calls pages (calls_past pages k s) ss i

-- Whatever is written in them, with the calls that they hold, they are at the same places of the page's tree, in their order, and all else is the same.
pub record CallingBlocksStand (pages : Pages) (ss : List BlockSpot) (behind : List ℕ) : Type 0 where
  pub frames : Frames
  pub of_cells : AreFrames frames content
  pub in_order : all_places frames ≡ counted ss
  pub means : (rs : List BlockSpot) → AreEdited pages ss rs
      → meaning (expanded_page pages (spots_source rs behind)).items ≡ body_with (trees_at (tree_with_calls pages 0 rs) frames)
