-- The blocks of a page by their numbers, and the page's tree with a place for each.
use Rattle.std.proofs.Common.{◌≡◌, ℕ, zero, suc, List, [], ◌∷◌}
use Rattle.wt_page.specs.Body.{meaning}
use Rattle.wt_part_laws.specs.Frames.{Frames, trees_at, all_places, content, AreFrames}
use Rattle.wt_text_edit_laws.specs.BlockSpots.{BlockSpot, SameRound, AreContents}
use Rattle.wt_text_edit_laws.specs.ParagraphBetween.{body_with}
use Rattle.wt_text_edit_laws.specs.TextBlocks.{TextBlock, a_paragraph}
use Rattle.wt_text_edit_laws.proofs.Blocks.BlockReading.{spots_items}
use Rattle.wt_text_edit_laws.proofs.Blocks.TypedBraces.{AreNewOver}
pub use Rattle.wt_called_edit_laws.specs.CalledBlocks.{tree_by, counted}

-- the block with this number, as a block
abbrev pub block_by : List BlockSpot → ℕ → TextBlock
block_by [] i = a_paragraph
block_by (s ∷ ss) zero = s.block
block_by (s ∷ ss) (suc i) = block_by ss i

-- Whatever their contents are, they are at the same places, in their order.
pub record Framed (ss : List BlockSpot) (behind : List ℕ) : Type 0 where
  pub frames : Frames
  pub of_cells : AreFrames frames content
  pub in_order : all_places frames ≡ counted ss
  pub means : (rs : List BlockSpot) → SameRound ss rs → AreContents rs → AreNewOver ss rs
      → meaning (spots_items rs behind) ≡ body_with (trees_at (tree_by rs) frames)
