-- What is in cells, as blocks by cases.
use Rattle.std.specs.Prelude.{◌≡◌, true, List, [], ◌∷◌}
use Rattle.std.specs.List.{AllByRecursion}
use Rattle.wt_tables.specs.Parts.{RowOf, TableOf, begins_part}
use Rattle.wt_page.specs.Rows.{Row}
use Rattle.wt_part_laws.specs.Blocks.{Block, AreBlocks}

-- a line of cells or of a caption, and after it rows that are blocks
abbrev pub HoldsBlocks : List Row → Type 0
HoldsBlocks [] = ⊥
HoldsBlocks (r ∷ rs) = (begins_part r.kind ≡ true) × (bs : List Block) × AreBlocks bs rs

-- each caption of a table, and each line of cells of its rows
pub record CellsHoldBlocks (t : TableOf Row) : Type 0 where
  pub captions : AllByRecursion HoldsBlocks t.captions
  pub rows : AllByRecursion (λ (r : RowOf Row). AllByRecursion HoldsBlocks r.cells) t.rows
