-- The stretches of a node of the nest, with those of the lists in it.
use Rattle.std.specs.Prelude.{ℕ, Bool, true, false, List}
use Rattle.wt_inline.specs.ItemTree.{plain}
use Rattle.wt_page.specs.Rows.{Row}
use Rattle.wt_page.specs.Stretches.{Stretch, enclosed}
use Rattle.wt_page.specs.Lists.{item_kind, list_kind, line_item, row_at}

-- whether it is an item, and whether a list in it begins at its own line
abbrev pub node_by : List Row → Bool → ℕ → ℕ → Bool → List Stretch → List Stretch
node_by rs false sign line own ss = enclosed (plain (list_kind sign)) ss
node_by rs true sign line true ss = enclosed (plain (item_kind sign)) ss
node_by rs true sign line false ss = line_item sign (row_at rs line) ss
