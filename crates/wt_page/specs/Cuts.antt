-- How the pieces of a heading are cut.
use Rattle.std.specs.Prelude.{◌≡◌, ◌<◌, ◌+◌, ◌^◌, ℕ, true, All, List, length, take, drop, slice_get}
use Rattle.wt_span.specs.declared.form.Piece.{Piece}
use Rattle.wt_span.specs.Items.{Item, items, sources}
use Rattle.wt_span.specs.Origins.{IsSoundPiece}
use Rattle.wt_lines.specs.Pieces.{AllParted, begins_char}
use Rattle.wt_tiles.specs.Cutting.{IsEdgeIn}
use Rattle.wt_tree.specs.declared.kind.Kind.TheVariants as kind
use Rattle.wt_inline.specs.ItemTree.{plain, ItemTree, inner, forest}
use Rattle.wt_context.specs.Line.{line_trees}

-- sound pieces that are parted at line breaks, of fewer than 2^32 bytes
pub record AreReady (ps : List Piece) : Type 0 where
  pub parted : AllParted ps
  pub sound : All IsSoundPiece ps
  pub few : length (sources (items ps)) < 2 ^ 32

-- a heading of this level that is cut after so many items, and so many more
abbrev pub heading_by : ℕ → ℕ → ℕ → List Item → ItemTree
heading_by level open_len inside_len line =
    let rest = drop open_len line in
    inner (plain (kind.Heading level)) (take open_len line) (forest (line_trees (take inside_len rest))) (drop inside_len rest)

-- no character lies on both sides of a cut
abbrev pub IsOpenCut : ℕ → List Item → Type 0
IsOpenCut n xs = 0 < n → IsEdgeIn xs n

-- after the first so many items and so many more a character begins
abbrev pub IsInsideCut : ℕ → ℕ → List Item → Type 0
IsInsideCut n m xs = 0 < m → begins_char (slice_get xs (n + m)) ≡ true
