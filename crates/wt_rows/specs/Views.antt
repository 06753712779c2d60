-- What rows and stretches in code stand for: slices of the pieces of a page, by place. A place past the pieces is their end.
use Rattle.std.specs.Prelude.{◌≡◌, ℕ, ◌-◌, Bool, true, false, List, [], ◌∷◌, ◌++◌, map, take, drop}
use Rattle.wt_span.specs.declared.form.Piece.{Piece}
use Rattle.wt_span.specs.Items.{Item, items}
use Rattle.wt_inline.specs.ItemTree.{Head, ItemTree, inner, forest}
use Rattle.wt_inline.specs.Parts.{Part}
use Rattle.wt_inline.specs.Grown.{Grown, made}
use Rattle.wt_inline.specs.declared.tree.PieceTree.{PieceTree}
use Rattle.wt_inline.specs.View.{item_tree}
use Rattle.wt_rows.specs.declared.row.RowAt.{RowAt}
use Rattle.wt_rows.specs.declared.stretch.StretchAt.{StretchAt}
use Rattle.wt_rows.specs.declared.stretch.StretchAt.TheVariants as at
use Rattle.wt_page.specs.Rows.{Row}
use Rattle.wt_page.specs.Stretches.{Stretch, gap, tree_block, stretches_parts, before_end, end_gaps}

abbrev pub slice : ℕ → ℕ → List Piece → List Piece
slice from to ps = take (to - from) (drop from ps)

abbrev pub row_view : List Piece → RowAt → Row
row_view ps r = record { kind = r.kind; lead = items (slice r.start r.from ps); items = items (slice r.from r.to ps); ending = items (slice r.to r.end ps) }

abbrev pub rows_view : List Piece → List RowAt → List Row
rows_view ps rs = map (row_view ps) rs

-- ---- stretches

abbrev pub stretch_view : List Piece → StretchAt → Stretch
stretch_view ps (at.Gap from to) = gap (items (slice from to ps))
stretch_view ps (at.Tree t) = tree_block (item_tree t.value)

abbrev pub stretches_view : List Piece → List StretchAt → List Stretch
stretches_view ps ss = map (stretch_view ps) ss

abbrev pub is_gap_at : StretchAt → Bool
is_gap_at (at.Gap from to) = true
is_gap_at (at.Tree t) = false

-- A node with this head and open delimiter, which holds what was made so far and then stretches up to the last block, and the gaps
-- after it.
abbrev pub IsOpenedBy : Head → List Item → Grown → List Stretch → List Stretch → Type 0
IsOpenedBy h opening g ss result = result ≡ tree_block (inner h opening (forest (made g (stretches_parts (before_end ss)))) []) ∷ end_gaps ss

-- a node, before other stretches
abbrev pub IsBehindTree : PieceTree → List StretchAt → List StretchAt → Type 0
IsBehindTree t after result = (ps : List Piece) → stretches_view ps result ≡ tree_block (item_tree t) ∷ stretches_view ps after

-- of all parts that come after the first children these are left to come after the second
abbrev pub IsRest : Grown → List Part → Grown → List Part → Type 0
IsRest g all h left = (qs : List Part) → made h (left ++ qs) ≡ made g (all ++ qs)

-- these stretches are the node between what comes before the first of rows and what ends the last
abbrev pub IsBetween : ItemTree → RowAt → RowAt → List StretchAt → Type 0
IsBetween t first last ss = (ps : List Piece)
    → stretches_view ps ss ≡ gap (row_view ps first).lead ∷ tree_block t ∷ gap (row_view ps last).ending ∷ []
