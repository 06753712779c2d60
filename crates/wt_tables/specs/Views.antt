-- What the code's values stand for, and the words of its steps.
use Rattle.std.specs.Prelude.{◌<◌, ◌≤◌, ◌-◌, ◌⊎◌, ◌++◌, All, length, map, slice_index, ◌&&◌, not, Bool, codes, ℕ, zero, suc, Option, Some, None, List, [], ◌∷◌, if◌then◌else◌}
use Rattle.wt_span.specs.declared.form.Piece.{Piece}
use Rattle.wt_span.specs.Bytes.{begins}
use Rattle.wt_span.specs.Items.{Item, sign, items, items_of}
use Rattle.wt_span.specs.Origins.{IsSoundPiece}
use Rattle.wt_tables.specs.declared.cursor.Cursor.{Cursor}
use Rattle.wt_lines.specs.declared.sign.LineSign.{LineSign}
use Rattle.wt_lines.specs.Signs.{number}
use Rattle.wt_tables.specs.declared.scan.Splits.{Splits}
use Rattle.wt_tables.specs.Cells.{splits}

-- ---- cells

-- signs in code by their numbers
abbrev pub numbers : List LineSign → List ℕ
numbers ss = map number ss

-- how many items the first cell has, of whose sign `n` items are at the front
abbrev pub first_len : Splits → ℕ → List ℕ → ℕ
first_len by n [] = 0
first_len by (suc n) (s ∷ ss) = suc (first_len by n ss)
first_len by zero (s ∷ ss) = if splits by (s ∷ ss) then 0 else suc (first_len by zero ss)

-- a single `|` is at the front, where one comes before it or not
abbrev pub begins_single : Bool → List ℕ → Bool
begins_single bar ss = not bar && (begins (codes "|") ss && not (begins (codes "||") ss))

-- ---- pieces, taken from the front

abbrev pub first_items : Option Piece → List Item
first_items None = []
first_items (Some p) = items_of p

abbrev pub waiting : Cursor → List Item
waiting c = first_items c.first ++ items c.pieces.now

abbrev pub IsSoundFirst : Option Piece → Type 0
IsSoundFirst None = Unit {0}
IsSoundFirst (Some p) = IsSoundPiece p

pub record AreSound (c : Cursor) : Type 0 where
  pub first : IsSoundFirst c.first
  pub others : All IsSoundPiece c.pieces.now

-- a cut has an ASCII character beside it, or nothing
abbrev pub IsLowCut : ℕ → List Item → Type 0
IsLowCut n xs = 0 < n → n < length xs → (slice_index (map sign xs) (n - 1) < 128) ⊎ (slice_index (map sign xs) n < 128)

-- a sign of `n` items is at the front, the last of them in ASCII
pub record HasSign (n : ℕ) (ss : List ℕ) : Type 0 where
  pub some : 0 < n
  pub within : n ≤ length ss
  pub low : slice_index ss (n - 1) < 128
