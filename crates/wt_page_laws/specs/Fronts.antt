-- Marks at the front of items, and line breaks that are pieces of their own.
use Rattle.std.specs.Prelude.{◌≡◌, ℕ, ◌+◌, ◌≤◌, Bool, cond, true, false, List, [], ◌∷◌, length, take, drop}
use Rattle.std.specs.List.{AllByRecursion}
use Rattle.wt_span.specs.Bytes.{is_break}
use Rattle.wt_span.specs.Items.{Item, is_mark, is_char_in, items, items_of}
use Rattle.wt_span.specs.declared.form.Piece.{Piece}
use Rattle.wt_lines.specs.Pieces.{is_break_piece}

-- the first item, if there is one, is no mark
abbrev pub BeginsUnmarked : List Item → Type 0
BeginsUnmarked [] = Unit {0}
BeginsUnmarked (x ∷ xs) = is_mark x ≡ false

-- all items of the first pieces are marks, and the next item is none
pub record AreMarksInFront (ps : List Piece) (n : ℕ) : Type 0 where
  pub marks : AllByRecursion (λ x. is_mark x ≡ true) (items (take n ps))
  pub others : BeginsUnmarked (items (drop n ps))

abbrev pub how_many : {X : Type 0} → (X → Bool) → List X → ℕ
how_many p [] = 0
how_many p (x ∷ xs) = cond (p x) 1 0 + how_many p xs

-- as many line breaks as there are pieces of one line break, and no piece is empty
pub record BreaksStandAlone (ps : List Piece) : Type 0 where
  pub breaks : how_many (λ x. is_char_in is_break x) (items ps) ≡ how_many is_break_piece ps
  pub alone : AllByRecursion (λ p. is_break_piece p ≡ true → length (items_of p) ≡ 1) ps
  pub some : AllByRecursion (λ p. 1 ≤ length (items_of p)) ps
