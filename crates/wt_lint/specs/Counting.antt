-- What comes before a place of a page: whole lines, and the beginning of its own.
use Rattle.std.specs.Prelude.{◌≡◌, ℕ, ◌+◌, true, List, [], ◌∷◌, ◌++◌, length, reverse, slice_index, take}
use Rattle.wt_span.specs.Bytes.{is_break}
use Rattle.wt_lint.specs.Lines.{breaks, column_of, line_of}

-- nothing, or a text that ends with a line break
abbrev pub AreWhole : List ℕ → Type 0
AreWhole [] = Unit {0}
AreWhole (b ∷ bs) = is_break (slice_index (reverse (b ∷ bs)) 0) ≡ true

-- The lines that come before the line of a place, with their line breaks, one fewer than the number of its line; and what is
-- before the place on its line, which has no line break and is a byte shorter than the number of its column.
pub record CountsBack (page : List ℕ) (at : ℕ) : Type 0 where
  pub lines : List ℕ
  pub row : List ℕ
  pub joins : take at page ≡ lines ++ row
  pub whole : AreWhole lines
  pub line : breaks lines + 1 ≡ line_of page at
  pub unbroken : breaks row ≡ 0
  pub column : length row + 1 ≡ column_of page at
