-- What is doubtful in a text. Places are counted from the page's start.
use Rattle.std.specs.Prelude.{ℕ, ◌+◌, ◌-◌, ◌==◌, ◌&&◌, ◌||◌, Bool, true, false, List, [], ◌∷◌, ◌++◌, length, slice_index, nat_lt, if◌then◌else◌}
use Rattle.std.specs.List.{prefix_len}
use Rattle.wt_annotated.specs.Slices.{slice}
use Rattle.wt_span.specs.Bytes.{is_blank}
use Rattle.wt_span.specs.Characters as byte
use Rattle.wt_lint.specs.Bytes.{suffix_len}
use Rattle.wt_lint.specs.Found.{Span}

-- these, where it is so
abbrev pub when : {A : Type 0} → Bool → List A → List A
when true xs = xs
when false xs = []

-- ---- runs of braces

-- the run of a byte that begins a text which is at this place, where it has two or more of them
abbrev pub run_at : ℕ → ℕ → List ℕ → List Span
run_at byte at bs = let n = prefix_len (λ b. b == byte) bs in when (nat_lt 1 n) ((at, at + n) ∷ [])

-- The whole runs of two or more of a byte: one begins where the byte is and isn't before it (`behind` says whether it is).
abbrev pub runs : ℕ → ℕ → Bool → List ℕ → List Span
runs byte at behind [] = []
runs byte at behind (b ∷ bs) = (if behind then [] else run_at byte at (b ∷ bs)) ++ runs byte (at + 1) (b == byte) bs

-- ---- brackets

-- each two of a byte that are side by side, from the left; none is taken twice
abbrev pub pairs : ℕ → ℕ → List ℕ → List Span
pairs byte at (b ∷ c ∷ bs) = if b == byte && c == byte then (at, at + 2) ∷ pairs byte (at + 2) bs else pairs byte (at + 1) (c ∷ bs)
pairs byte at bs = []

-- ---- ends of tables

-- only spaces and tabs come after the last line break, or in the whole text where it has none
abbrev pub is_front : List ℕ → Bool
is_front bs = let n = suffix_len is_blank bs in n == length bs || slice_index bs (length bs - 1 - n) == byte.line_break

-- the place is the first of its line, blanks apart, or of the paragraph that begins at `from`
abbrev pub stands_first : List ℕ → ℕ → ℕ → Bool
stands_first page from at = is_front (slice page from at)

-- `|}` begins the text
abbrev pub ends_table : List ℕ → Bool
ends_table bs = slice_index bs 0 == byte.vertical_bar && slice_index bs 1 == byte.closing_brace

-- the `|}` that begins a text which is at this place, where it is first
abbrev pub end_at : List ℕ → ℕ → ℕ → List ℕ → List Span
end_at page from at bs = when (ends_table bs && stands_first page from at) ((at, at + 2) ∷ [])

-- each `|}` that is first
abbrev pub table_ends : List ℕ → ℕ → ℕ → List ℕ → List Span
table_ends page from at [] = []
table_ends page from at (b ∷ bs) = end_at page from at (b ∷ bs) ++ table_ends page from (at + 1) bs
