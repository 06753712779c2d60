-- Pieces, and how their lengths are counted in items.
use Rattle.std.specs.Prelude.{◌≡◌, ◌<◌, ◌⊎◌, ℕ, ◌&&◌, ◌||◌, Bool, true, false, not, Option, Some, None, List, [], ◌∷◌, length, take, drop, nat_lt, nat_le}
use Rattle.std.specs.List.{list_all, prefix_len, AllByRecursion}
use Rattle.wt_span.specs.declared.form.ItemForm.{ItemForm}
use Rattle.wt_span.specs.declared.form.ItemForm.TheVariants as form
use Rattle.wt_span.specs.declared.form.Piece.{Piece}
use Rattle.wt_span.specs.Slice.{bytes_of}
use Rattle.wt_span.specs.Bytes.{is_break}
use Rattle.wt_span.specs.Items.{Item, char, whole, is_mark, is_mark_form, items}
use Rattle.wt_span.specs.Characters as byte
use Rattle.wt_lines.specs.declared.line.Line.{Line}

-- the items of a line
abbrev pub line_items : Line → List Item
line_items l = items l.pieces

abbrev pub is_chars : ItemForm → Bool
is_chars form.Chars = true
is_chars f = false

-- ---- pieces that are parted at line breaks

abbrev pub no_break : List ℕ → Bool
no_break bs = list_all (λ b. not (is_break b)) bs

-- of characters: a line break alone, or some bytes without one
abbrev pub ArePartedBytes : List ℕ → Type 0
ArePartedBytes bs = (bs ≡ byte.line_break ∷ []) ⊎ ((0 < length bs) × (no_break bs ≡ true))

abbrev pub IsPartedBy : Bool → List ℕ → Type 0
IsPartedBy true bs = ArePartedBytes bs
IsPartedBy false bs = Unit {0}

abbrev pub IsParted : Piece → Type 0
IsParted p = IsPartedBy (is_chars p.form) (bytes_of p.text)

abbrev pub AllParted : List Piece → Type 0
AllParted ps = AllByRecursion IsParted ps

abbrev pub starts_break : List ℕ → Bool
starts_break [] = false
starts_break (b ∷ bs) = is_break b

-- a line break alone, of parted pieces
abbrev pub is_break_piece : Piece → Bool
is_break_piece p = is_chars p.form && starts_break (bytes_of p.text)

-- ---- runs of pieces

abbrev pub is_mark_piece : Piece → Bool
is_mark_piece p = is_mark_form p.form

-- so many pieces are the marks that are at the front
abbrev pub AreLeadingMarks : List Piece → ℕ → Type 0
AreLeadingMarks ps n = (take (prefix_len is_mark (items ps)) (items ps) ≡ items (take n ps)) ×
    (drop (prefix_len is_mark (items ps)) (items ps) ≡ items (drop n ps))

-- ---- cuts

-- how many items a piece holds
abbrev pub count_by : Bool → List ℕ → ℕ
count_by true bs = length bs
count_by false bs = 1

abbrev pub item_count : Piece → ℕ
item_count p = count_by (is_chars p.form) (bytes_of p.text)

-- a text may be cut before this item: it is no later byte of a character
abbrev pub begins_char : Option Item → Bool
begins_char None = true
begins_char (Some (char o b)) = nat_lt b 128 || nat_le 192 b
begins_char (Some (whole f o bs)) = true
