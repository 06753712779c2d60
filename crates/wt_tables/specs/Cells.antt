-- The cells of a line, by the numbers of its signs (`sign`): that of a character is its byte.
use Rattle.std.specs.Prelude.{ℕ, zero, suc, ◌+◌, ◌-◌, ◌==◌, ◌&&◌, ◌||◌, not, Bool, true, false, Option, Some, None, List, [], ◌∷◌, ◌++◌, length, map, take, drop, slice_index, nat_lt, codes, if◌then◌else◌}
use Rattle.std.specs.List.{list_all, prefix_len, position_or_len, range_with_len}
use Rattle.wt_span.specs.Bytes.{is_blank, begins}
use Rattle.wt_span.specs.declared.form.ItemForm.{ItemForm}
use Rattle.wt_span.specs.declared.form.ItemForm.TheVariants as form
use Rattle.wt_span.specs.Items.{Item, char, whole as whole_item, sign}
use Rattle.wt_span.specs.Characters as byte
use Rattle.wt_lines.specs.Kinds.{is_idle}
use Rattle.wt_tables.specs.declared.scan.Splits.{Splits}
use Rattle.wt_tables.specs.declared.scan.Splits.TheVariants as split
use Rattle.wt_attributes.specs.Attributes.{Named, attributes}

abbrev pub signs : List Item → List ℕ
signs xs = map sign xs

-- ---- a line is cut into its cells

-- how many blanks and marks come before the first sign
abbrev pub lead_len : List Item → ℕ
lead_len xs = prefix_len is_idle (signs xs)

abbrev pub from_sign : List Item → List Item
from_sign xs = drop (lead_len xs) xs

-- What may split a line: `||`, and in a line of header cells `!!` too; nothing splits a caption.
-- A sign that begins a further cell is at the front.
abbrev pub splits : Splits → List ℕ → Bool
splits split.Cells ss = begins (codes "||") ss
splits split.Headers ss = begins (codes "||") ss || begins (codes "!!") ss
splits split.Nothing ss = false

abbrev pub splits_at : Splits → List Item → Bool
splits_at by xs = splits by (signs xs)

-- one item more in the first cell
abbrev pub onto : Item → List (List Item) → List (List Item)
onto x [] = (x ∷ []) ∷ []
onto x (p ∷ ps) = (x ∷ p) ∷ ps

-- The items from a sign on, cut before each further sign, from the left. Of a sign `n` items still are at the front.
abbrev pub parts : Splits → ℕ → List Item → List (List Item)
parts by n [] = [] ∷ []
parts by (suc n) (x ∷ xs) = onto x (parts by n xs)
parts by zero (x ∷ xs) = if splits_at by (x ∷ xs) then [] ∷ onto x (parts by 1 xs) else onto x (parts by zero xs)

-- ---- the inside of a cell

-- a `|` is at a place and none beside it
abbrev pub is_single : List ℕ → ℕ → Bool
is_single ss k = slice_index ss k == byte.vertical_bar && (not (nat_lt 0 k && slice_index ss (k - 1) == byte.vertical_bar) && not (slice_index ss (k + 1) == byte.vertical_bar))

-- the place of the first such one, or the length
unfoldable pub single_at : List ℕ → ℕ
single_at ss = position_or_len (is_single ss) (range_with_len 0 (length ss))

abbrev pub has_link : List ℕ → Bool
has_link [] = false
has_link (s ∷ ss) = begins (codes "[[") (s ∷ ss) || has_link ss

abbrev pub is_text_form : ItemForm → Bool
is_text_form form.Chars = true
is_text_form (form.Entity c) = true
is_text_form form.Nowiki = false
is_text_form form.Extension = false
is_text_form form.Function = false
is_text_form form.Comment = true
is_text_form form.Include = true
is_text_form form.Hidden = true
is_text_form form.EmptyCall = true

-- a character, an entity or a mark
abbrev pub is_text : Item → Bool
is_text (char o b) = true
is_text (whole_item f o bs) = is_text_form f

-- what may come before the `|` of attributes
abbrev pub is_plain : List Item → Bool
is_plain xs = list_all is_text xs && not (has_link (signs xs))

abbrev pub bar_by : ℕ → List Item → Option ℕ
bar_by k body = if nat_lt k (length body) && is_plain (take k body) then Some k else None

-- where attributes end: at the first single `|` after the cell's sign, if what comes before it may be attributes
unfoldable pub bar_at : List Item → Option ℕ
bar_at body = bar_by (single_at (signs body)) body

abbrev pub past_bar : Option ℕ → ℕ
past_bar None = 0
past_bar (Some k) = k + 1

abbrev pub attributes_by : Option ℕ → List Item → List Named
attributes_by None body = []
attributes_by (Some k) body = attributes (take k body)

-- a cell: its open delimiter (sign, attributes with their `|`, blanks), its attributes, and what is left
pub record Cell : Type 0 where
  pub header : Bool
  pub opening : List Item
  pub attrs : List Named
  pub rest : List Item

abbrev pub blanks_from : ℕ → List ℕ → ℕ
blanks_from n ss = n + prefix_len is_blank (drop n ss)

-- how many items the open delimiter has, after a sign of `n` items
abbrev pub opening_len : ℕ → List Item → ℕ
opening_len n part = blanks_from (n + past_bar (bar_at (drop n part))) (signs part)

-- the cell of these items, of which the first `n` are its sign
unfoldable pub cell_of : Bool → ℕ → List Item → Cell
cell_of header n part = record {
  header = header;
  opening = take (opening_len n part) part;
  attrs = attributes_by (bar_at (drop n part)) (drop n part);
  rest = drop (opening_len n part) part;
}

-- ---- the cells of a line

-- As a caption a line has one cell with the sign `|+`; else its sign is one item.
abbrev pub split_by : Bool → List ℕ → Splits
split_by true ss = split.Nothing
split_by false ss = if begins (codes "!") ss then split.Headers else split.Cells

abbrev pub header_by : Bool → List ℕ → Bool
header_by true ss = false
header_by false ss = begins (codes "!") ss

abbrev pub sign_len : Bool → ℕ
sign_len true = 2
sign_len false = 1

-- the first of these has a sign of `n` items, each further one of two
abbrev pub cells_in : Bool → ℕ → List (List Item) → List Cell
cells_in header n [] = []
cells_in header n (p ∷ ps) = cell_of header n p ∷ map (cell_of header 2) ps

abbrev pub cells_from : Bool → List Item → List Cell
cells_from caption ys = cells_in (header_by caption (signs ys)) (sign_len caption) (parts (split_by caption (signs ys)) (sign_len caption) ys)

-- the cells of a line, read as a caption or not
unfoldable pub cells : Bool → List Item → List Cell
cells caption xs = cells_from caption (from_sign xs)

-- after blanks and marks a line has the sign of a cell, or of a caption
abbrev pub begins_cell : Bool → List Item → Bool
begins_cell true xs = begins (codes "|+") (signs (from_sign xs))
begins_cell false xs = begins (codes "|") (signs (from_sign xs)) || begins (codes "!") (signs (from_sign xs))

-- all items of a cell
abbrev pub whole : Cell → List Item
whole c = c.opening ++ c.rest

-- ---- attributes of a table and of a row, by the line that opens it: after `{|`, and after all `-` of `|-`

abbrev pub is_dash : ℕ → Bool
is_dash s = s == byte.hyphen

abbrev pub row_sign_len : List ℕ → ℕ
row_sign_len ss = 1 + prefix_len is_dash (drop 1 ss)

unfoldable pub table_attributes : List Item → List Named
table_attributes xs = attributes (drop 2 (from_sign xs))

unfoldable pub row_attributes : List Item → List Named
row_attributes xs = attributes (drop (row_sign_len (signs (from_sign xs))) (from_sign xs))
