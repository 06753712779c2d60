-- Rows: the lines of a page as blocks take them. A row knows what comes before its first sign and what ends it. A rule and the end of
-- a table make a row of their own where something is seen after them on their line, and a table that no line ends is ended after
-- the last line.
use Rattle.std.specs.Prelude.{ℕ, ◌==◌, Bool, List, [], ◌∷◌, ◌++◌, map, take, drop, replicate, if◌then◌else◌}
use Rattle.std.specs.List.{flat_map, prefix_len}
use Rattle.wt_span.specs.Items.{Item, sign, is_mark}
use Rattle.wt_span.specs.Characters as byte
use Rattle.wt_lines.specs.declared.kind.LineKind.{LineKind}
use Rattle.wt_lines.specs.declared.kind.LineKind.TheVariants as line
use Rattle.wt_lines.specs.Kinds.{is_idle, is_idle_all}
use Rattle.wt_lines.specs.Lines.{full_lines, content}
use Rattle.wt_tables.specs.Extents.{behind}
use Rattle.wt_page.specs.Lines.{kind_at, ending}

-- What a row is; what comes before the block that begins there (marks, and before a sign of a table blanks too); the row itself; and
-- what ends it, which lies outside a block that ends there (its line break, and after a rule or a table blanks and marks too).
pub record Row : Type 0 where
  pub kind : LineKind
  pub lead : List Item
  pub items : List Item
  pub ending : List Item

abbrev pub row_items : Row → List Item
row_items r = r.lead ++ (r.items ++ r.ending)

abbrev pub all_items : List Row → List Item
all_items rs = flat_map row_items rs

-- ---- the rows of a line

abbrev pub signs : List Item → List ℕ
signs xs = map sign xs

-- how many marks are at the front, and how many marks and blanks
abbrev pub marks_len : List Item → ℕ
marks_len xs = prefix_len is_mark xs

abbrev pub idle_len : List Item → ℕ
idle_len xs = prefix_len is_idle (signs xs)

-- a line, of which so many items come before its first sign
abbrev pub whole_row : LineKind → ℕ → List Item → Row
whole_row k lead l = record { kind = k; lead = take lead l; items = content (drop lead l); ending = ending (drop lead l) }

-- the first so many items of a line are the lead, and so many more a sign that is a row by itself, with this end
abbrev pub sign_row : LineKind → ℕ → ℕ → List Item → List Item → Row
sign_row k lead len l end = record { kind = k; lead = take lead l; items = take len (drop lead l); ending = end }

abbrev pub behind_sign : ℕ → ℕ → List Item → List Item
behind_sign lead len l = drop len (drop lead l)

-- nothing is seen there but blanks
abbrev pub is_unseen : List Item → Bool
is_unseen xs = is_idle_all (signs (content xs))

-- What comes after a sign ends its row where nothing is seen there, and else it is a row of text.
abbrev pub sign_rows : LineKind → ℕ → ℕ → List Item → List Row
sign_rows k lead len l =
    let rest = behind_sign lead len l in
    if is_unseen rest then sign_row k lead len l rest ∷ []
    else sign_row k lead len l [] ∷ whole_row line.Text (marks_len rest) rest ∷ []

-- how many `-` are at the front
abbrev pub dashes : List Item → ℕ
dashes xs = prefix_len (λ s. s == byte.hyphen) (signs xs)

-- The table of rows: a blank line is a row without lead and end, `|}` and the run of `-` of a rule are signs.
abbrev pub line_rows : LineKind → List Item → List Row
line_rows line.Blank l = record { kind = line.Blank; lead = []; items = l; ending = [] } ∷ []
line_rows line.TableOpen l = whole_row line.TableOpen (idle_len l) l ∷ []
line_rows line.TableEnd l = sign_rows line.TableEnd (idle_len l) 2 l
line_rows line.Caption l = whole_row line.Caption (idle_len l) l ∷ []
line_rows line.Row l = whole_row line.Row (idle_len l) l ∷ []
line_rows line.Cell l = whole_row line.Cell (idle_len l) l ∷ []
line_rows line.Header l = whole_row line.Header (idle_len l) l ∷ []
line_rows line.Heading l = whole_row line.Heading (marks_len l) l ∷ []
line_rows line.Rule l = sign_rows line.Rule (marks_len l) (dashes (drop (marks_len l) l)) l
line_rows line.List l = whole_row line.List (marks_len l) l ∷ []
line_rows line.Pre l = whole_row line.Pre (marks_len l) l ∷ []
line_rows line.Text l = whole_row line.Text (marks_len l) l ∷ []

-- ---- the rows of a page

-- the end of a table that no line ends
abbrev pub unwritten_end : Row
unwritten_end = record { kind = line.TableEnd; lead = []; items = []; ending = [] }

-- the rows of lines, at the first of which so many tables are open
abbrev pub rows_from : ℕ → List (List Item) → List Row
rows_from tables [] = replicate tables unwritten_end
rows_from tables (l ∷ ls) = line_rows (kind_at tables l) l ++ rows_from (behind tables (kind_at tables l)) ls

unfoldable pub rows : List Item → List Row
rows xs = rows_from 0 (full_lines xs)

-- ---- several rows

abbrev pub kind_of : Row → LineKind
kind_of r = r.kind

abbrev pub first_lead : List Row → List Item
first_lead [] = []
first_lead (r ∷ rs) = r.lead

abbrev pub last_ending : List Row → List Item
last_ending [] = []
last_ending (r ∷ []) = r.ending
last_ending (r ∷ s ∷ rs) = last_ending (s ∷ rs)
