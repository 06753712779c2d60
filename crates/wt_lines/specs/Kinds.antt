-- The kinds of lines, by the signs of their items: a character's byte, one number for any atom, another for any mark.
-- Signs of several characters are of neighbouring items, so that a mark parts them.
use Rattle.std.specs.Prelude.{ℕ, ◌==◌, ◌&&◌, ◌||◌, not, Bool, List, [], ◌∷◌, ◌++◌, Option, Some, None, map, length, drop, reverse, nat_lt, codes, if◌then◌else◌}
use Rattle.std.specs.Option.{unwrap_or}
use Rattle.wt_span.specs.Bytes.{is_blank, begins}
use Rattle.wt_span.specs.Items.{Item, sign}
use Rattle.wt_lines.specs.declared.kind.LineKind.{LineKind}
use Rattle.wt_lines.specs.declared.kind.LineKind.TheVariants as kind
use Rattle.wt_lines.specs.declared.kind.TheConstants.{MOST_TABLES}

-- the sign of any mark
abbrev pub is_mark_sign : ℕ → Bool
is_mark_sign s = s == 257

-- a space, a tab or a mark
abbrev pub is_idle : ℕ → Bool
is_idle s = is_blank s || is_mark_sign s

-- what is left from the first sign on that doesn't pass a test
abbrev pub past : (ℕ → Bool) → List ℕ → List ℕ
past test [] = []
past test (s ∷ ss) = if test s then past test ss else s ∷ ss

-- nothing visible but blanks
abbrev pub is_idle_all : List ℕ → Bool
is_idle_all ss = length (past is_idle ss) == 0

-- this word, and nothing else that is visible but blanks after it
abbrev pub is_alone : List ℕ → List ℕ → Bool
is_alone word ss = begins word ss && is_idle_all (drop (length word) ss)

-- the first is `=`, and so is the last; and it isn't `=` or `==` alone
abbrev pub is_heading : List ℕ → List ℕ → Bool
is_heading first last = begins (codes "=") first && (begins (codes "=") last && not (is_alone (codes "=") first || is_alone (codes "==") first))

-- `*`, `#`, `:` or `;`
abbrev pub is_list : List ℕ → Bool
is_list ss = begins (codes "*") ss || (begins (codes "#") ss || (begins (codes ":") ss || begins (codes ";") ss))

-- ---- the table of kinds

-- the kind of the first row whose condition holds
abbrev pub first_of : List (Bool × LineKind) → Option LineKind
first_of [] = None
first_of ((holds, k) ∷ rows) = if holds then Some k else first_of rows

-- a line that begins with `{|` opens a table, or is text where `MOST_TABLES` are open
abbrev pub open_kind : ℕ → LineKind
open_kind tables = if nat_lt tables MOST_TABLES then kind.TableOpen else kind.Text

-- the rows that count in a table alone, by the line from its first visible item on that is no blank
abbrev pub table_rows : List ℕ → List (Bool × LineKind)
table_rows sign =
    (begins (codes "|}") sign, kind.TableEnd)
    ∷ (begins (codes "|+") sign, kind.Caption)
    ∷ (begins (codes "|-") sign, kind.Row)
    ∷ (begins (codes "|") sign, kind.Cell)
    ∷ (begins (codes "!") sign, kind.Header)
    ∷ []

-- the last rows, by the line from its first visible item on, and by the line backwards from its last visible item that
-- is no blank
abbrev pub text_rows : List ℕ → List ℕ → List (Bool × LineKind)
text_rows first last =
    (is_heading first last, kind.Heading)
    ∷ (begins (codes "----") first, kind.Rule)
    ∷ (is_list first, kind.List)
    ∷ (begins (codes " ") first, kind.Pre)
    ∷ []

-- The whole table, where so many tables are open: by the line from its first visible item on that is no blank (`sign`), by
-- the line from its first visible item on (`first`), and by the line backwards from its last visible item that is no blank
-- (`last`).
abbrev pub rows : ℕ → List ℕ → List ℕ → List ℕ → List (Bool × LineKind)
rows tables sign first last =
    (length sign == 0, kind.Blank)
    ∷ (begins (codes "{|") sign, open_kind tables)
    ∷ ((if nat_lt 0 tables then table_rows sign else []) ++ text_rows first last)

-- the kind of a line with these signs
unfoldable pub kind_of_signs : ℕ → List ℕ → LineKind
kind_of_signs tables ss = unwrap_or (first_of (rows tables (past is_idle ss) (past is_mark_sign ss) (past is_idle (reverse ss)))) kind.Text

-- the kind of a line
abbrev pub line_kind : ℕ → List Item → LineKind
line_kind tables line = kind_of_signs tables (map sign line)
