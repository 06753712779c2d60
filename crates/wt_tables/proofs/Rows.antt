-- Worked cases of the definitions, each by computing.
use Rattle.std.proofs.Common.{◌≡◌, ℕ, Bool, true, false, None, List, [], ◌∷◌, ◌++◌, map, refl}
use Rattle.std.specs.Prelude.{codes}
use Rattle.wt_span.specs.declared.form.ItemForm.TheVariants as form
use Rattle.wt_span.specs.Items.{Item, char, whole}
use Rattle.wt_tree.specs.declared.kind.AttrName.TheVariants as attr
use Rattle.wt_lines.specs.declared.kind.LineKind.{LineKind}
use Rattle.wt_lines.specs.declared.kind.LineKind.TheVariants as kind
use Rattle.wt_attributes.specs.Attributes.{Named, begins_any_case, name_at, quoted, bare, value_at, past_blanks, assigned, attribute_at, attributes}
use Rattle.wt_tables.specs.Extents.{inner_len}
use Rattle.wt_tables.specs.Cells.{Cell, single_at, bar_at, cell_of, cells, table_attributes, row_attributes}
use Rattle.wt_tables.specs.Parts.{RowOf, table_of}

abbrev text : List ℕ → List Item
text bs = map (char None) bs

-- ---- extents

-- how far a table goes, of the lines behind the one that opens it
five_lines : inner_len (kind.Header ∷ kind.Row ∷ kind.Cell ∷ kind.TableEnd ∷ []) ≡ 4
unfolding inner_len
five_lines = refl

-- a line that ends a table ends the inner one; a table that none ends goes on to the last line, blank ones too
unclosed : map inner_len ((kind.Cell ∷ kind.TableOpen ∷ kind.Cell ∷ kind.TableEnd ∷ kind.Blank ∷ []) ∷ (kind.Cell ∷ kind.TableEnd ∷ kind.Blank ∷ []) ∷ [])
    ≡ 5 ∷ 2 ∷ []
unfolding inner_len
unclosed = refl

nested : inner_len (kind.TableOpen ∷ kind.TableEnd ∷ kind.TableOpen ∷ kind.TableEnd ∷ kind.TableEnd ∷ kind.Text ∷ []) ≡ 5
unfolding inner_len
nested = refl

-- ---- cells

abbrev cell : Bool → List ℕ → List Named → List ℕ → Cell
cell header opening attrs rest = record { header = header; opening = text opening; attrs = attrs; rest = text rest }

-- `||` and, in a line of header cells, `!!` begin cells; `||` makes header cells there too
header_cells : map (λ bs. cells false (text bs)) (codes "! x !! y" ∷ codes "! a || b" ∷ []) ≡
    (cell true (codes "! ") [] (codes "x ") ∷ cell true (codes "!! ") [] (codes "y") ∷ [])
    ∷ (cell true (codes "! ") [] (codes "a ") ∷ cell true (codes "|| ") [] (codes "b") ∷ [])
    ∷ []
unfolding cells cell_of bar_at single_at begins_any_case name_at quoted bare value_at past_blanks assigned attribute_at attributes
header_cells = refl

-- `!!` doesn't split other lines, and blanks before the sign aren't handed on
plain_cells : map (λ bs. cells false (text bs)) (codes " \t| a || b" ∷ codes "| a !! b" ∷ codes "|" ∷ codes "| a||" ∷ []) ≡
    (cell false (codes "| ") [] (codes "a ") ∷ cell false (codes "|| ") [] (codes "b") ∷ [])
    ∷ (cell false (codes "| ") [] (codes "a !! b") ∷ [])
    ∷ (cell false (codes "|") [] [] ∷ [])
    ∷ (cell false (codes "| ") [] (codes "a") ∷ cell false (codes "||") [] [] ∷ [])
    ∷ []
unfolding cells cell_of bar_at single_at begins_any_case name_at quoted bare value_at past_blanks assigned attribute_at attributes
plain_cells = refl

-- a line that begins with `||` has one cell: its second `|` ends attributes that are empty; likewise the third of `|||`
bars : map (λ bs. cells false (text bs)) (codes "|| a" ∷ codes "| a ||| b" ∷ []) ≡
    (cell false (codes "|| ") [] (codes "a") ∷ [])
    ∷ (cell false (codes "| ") [] (codes "a ") ∷ cell false (codes "||| ") [] (codes "b") ∷ [])
    ∷ []
unfolding cells cell_of bar_at single_at begins_any_case name_at quoted bare value_at past_blanks assigned attribute_at attributes
bars = refl

-- as a caption a line isn't split, and none of three bars is single; as a cell it is split, and its text begins with `+`
captions : map (λ bs. cells true (text bs)) (codes "|+ a || b" ∷ codes "|+|||" ∷ codes "|+ class=c | a | b" ∷ []) ≡
    (cell false (codes "|+ ") [] (codes "a || b") ∷ [])
    ∷ (cell false (codes "|+") [] (codes "|||") ∷ [])
    ∷ (cell false (codes "|+ class=c | ") ((attr.Class, codes "c") ∷ []) (codes "a | b") ∷ [])
    ∷ []
unfolding cells cell_of bar_at single_at begins_any_case name_at quoted bare value_at past_blanks assigned attribute_at attributes
captions = refl

later_caption : cells false (text (codes "|+ a || b")) ≡ cell false (codes "|") [] (codes "+ a ") ∷ cell false (codes "|| ") [] (codes "b") ∷ []
unfolding cells cell_of bar_at single_at begins_any_case name_at quoted bare value_at past_blanks assigned attribute_at attributes
later_caption = refl

-- attributes end at the first single `|`, whatever stands before it but `[[`
cell_attributes : map (λ bs. cells false (text bs))
    (codes "| lang=de | a | b" ∷ codes "| x | b" ∷ codes "| [[a|b]]" ∷ codes "| a [[b || dir=rtl|[[c|d]]" ∷ []) ≡
    (cell false (codes "| lang=de | ") ((attr.Lang, codes "de") ∷ []) (codes "a | b") ∷ [])
    ∷ (cell false (codes "| x | ") [] (codes "b") ∷ [])
    ∷ (cell false (codes "| ") [] (codes "[[a|b]]") ∷ [])
    ∷ (cell false (codes "| ") [] (codes "a [[b ") ∷ cell false (codes "|| dir=rtl|") ((attr.Dir, codes "rtl") ∷ []) (codes "[[c|d]]") ∷ [])
    ∷ []
unfolding cells cell_of bar_at single_at begins_any_case name_at quoted bare value_at past_blanks assigned attribute_at attributes
cell_attributes = refl

-- a mark parts `||`, and an atom before a `|` leaves no attributes
abbrev remark : Item
remark = whole form.Comment None (codes "<!-- -->")

abbrev island : Item
island = whole form.Extension None (codes "<ref> class=x </ref>")

parted : map (λ xs. map (λ c. c.opening ∷ c.rest ∷ []) (cells false xs))
    ((text (codes "| a|") ++ remark ∷ text (codes "| b")) ∷ (text (codes "| a ") ++ island ∷ text (codes "| b")) ∷ []) ≡
    ((text (codes "| a|") ∷ (remark ∷ text (codes "| b")) ∷ []) ∷ [])
    ∷ ((text (codes "| ") ∷ (text (codes "a ") ++ island ∷ text (codes "| b")) ∷ []) ∷ [])
    ∷ []
unfolding cells cell_of bar_at single_at begins_any_case name_at quoted bare value_at past_blanks assigned attribute_at attributes
parted = refl

-- of a table and of a row the attributes are those of the line; an atom gives none
line_attributes : table_attributes (text (codes " {| class=\"t\"")) ∷ table_attributes (text (codes "{| ") ++ island ∷ [])
    ∷ row_attributes (text (codes "|--- dir=ltr")) ∷ [] ≡
    ((attr.Class, codes "t") ∷ []) ∷ [] ∷ ((attr.Dir, codes "ltr") ∷ []) ∷ []
unfolding table_attributes row_attributes begins_any_case name_at quoted bare value_at past_blanks assigned attribute_at attributes
line_attributes = refl

-- ---- parts: lines are numbers with their kinds

abbrev Numbered : Type 0
Numbered = ℕ × LineKind

abbrev kind_at : Numbered → LineKind
kind_at l = l.1

abbrev row : List Numbered → List Numbered → List (List Numbered) → RowOf Numbered
row opening between cs = record { opening = opening; between = between; cells = cs }

-- cells before the first line that begins a row have one with an empty delimiter
implied_row : table_of kind_at (0, kind.TableOpen) ((1, kind.Header) ∷ (2, kind.Row) ∷ (3, kind.Cell) ∷ []) ≡ record {
  opening = (0, kind.TableOpen) ∷ [];
  between = [];
  captions = [];
  rows = row [] [] (((1, kind.Header) ∷ []) ∷ []) ∷ row ((2, kind.Row) ∷ []) [] (((3, kind.Cell) ∷ []) ∷ []) ∷ [];
}
unfolding inner_len
implied_row = refl

-- stray lines, a nested table among them, belong to the delimiter, blank ones behind them don't; a later caption is a cell
stray : table_of kind_at (0, kind.TableOpen)
    ((1, kind.Blank) ∷ (2, kind.TableOpen) ∷ (3, kind.Cell) ∷ (4, kind.TableEnd) ∷ (5, kind.Blank) ∷ (6, kind.Caption)
    ∷ (7, kind.Text) ∷ (8, kind.Caption) ∷ (9, kind.Row) ∷ (10, kind.Text) ∷ (11, kind.Blank) ∷ (12, kind.Caption)
    ∷ (13, kind.Cell) ∷ (14, kind.Text) ∷ []) ≡ record {
      opening = (0, kind.TableOpen) ∷ (1, kind.Blank) ∷ (2, kind.TableOpen) ∷ (3, kind.Cell) ∷ (4, kind.TableEnd) ∷ [];
      between = (5, kind.Blank) ∷ [];
      captions = ((6, kind.Caption) ∷ (7, kind.Text) ∷ []) ∷ ((8, kind.Caption) ∷ []) ∷ [];
      rows = row ((9, kind.Row) ∷ (10, kind.Text) ∷ []) ((11, kind.Blank) ∷ [])
          (((12, kind.Caption) ∷ []) ∷ ((13, kind.Cell) ∷ (14, kind.Text) ∷ []) ∷ []) ∷ [];
    }
unfolding inner_len
stray = refl

-- a cell takes a nested table whole, and without rows there is no body
taken : table_of kind_at (0, kind.TableOpen) ((1, kind.Cell) ∷ (2, kind.TableOpen) ∷ (3, kind.Row) ∷ (4, kind.TableEnd) ∷ (5, kind.Cell) ∷ []) ≡ record {
  opening = (0, kind.TableOpen) ∷ [];
  between = [];
  captions = [];
  rows = row [] [] (((1, kind.Cell) ∷ (2, kind.TableOpen) ∷ (3, kind.Row) ∷ (4, kind.TableEnd) ∷ []) ∷ ((5, kind.Cell) ∷ []) ∷ []) ∷ [];
}
unfolding inner_len
taken = refl

bare_table : table_of kind_at (0, kind.TableOpen) ((1, kind.Text) ∷ (2, kind.Blank) ∷ [])
    ≡ record { opening = (0, kind.TableOpen) ∷ (1, kind.Text) ∷ []; between = (2, kind.Blank) ∷ []; captions = []; rows = [] }
unfolding inner_len
bare_table = refl
