-- Whole lines before others: their rows stand before the others' rows.
use Rattle.std.proofs.Common.{◌≡◌, ℕ, Bool, true, false, not, List, [], ◌∷◌, ◌++◌, refl, sym, ap, ◌∙◌, append-nil, append_assoc}
use Rattle.std.specs.Prelude.{if◌then◌else◌}
use Rattle.wt_span.specs.Items.{Item}
use Rattle.wt_lines.specs.Lines.{is_break_item, goes_on, full_lines, empty_end}
use Rattle.wt_tables.specs.Extents.{behind}
use Rattle.wt_page.specs.Lines.{kind_at}
use Rattle.wt_page.specs.Rows.{Row, line_rows, rows_from, rows}
use Rattle.wt_text_edit_laws.specs.ParagraphBetween.{written_rows, tables_behind, rows_of_lines, AreClosed}
use Rattle.wt_text_edit_laws.proofs.Paragraphs.Apart.{Apart, runs_apart}

-- ---- lines

abbrev IsWhole : List Item → Type 0
IsWhole xs = empty_end xs ≡ [] ∷ []

is_break_by : (v : Bool) → if◌then◌else◌ {A = List (List Item)} v ([] ∷ []) [] ≡ [] ∷ [] → v ≡ true
is_break_by true e = refl
is_break_by false e = cc

-- a line that ends with its line break goes on to nothing
whole_apart : (xs ys : List Item) → IsWhole xs → Apart goes_on xs ys
whole_apart [] ys e = tt
whole_apart (x ∷ []) [] e = tt
whole_apart (x ∷ []) (y ∷ ys) e = ap not (is_break_by (is_break_item x) e)
whole_apart (x ∷ z ∷ zs) ys e = whole_apart (z ∷ zs) ys e

pub lines_join : (xs ys : List Item) → IsWhole xs → full_lines (xs ++ ys) ≡ full_lines xs ++ full_lines ys
lines_join xs ys e = runs_apart goes_on xs ys (whole_apart xs ys e)

-- ---- rows

pub rows_join : (n : ℕ) (ls ms : List (List Item)) → rows_from n (ls ++ ms) ≡ written_rows n ls ++ rows_from (tables_behind n ls) ms
rows_join n [] ms = refl
rows_join n (l ∷ ls) ms =
    let own : List Row = line_rows (kind_at n l) l in
    let m : ℕ = behind n (kind_at n l) in
    ap (λ rs. own ++ rs) (rows_join m ls ms) ∙ sym (append_assoc own (written_rows m ls) (rows_from (tables_behind m ls) ms))

pub rows_before : (xs ys : List Item) → AreClosed xs → rows (xs ++ ys) ≡ rows_of_lines xs ++ rows ys
unfolding rows
rows_before xs ys h =
    ap (rows_from 0) (lines_join xs ys h.whole)
    ∙ rows_join 0 (full_lines xs) (full_lines ys)
    ∙ ap (λ n. rows_of_lines xs ++ rows_from n (full_lines ys)) h.closed

no_rows : rows [] ≡ []
unfolding rows
no_rows = refl

pub rows_alone : (xs : List Item) → AreClosed xs → rows xs ≡ rows_of_lines xs
rows_alone xs h = ap rows (sym (append-nil xs)) ∙ rows_before xs [] h ∙ ap (λ rs. rows_of_lines xs ++ rs) no_rows ∙ append-nil (rows_of_lines xs)
