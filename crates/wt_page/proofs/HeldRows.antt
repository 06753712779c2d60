-- The rows of a page join to its items.
use Rattle.std.proofs.Common.{◌≡◌, ℕ, zero, suc, Bool, true, false, List, [], ◌∷◌, ◌++◌, take, drop, replicate, refl, ap, ◌∙◌, cond, append_assoc, append-nil}
use Rattle.std.specs.List.{flat_map}
use Rattle.std.proofs.lemmas.List.{take-append-drop}
use Rattle.std.proofs.lemmas.Grind.{flat_map-append}
use Rattle.wt_span.specs.Items.{Item}
use Rattle.wt_span.proofs.RunLaws.{runs_joined}
use Rattle.wt_lines.specs.declared.kind.LineKind.{LineKind}
use Rattle.wt_lines.specs.declared.kind.LineKind.TheVariants as line
use Rattle.wt_lines.specs.Lines.{full_lines, goes_on}
use Rattle.wt_tables.specs.Extents.{behind}
use Rattle.wt_page.specs.Lines.{kind_at}
use Rattle.wt_page.proofs.Ends.{content_ending}
use Rattle.wt_page.specs.Rows.{row_items, all_items, marks_len, idle_len, whole_row, sign_row, behind_sign, is_unseen, sign_rows, dashes, line_rows, unwritten_end, rows_from, rows}

pub of_whole : (k : LineKind) (n : ℕ) (l : List Item) → all_items (whole_row k n l ∷ []) ≡ l
of_whole k n l = append-nil (row_items (whole_row k n l)) ∙ ap (λ ys. take n l ++ ys) (content_ending (drop n l)) ∙ take-append-drop n l

pub of_sign : (k : LineKind) (n m : ℕ) (l : List Item) → row_items (sign_row k n m l (behind_sign n m l)) ≡ l
of_sign k n m l = ap (λ ys. take n l ++ ys) (take-append-drop m (drop n l)) ∙ take-append-drop n l

-- by whether nothing is seen behind the sign
of_signs_by : (unseen : Bool) (k : LineKind) (n m : ℕ) (l : List Item)
    → all_items (cond unseen (sign_row k n m l (behind_sign n m l) ∷ [])
    (sign_row k n m l [] ∷ whole_row line.Text (marks_len (behind_sign n m l)) (behind_sign n m l) ∷ [])) ≡ l
of_signs_by true k n m l = append-nil (row_items (sign_row k n m l (behind_sign n m l))) ∙ of_sign k n m l
of_signs_by false k n m l =
    let rest = behind_sign n m l in
    ap (λ ys. (take n l ++ (take m (drop n l) ++ [])) ++ ys) (of_whole line.Text (marks_len rest) rest)
    ∙ ap (λ ys. (take n l ++ ys) ++ rest) (append-nil (take m (drop n l)))
    ∙ append_assoc (take n l) (take m (drop n l)) rest
    ∙ of_sign k n m l

of_signs : (k : LineKind) (n m : ℕ) (l : List Item) → all_items (sign_rows k n m l) ≡ l
of_signs k n m l = of_signs_by (is_unseen (behind_sign n m l)) k n m l

of_line : (k : LineKind) (l : List Item) → all_items (line_rows k l) ≡ l
of_line line.Blank l = append-nil (l ++ []) ∙ append-nil l
of_line line.TableOpen l = of_whole line.TableOpen (idle_len l) l
of_line line.TableEnd l = of_signs line.TableEnd (idle_len l) 2 l
of_line line.Caption l = of_whole line.Caption (idle_len l) l
of_line line.Row l = of_whole line.Row (idle_len l) l
of_line line.Cell l = of_whole line.Cell (idle_len l) l
of_line line.Header l = of_whole line.Header (idle_len l) l
of_line line.Heading l = of_whole line.Heading (marks_len l) l
of_line line.Rule l = of_signs line.Rule (marks_len l) (dashes (drop (marks_len l) l)) l
of_line line.List l = of_whole line.List (marks_len l) l
of_line line.Pre l = of_whole line.Pre (marks_len l) l
of_line line.Text l = of_whole line.Text (marks_len l) l

pub unwritten : (n : ℕ) → all_items (replicate n unwritten_end) ≡ []
unwritten zero = refl
unwritten (suc n) = unwritten n

pub from_lines : (tables : ℕ) (ls : List (List Item)) → all_items (rows_from tables ls) ≡ flat_map (λ l. l) ls
from_lines tables [] = unwritten tables
from_lines tables (l ∷ ls) =
    flat_map-append row_items (line_rows (kind_at tables l) l) (rows_from (behind tables (kind_at tables l)) ls)
    ∙ ap (λ ys. ys ++ all_items (rows_from (behind tables (kind_at tables l)) ls)) (of_line (kind_at tables l) l)
    ∙ ap (λ ys. l ++ ys) (from_lines (behind tables (kind_at tables l)) ls)

pub rows_join : (xs : List Item) → all_items (rows xs) ≡ xs
unfolding rows
rows_join xs = from_lines 0 (full_lines xs) ∙ runs_joined goes_on xs
