-- Counts of tables over rows, and the kinds of lines by them.
use Rattle.std.proofs.Common.{◌≡◌, ◌<◌, ℕ, ◌+◌, ◌-◌, Bool, true, false, List, [], ◌∷◌, ◌++◌, take, drop, refl, sym, ap, ◌∙◌, cond, arith, append_assoc, append-nil}
use Rattle.std.proofs.lemmas.Grind.{flat_map-append}
use Rattle.std.proofs.lemmas.List.Sums.{sum_by-cons, sum_by-append}
use Rattle.wt_span.specs.Items.{Item}
use Rattle.wt_lines.specs.declared.kind.LineKind.{LineKind}
use Rattle.wt_lines.specs.declared.kind.LineKind.TheVariants as line
use Rattle.wt_lines.specs.Lines.{content}
use Rattle.wt_tables.specs.Extents.{is_open, is_end, behind}
use Rattle.wt_tables.specs.Parts.{joined}
use Rattle.wt_tables.proofs.Opens.{end_inside}
use Rattle.wt_page.specs.Lines.{kind_at}
use Rattle.wt_page.specs.Rows.{Row, row_items, all_items, idle_len, marks_len, dashes, behind_sign, is_unseen, sign_row, sign_rows, whole_row, line_rows, rows_from}
use Rattle.wt_page.proofs.HeldRows.{of_whole, of_sign}
use Rattle.wt_part_laws.specs.Counts.{opened, ended, KindIsCounted}

abbrev pub one : Bool → ℕ
one b = cond b 1 0

pub opened_put : (r : Row) (rs : List Row) → opened (r ∷ rs) ≡ one (is_open r.kind) + opened rs
opened_put r rs = sum_by-cons (λ (s : Row). cond (is_open s.kind) 1 0) r rs

pub ended_put : (r : Row) (rs : List Row) → ended (r ∷ rs) ≡ one (is_end r.kind) + ended rs
ended_put r rs = sum_by-cons (λ (s : Row). cond (is_end s.kind) 1 0) r rs

pub opened_onto : (rs ss : List Row) → opened (rs ++ ss) ≡ opened rs + opened ss
opened_onto rs ss = sum_by-append (λ (s : Row). cond (is_open s.kind) 1 0) rs ss

pub ended_onto : (rs ss : List Row) → ended (rs ++ ss) ≡ ended rs + ended ss
ended_onto rs ss = sum_by-append (λ (s : Row). cond (is_end s.kind) 1 0) rs ss

-- ---- the rows of a line

opened_end : (unseen : Bool) (n m : ℕ) (l : List Item)
    → opened (cond unseen (sign_row line.TableEnd n m l (behind_sign n m l) ∷ [])
    (sign_row line.TableEnd n m l [] ∷ whole_row line.Text (marks_len (behind_sign n m l)) (behind_sign n m l) ∷ [])) ≡ one (is_open line.TableEnd)
opened_end true n m l = refl
opened_end false n m l = refl

opened_rule : (unseen : Bool) (n m : ℕ) (l : List Item)
    → opened (cond unseen (sign_row line.Rule n m l (behind_sign n m l) ∷ [])
    (sign_row line.Rule n m l [] ∷ whole_row line.Text (marks_len (behind_sign n m l)) (behind_sign n m l) ∷ [])) ≡ one (is_open line.Rule)
opened_rule true n m l = refl
opened_rule false n m l = refl

pub opened_line : (k : LineKind) (l : List Item) → opened (line_rows k l) ≡ one (is_open k)
opened_line line.Blank l = refl
opened_line line.TableOpen l = refl
opened_line line.TableEnd l = opened_end (is_unseen (behind_sign (idle_len l) 2 l)) (idle_len l) 2 l
opened_line line.Caption l = refl
opened_line line.Row l = refl
opened_line line.Cell l = refl
opened_line line.Header l = refl
opened_line line.Heading l = refl
opened_line line.Rule l =
    let n = marks_len l in
    let m = dashes (drop n l) in opened_rule (is_unseen (behind_sign n m l)) n m l
opened_line line.List l = refl
opened_line line.Pre l = refl
opened_line line.Text l = refl

ended_end : (unseen : Bool) (n m : ℕ) (l : List Item)
    → ended (cond unseen (sign_row line.TableEnd n m l (behind_sign n m l) ∷ [])
    (sign_row line.TableEnd n m l [] ∷ whole_row line.Text (marks_len (behind_sign n m l)) (behind_sign n m l) ∷ [])) ≡ one (is_end line.TableEnd)
ended_end true n m l = refl
ended_end false n m l = refl

ended_rule : (unseen : Bool) (n m : ℕ) (l : List Item)
    → ended (cond unseen (sign_row line.Rule n m l (behind_sign n m l) ∷ [])
    (sign_row line.Rule n m l [] ∷ whole_row line.Text (marks_len (behind_sign n m l)) (behind_sign n m l) ∷ [])) ≡ one (is_end line.Rule)
ended_rule true n m l = refl
ended_rule false n m l = refl

pub ended_line : (k : LineKind) (l : List Item) → ended (line_rows k l) ≡ one (is_end k)
ended_line line.Blank l = refl
ended_line line.TableOpen l = refl
ended_line line.TableEnd l = ended_end (is_unseen (behind_sign (idle_len l) 2 l)) (idle_len l) 2 l
ended_line line.Caption l = refl
ended_line line.Row l = refl
ended_line line.Cell l = refl
ended_line line.Header l = refl
ended_line line.Heading l = refl
ended_line line.Rule l =
    let n = marks_len l in
    let m = dashes (drop n l) in ended_rule (is_unseen (behind_sign n m l)) n m l
ended_line line.List l = refl
ended_line line.Pre l = refl
ended_line line.Text l = refl

-- ---- a line's rows join to it

signs_by : (unseen : Bool) (k : LineKind) (n m : ℕ) (l : List Item)
    → all_items (cond unseen (sign_row k n m l (behind_sign n m l) ∷ [])
    (sign_row k n m l [] ∷ whole_row line.Text (marks_len (behind_sign n m l)) (behind_sign n m l) ∷ [])) ≡ l
signs_by true k n m l = append-nil (row_items (sign_row k n m l (behind_sign n m l))) ∙ of_sign k n m l
signs_by false k n m l =
    let rest = behind_sign n m l in
    ap (λ ys. (take n l ++ (take m (drop n l) ++ [])) ++ ys) (of_whole line.Text (marks_len rest) rest)
    ∙ ap (λ ys. (take n l ++ ys) ++ rest) (append-nil (take m (drop n l)))
    ∙ append_assoc (take n l) (take m (drop n l)) rest
    ∙ of_sign k n m l

signs_of : (k : LineKind) (n m : ℕ) (l : List Item) → all_items (sign_rows k n m l) ≡ l
signs_of k n m l = signs_by (is_unseen (behind_sign n m l)) k n m l

line_joined : (k : LineKind) (l : List Item) → all_items (line_rows k l) ≡ l
line_joined line.Blank l = append-nil (l ++ []) ∙ append-nil l
line_joined line.TableOpen l = of_whole line.TableOpen (idle_len l) l
line_joined line.TableEnd l = signs_of line.TableEnd (idle_len l) 2 l
line_joined line.Caption l = of_whole line.Caption (idle_len l) l
line_joined line.Row l = of_whole line.Row (idle_len l) l
line_joined line.Cell l = of_whole line.Cell (idle_len l) l
line_joined line.Header l = of_whole line.Header (idle_len l) l
line_joined line.Heading l = of_whole line.Heading (marks_len l) l
line_joined line.Rule l = signs_of line.Rule (marks_len l) (dashes (drop (marks_len l) l)) l
line_joined line.List l = of_whole line.List (marks_len l) l
line_joined line.Pre l = of_whole line.Pre (marks_len l) l
line_joined line.Text l = of_whole line.Text (marks_len l) l

-- ---- kinds

open_now : (n : ℕ) (k : LineKind) (o e : ℕ) → (k ≡ line.TableEnd → 0 < n) → (behind n k + o) - e ≡ (n + (one (is_open k) + o)) - (one (is_end k) + e)
open_now n line.Blank o e h = omega arith
open_now n line.TableOpen o e h = omega arith
open_now n line.TableEnd o e h = let p : 0 < n = h refl in omega arith
open_now n line.Caption o e h = omega arith
open_now n line.Row o e h = omega arith
open_now n line.Cell o e h = omega arith
open_now n line.Header o e h = omega arith
open_now n line.Heading o e h = omega arith
open_now n line.Rule o e h = omega arith
open_now n line.List o e h = omega arith
open_now n line.Pre o e h = omega arith
open_now n line.Text o e h = omega arith

pub record IsCountedFrom (n : ℕ) (ls : List (List Item)) (l : List Item) (ms : List (List Item)) : Type 0 where
  pub before : List Row
  pub others : List Row
  pub of_before : all_items before ≡ joined ls
  pub are_rows : rows_from n (ls ++ l ∷ ms) ≡ before ++ (line_rows (kind_at ((n + opened before) - ended before) l) l ++ others)

counted_from : (n : ℕ) (ls : List (List Item)) (l : List Item) (ms : List (List Item)) → IsCountedFrom n ls l ms
counted_from n [] l ms =
    let same : n ≡ (n + 0) - 0 = omega arith in
    record {
      before = [];
      others = rows_from (behind n (kind_at n l)) ms;
      of_before = refl;
      are_rows = ap (λ (x : ℕ). line_rows (kind_at x l) l ++ rows_from (behind n (kind_at n l)) ms) same;
    }
counted_from n (m ∷ ls) l ms =
    let k = kind_at n m in
    let h = counted_from (behind n k) ls l ms in
    let now = open_now n k (opened h.before) (ended h.before) (end_inside n (content m)) in
    let o : opened (line_rows k m ++ h.before) ≡ one (is_open k) + opened h.before =
    opened_onto (line_rows k m) h.before ∙ ap (λ (x : ℕ). x + opened h.before) (opened_line k m) in
    let e : ended (line_rows k m ++ h.before) ≡ one (is_end k) + ended h.before =
    ended_onto (line_rows k m) h.before ∙ ap (λ (x : ℕ). x + ended h.before) (ended_line k m) in
    let same : (behind n k + opened h.before) - ended h.before ≡ (n + opened (line_rows k m ++ h.before)) - ended (line_rows k m ++ h.before) =
    now ∙ ap (λ (x : ℕ). (n + x) - (one (is_end k) + ended h.before)) (sym o)
    ∙ ap (λ (x : ℕ). (n + opened (line_rows k m ++ h.before)) - x) (sym e) in
    record {
      before = line_rows k m ++ h.before;
      others = h.others;
      of_before = flat_map-append row_items (line_rows k m) h.before ∙ ap (λ ys. ys ++ all_items h.before) (line_joined k m)
          ∙ ap (λ ys. m ++ ys) h.of_before;
      are_rows = ap (λ ys. line_rows k m ++ ys)
          (h.are_rows ∙ ap (λ (x : ℕ). h.before ++ (line_rows (kind_at x l) l ++ h.others)) same)
          ∙ sym (append_assoc (line_rows k m) h.before _);
    }

pub kinds_counted : (ls : List (List Item)) (l : List Item) (ms : List (List Item)) → KindIsCounted ls l ms
kinds_counted ls l ms =
    let h = counted_from 0 ls l ms in
    let same : (0 + opened h.before) - ended h.before ≡ opened h.before - ended h.before = omega arith in
    record {
      before = h.before;
      others = h.others;
      of_before = h.of_before;
      are_rows = h.are_rows ∙ ap (λ (x : ℕ). h.before ++ (line_rows (kind_at x l) l ++ h.others)) same;
    }
