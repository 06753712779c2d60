-- The rows of a page fit, and together they allow two numbers for each item beside what forms make.
use Rattle.std.proofs.Common.{◌≡◌, ℕ, zero, suc, ◌+◌, ◌*◌, ◌<◌, ◌≤◌, min, Bool, true, false, Option, Some, None, List, [], ◌∷◌, ◌++◌, length, take, drop, replicate, refl, sym, ap, ◌∙◌, arith, append-nil, drop-drop, length-append, length-drop}
use Rattle.std.specs.Prelude.{◌==◌, ◌&&◌, ◌||◌, codes, reverse, nat_lt, if◌then◌else◌}
use Rattle.std.specs.Option.{unwrap_or}
use Rattle.std.specs.List.{prefix_len, AllByRecursion}
use Rattle.std.proofs.lemmas.List.{take-append-drop, length-take, length-map}
use Rattle.std.proofs.lemmas.Bool.Decides.{nat_tests}
use Rattle.wt_span.specs.declared.form.ItemForm.{ItemForm}
use Rattle.wt_span.specs.Bytes.{begins}
use Rattle.wt_span.specs.Items.{Item, char, whole, sign, is_mark_form}
use Rattle.wt_span.specs.Runs.{IsRun, AreRuns}
use Rattle.wt_lines.specs.declared.kind.LineKind.{LineKind}
use Rattle.wt_lines.specs.declared.kind.LineKind.TheVariants as line
use Rattle.wt_lines.specs.Kinds.{first_of, is_list, open_kind, past, is_idle, is_mark_sign, table_rows, text_rows, kind_of_signs}
use Rattle.wt_lines.specs.Lines.{goes_on, content}
use Rattle.wt_blocks.specs.Nesting.{is_list_sign}
use Rattle.wt_tables.specs.Extents.{behind, is_open}
use Rattle.wt_page.specs.Lines.{kind_at, ending}
use Rattle.wt_page.proofs.Ends.{content_ending}
use Rattle.wt_page.specs.Rows.{Row, row_items, signs, marks_len, idle_len, whole_row, sign_row, behind_sign, is_unseen, dashes, line_rows, unwritten_end, rows_from}
use Rattle.wt_page.specs.Lists.{prefix_of}
use Rattle.wt_page.specs.Body.{is_list_line}
use Rattle.wt_page.proofs.HeldRows.{of_whole, of_sign}
use Rattle.wt_page_round_trip.specs.Numbers.{makes_all}
use Rattle.wt_page_round_trip.proofs.Makes.{makes_append}
use Rattle.wt_page_round_trip.proofs.Allowances.{own, twice, allowed_all, allowed_append, IsFit, AreFit, fit_both}

-- ---- what the kind of a line tells of its signs

abbrev Tells : List ℕ → LineKind → Type 0
Tells ss line.Blank = Unit {0}
Tells ss line.TableOpen = 2 ≤ length ss
Tells ss line.TableEnd = 2 ≤ length ss
Tells ss line.Caption = Unit {0}
Tells ss line.Row = Unit {0}
Tells ss line.Cell = Unit {0}
Tells ss line.Header = Unit {0}
Tells ss line.Heading = Unit {0}
Tells ss line.Rule = 2 ≤ length ss
Tells ss line.List = is_list (past is_mark_sign ss) ≡ true
Tells ss line.Pre = Unit {0}
Tells ss line.Text = Unit {0}

past_by : (test : ℕ → Bool) (s : ℕ) (ss : List ℕ) (v : Bool) → length (past test ss) ≤ length ss → length (if v then past test ss else s ∷ ss) ≤ suc (length ss)
past_by test s ss true h = omega (arith, h)
past_by test s ss false h = omega arith

past_less : (test : ℕ → Bool) (ss : List ℕ) → length (past test ss) ≤ length ss
past_less test [] = omega arith
past_less test (s ∷ ss) = past_by test s ss (test s) (past_less test ss)

never : (v : Bool) → (v && false) ≡ true → ⊥
never true e = absurd cc
never false e = absurd cc

two_of : (a b : ℕ) (more ss : List ℕ) → begins (a ∷ b ∷ more) ss ≡ true → 2 ≤ length ss
two_of a b more [] e = absurd cc
two_of a b more (s ∷ []) e = absurd (never _ e)
two_of a b more (s ∷ t ∷ ss) e = omega arith

two_past : (test : ℕ → Bool) (a b : ℕ) (more ss : List ℕ) → begins (a ∷ b ∷ more) (past test ss) ≡ true → 2 ≤ length ss
two_past test a b more ss e = omega (arith, two_of a b more (past test ss) e, past_less test ss)

abbrev TellsOf : List ℕ → Option LineKind → Type 0
TellsOf ss None = Unit {0}
TellsOf ss (Some k) = Tells ss k

abbrev Told : List ℕ → List (Bool × LineKind) → Type 0
Told ss rows = AllByRecursion (λ r. r.0 ≡ true → Tells ss r.1) rows

told_by : (ss : List ℕ) (v : Bool) (k : LineKind) (o : Option LineKind) → (v ≡ true → Tells ss k) → TellsOf ss o → TellsOf ss (if v then Some k else o)
told_by ss true k o h g = h refl
told_by ss false k o h g = g

first_tells : (ss : List ℕ) (rows : List (Bool × LineKind)) → Told ss rows → TellsOf ss (first_of rows)
first_tells ss [] h = tt
first_tells ss ((v, k) ∷ rows) h = told_by ss v k (first_of rows) h.0 (first_tells ss rows h.1)

text_told : (ss last : List ℕ) → Told ss (text_rows (past is_mark_sign ss) last)
text_told ss last = ((λ e. tt), ((λ e. two_past is_mark_sign 45 45 (45 ∷ 45 ∷ []) ss e), ((λ e. e), ((λ e. tt), tt))))

table_told : (t : Bool) (ss last : List ℕ) → Told ss ((if t then table_rows (past is_idle ss) else []) ++ text_rows (past is_mark_sign ss) last)
table_told true ss last = ((λ e. two_past is_idle 124 125 [] ss e), ((λ e. tt), ((λ e. tt), ((λ e. tt), ((λ e. tt), text_told ss last)))))
table_told false ss last = text_told ss last

open_told : (few : Bool) (ss : List ℕ) → begins (codes "{|") (past is_idle ss) ≡ true → Tells ss (if few then line.TableOpen else line.Text)
open_told true ss e = two_past is_idle 123 124 [] ss e
open_told false ss e = tt

unwrapped : (ss : List ℕ) (o : Option LineKind) → TellsOf ss o → Tells ss (unwrap_or o line.Text)
unwrapped ss None h = tt
unwrapped ss (Some k) h = h

kind_tells : (tables : ℕ) (ss : List ℕ) → Tells ss (kind_of_signs tables ss)
unfolding kind_of_signs
kind_tells tables ss =
    let sign_ = past is_idle ss in
    let rest = (if nat_lt 0 tables then table_rows sign_ else []) ++ text_rows (past is_mark_sign ss) (past is_idle (reverse ss)) in
    unwrapped ss (first_of ((length sign_ == 0, line.Blank) ∷ (begins (codes "{|") sign_, open_kind tables) ∷ rest))
    (first_tells ss ((length sign_ == 0, line.Blank) ∷ (begins (codes "{|") sign_, open_kind tables) ∷ rest)
    ((λ e. tt), ((λ e. open_told (nat_lt tables 16) ss e), table_told (nat_lt 0 tables) ss (past is_idle (reverse ss)))))

-- ---- of a line

content_less : (l : List Item) → length (signs (content l)) ≤ length l
content_less l = omega (arith, length-map (content l) sign, length-append (content l) (ending l), ap length (content_ending l))

marked : (f : ItemForm) (o : Option ℕ) (bs : List ℕ) (xs : List Item) (v : Bool) → is_mark_form f ≡ v
    → past is_mark_sign (signs (content xs)) ≡ past is_mark_sign (signs (content (drop (marks_len xs) xs)))
    → past is_mark_sign (signs (content (whole f o bs ∷ xs)))
    ≡ past is_mark_sign (signs (content (drop (marks_len (whole f o bs ∷ xs)) (whole f o bs ∷ xs))))
marked f o bs [] true e h = rw e refl
marked f o bs (y ∷ ys) true e h =
    rw e (h ∙ ap (λ zs. past is_mark_sign (signs (content zs))) (drop-drop (marks_len (y ∷ ys)) 1 (whole f o bs ∷ y ∷ ys)))
marked f o bs xs false e h = rw e refl

past_marks : (l : List Item) → past is_mark_sign (signs (content l)) ≡ past is_mark_sign (signs (content (drop (marks_len l) l)))
past_marks [] = refl
past_marks (char o b ∷ xs) = refl
past_marks (whole f o bs ∷ xs) = marked f o bs xs (is_mark_form f) refl (past_marks xs)

one_sign : (a b c d : Bool) → ((a && true) || ((b && true) || ((c && true) || (d && true)))) ≡ true → (a || (b || (d || c))) ≡ true
one_sign true b c d e = refl
one_sign false true c d e = refl
one_sign false false true true e = refl
one_sign false false true false e = refl
one_sign false false false true e = refl
one_sign false false false false e = absurd cc

flipped : (a b : ℕ) (v : Bool) → (a == b) ≡ v → (b == a) ≡ v
flipped a b true e = grind (arith, nat_tests)
flipped a b false e = grind (arith, nat_tests)

signed : (s : ℕ) (ss : List ℕ) → is_list (s ∷ ss) ≡ true → is_list_sign s ≡ true
signed s ss e =
    let a = flipped 42 s (42 == s) refl in
    let b = flipped 35 s (35 == s) refl in
    let c = flipped 58 s (58 == s) refl in
    let d = flipped 59 s (59 == s) refl in
    rw (a, b, c, d) (one_sign (42 == s) (35 == s) (58 == s) (59 == s) e)

prefix_some : (x : Item) (xs : List Item) → is_list_sign (sign x) ≡ true → 1 ≤ length (prefix_of (x ∷ xs))
prefix_some x xs e =
    let ss = signs xs in
    let n = prefix_len is_list_sign ss in
    let cut : length (take (min 32 (1 + n)) (sign x ∷ ss)) ≡ min (min 32 (1 + n)) (suc (length ss)) = length-take (min 32 (1 + n)) (sign x ∷ ss) in
    rw e (omega arith)

list_by : (x : Item) (xs : List Item) (v : Bool) → is_mark_sign (sign x) ≡ v → is_list (if v then past is_mark_sign (signs xs) else sign x ∷ signs xs) ≡ true
    → 2 ≤ length (prefix_of (x ∷ xs)) + suc (length xs)
list_by x [] true d e = absurd cc
list_by x (y ∷ ys) true d e = omega arith
list_by x xs false d e = omega (arith, prefix_some x xs (signed (sign x) (signs xs) e))

list_signs : (xs : List Item) → is_list (past is_mark_sign (signs xs)) ≡ true → 2 ≤ length (prefix_of xs) + length xs
list_signs [] e = absurd cc
list_signs (x ∷ xs) e = list_by x xs (is_mark_sign (sign x)) refl e

-- ---- the rows of a line

whole_is : (k : LineKind) (n : ℕ) (l : List Item) → row_items (whole_row k n l) ≡ l
whole_is k n l = sym (append-nil (row_items (whole_row k n l))) ∙ of_whole k n l

whole_allowed : (k : LineKind) (n : ℕ) (l : List Item) → allowed_all (whole_row k n l ∷ []) ≡ own k (length l) + makes_all l
whole_allowed k n l = omega (arith, ap (λ xs. own k (length xs) + makes_all xs) (whole_is k n l))

blank_is : (l : List Item) → l ++ [] ≡ l
blank_is l = append-nil l

-- what a line's rows allow; one number less where a table begins
abbrev extra : LineKind → ℕ
extra line.Blank = 0
extra line.TableOpen = 1
extra line.TableEnd = 0
extra line.Caption = 0
extra line.Row = 0
extra line.Cell = 0
extra line.Header = 0
extra line.Heading = 0
extra line.Rule = 0
extra line.List = 0
extra line.Pre = 0
extra line.Text = 0

sign_allowed_by : (k : LineKind) (n m : ℕ) (l : List Item) (unseen : Bool) → ((i : ℕ) → own k i ≡ 1 + i) → 2 ≤ length l
    → allowed_all (if unseen then sign_row k n m l (behind_sign n m l) ∷ []
    else sign_row k n m l [] ∷ whole_row line.Text (marks_len (behind_sign n m l)) (behind_sign n m l) ∷ []) ≤ 2 * length l + makes_all l
sign_allowed_by k n m l true h s =
    omega (
      arith,
      ap (λ xs. own k (length xs) + makes_all xs) (of_sign k n m l),
      h (length l),
    )
sign_allowed_by k n m l false h s =
    let rest = behind_sign n m l in
    let first = take n l ++ (take m (drop n l) ++ []) in
    let short : take n l ++ (take m (drop n l) ++ []) ≡ take n l ++ take m (drop n l) = ap (λ ys. take n l ++ ys) (append-nil (take m (drop n l))) in
    omega (
      arith,
      h (length first),
      ap length short,
      ap makes_all short,
      length-append (take n l) (take m (drop n l)),
      makes_append (take n l) (take m (drop n l)),
      whole_allowed line.Text (marks_len rest) rest,
      length-append (take m (drop n l)) rest,
      makes_append (take m (drop n l)) rest,
      ap length (take-append-drop m (drop n l)),
      ap makes_all (take-append-drop m (drop n l)),
      length-append (take n l) (drop n l),
      makes_append (take n l) (drop n l),
      ap length (take-append-drop n l),
      ap makes_all (take-append-drop n l),
    )

twice_line : (l : List Item) → 0 < length l → twice (length l) ≤ 2 * length l
twice_line [] h = absurd (omega arith)
twice_line (x ∷ l) h = omega arith

line_allowed : (k : LineKind) (l : List Item) → 0 < length l → Tells (signs (content l)) k → extra k + allowed_all (line_rows k l) ≤ 2 * length l + makes_all l
line_allowed line.Blank l h t = omega (arith, ap length (blank_is l), ap makes_all (blank_is l))
line_allowed line.TableOpen l h t = omega (arith, whole_allowed line.TableOpen (idle_len l) l)
line_allowed line.TableEnd l h t =
    let n = idle_len l in
    omega (arith, sign_allowed_by line.TableEnd n 2 l (is_unseen (behind_sign n 2 l)) (λ i. refl) (omega (arith, t, content_less l)))
line_allowed line.Caption l h t = omega (arith, whole_allowed line.Caption (idle_len l) l, twice_line l h)
line_allowed line.Row l h t = omega (arith, whole_allowed line.Row (idle_len l) l, twice_line l h)
line_allowed line.Cell l h t = omega (arith, whole_allowed line.Cell (idle_len l) l, twice_line l h)
line_allowed line.Header l h t = omega (arith, whole_allowed line.Header (idle_len l) l, twice_line l h)
line_allowed line.Heading l h t = omega (arith, whole_allowed line.Heading (marks_len l) l)
line_allowed line.Rule l h t =
    let n = marks_len l in
    let m = dashes (drop n l) in
    omega (arith, sign_allowed_by line.Rule n m l (is_unseen (behind_sign n m l)) (λ i. refl) (omega (arith, t, content_less l)))
line_allowed line.List l h t = omega (arith, whole_allowed line.List (marks_len l) l, twice_line l h)
line_allowed line.Pre l h t = omega (arith, whole_allowed line.Pre (marks_len l) l)
line_allowed line.Text l h t = omega (arith, whole_allowed line.Text (marks_len l) l)

-- ---- they fit

abbrev IsOther : LineKind → Type 0
IsOther k = (is_open k ≡ false) × (is_list_line k ≡ false)

other_fit : (r : Row) → IsOther r.kind → IsFit r
other_fit r h = let a = h.0 in let b = h.1 in ((λ e. absurd cc), (λ e. absurd cc))

signs_fit_by : (k : LineKind) (n m : ℕ) (l : List Item) (unseen : Bool) → IsOther k
    → AreFit (if unseen then sign_row k n m l (behind_sign n m l) ∷ []
    else sign_row k n m l [] ∷ whole_row line.Text (marks_len (behind_sign n m l)) (behind_sign n m l) ∷ [])
signs_fit_by k n m l true h = (other_fit (sign_row k n m l (behind_sign n m l)) h, tt)
signs_fit_by k n m l false h =
    let rest = behind_sign n m l in
    (other_fit (sign_row k n m l []) h, (other_fit (whole_row line.Text (marks_len rest) rest) (refl, refl), tt))

open_fit : (n : ℕ) (l : List Item) → 2 ≤ length l → IsFit (whole_row line.TableOpen n l)
open_fit n l h = ((λ e. omega (arith, ap length (whole_is line.TableOpen n l))), (λ e. absurd cc))

list_fit : (l : List Item) → is_list (past is_mark_sign (signs (content l))) ≡ true → IsFit (whole_row line.List (marks_len l) l)
list_fit l h =
    let xs = content (drop (marks_len l) l) in
    let few : length xs ≤ length l =
    omega (arith, length-append xs (ending (drop (marks_len l) l)), ap length (content_ending (drop (marks_len l) l)), length-drop (marks_len l) l) in
    let two : 2 ≤ length (prefix_of xs) + length xs = list_signs xs (ap is_list (sym (past_marks l)) ∙ h) in
    ((λ e. absurd cc), (λ e. omega (arith, two, few, ap length (whole_is line.List (marks_len l) l))))

line_fit : (k : LineKind) (l : List Item) → Tells (signs (content l)) k → AreFit (line_rows k l)
line_fit line.Blank l t = (other_fit (record { kind = line.Blank; lead = []; items = l; ending = [] }) (refl, refl), tt)
line_fit line.TableOpen l t = (open_fit (idle_len l) l (omega (arith, t, content_less l)), tt)
line_fit line.TableEnd l t = signs_fit_by line.TableEnd (idle_len l) 2 l (is_unseen (behind_sign (idle_len l) 2 l)) (refl, refl)
line_fit line.Caption l t = (other_fit (whole_row line.Caption (idle_len l) l) (refl, refl), tt)
line_fit line.Row l t = (other_fit (whole_row line.Row (idle_len l) l) (refl, refl), tt)
line_fit line.Cell l t = (other_fit (whole_row line.Cell (idle_len l) l) (refl, refl), tt)
line_fit line.Header l t = (other_fit (whole_row line.Header (idle_len l) l) (refl, refl), tt)
line_fit line.Heading l t = (other_fit (whole_row line.Heading (marks_len l) l) (refl, refl), tt)
line_fit line.Rule l t =
    let n = marks_len l in
    let m = dashes (drop n l) in signs_fit_by line.Rule n m l (is_unseen (behind_sign n m l)) (refl, refl)
line_fit line.List l t = (list_fit l t, tt)
line_fit line.Pre l t = (other_fit (whole_row line.Pre (marks_len l) l) (refl, refl), tt)
line_fit line.Text l t = (other_fit (whole_row line.Text (marks_len l) l) (refl, refl), tt)

-- ---- the rows of a page

ends_allowed : (n : ℕ) → allowed_all (replicate n unwritten_end) ≡ n
ends_allowed zero = refl
ends_allowed (suc n) = omega (arith, ends_allowed n)

ends_fit : (n : ℕ) → AreFit (replicate n unwritten_end)
ends_fit zero = tt
ends_fit (suc n) = (other_fit unwritten_end (refl, refl), ends_fit n)

tables_behind : (k : LineKind) (n : ℕ) → behind n k ≤ n + extra k
tables_behind line.Blank n = omega arith
tables_behind line.TableOpen n = omega arith
tables_behind line.TableEnd n = omega arith
tables_behind line.Caption n = omega arith
tables_behind line.Row n = omega arith
tables_behind line.Cell n = omega arith
tables_behind line.Header n = omega arith
tables_behind line.Heading n = omega arith
tables_behind line.Rule n = omega arith
tables_behind line.List n = omega arith
tables_behind line.Pre n = omega arith
tables_behind line.Text n = omega arith

run_some : (l others : List Item) → IsRun goes_on l others → 0 < length l
run_some [] others h = absurd h
run_some (x ∷ l) others h = omega arith

pub rows_allowed : (tables : ℕ) (ls : List (List Item)) (xs : List Item) → AreRuns goes_on ls xs
    → allowed_all (rows_from tables ls) ≤ tables + 2 * length xs + makes_all xs
rows_allowed tables [] xs h = omega (arith, ends_allowed tables)
rows_allowed tables (l ∷ ls) xs (others, e, run, rest) =
    let k = kind_at tables l in
    omega (
      arith,
      allowed_append (line_rows k l) (rows_from (behind tables k) ls),
      line_allowed k l (run_some l others run) (kind_tells tables (signs (content l))),
      tables_behind k tables,
      rows_allowed (behind tables k) ls others rest,
      ap length e,
      ap makes_all e,
      length-append l others,
      makes_append l others,
    )

pub rows_fit : (tables : ℕ) (ls : List (List Item)) → AreFit (rows_from tables ls)
rows_fit tables [] = ends_fit tables
rows_fit tables (l ∷ ls) =
    let k = kind_at tables l in
    fit_both (line_rows k l) (rows_from (behind tables k) ls) (line_fit k l (kind_tells tables (signs (content l)))) (rows_fit (behind tables k) ls)
