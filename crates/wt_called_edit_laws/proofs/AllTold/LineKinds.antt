-- Kinds of lines and of their rows: with the marks that begin them and without these.
use Rattle.std.proofs.Common.{arith, ◌≡◌, ◌≤◌, ℕ, suc, ◌+◌, Bool, true, false, List, [], ◌∷◌, ◌++◌, length, take, drop, map, refl, sym, ap, ◌∙◌, subst, cond, append_assoc}
use Rattle.std.specs.Prelude.{◌&&◌, if◌then◌else◌}
use Rattle.std.specs.List.{list_all}
use Rattle.std.proofs.lemmas.List.{take-append-drop, map-append}
use Rattle.wt_span.specs.Items.{Item, is_mark, sign}
use Rattle.wt_lines.specs.declared.kind.LineKind.{LineKind}
use Rattle.wt_lines.specs.declared.kind.LineKind.TheVariants as line
use Rattle.wt_lines.specs.Kinds.{kind_of_signs}
use Rattle.wt_lines.specs.Lines.{content}
use Rattle.wt_blocks.specs.Paragraphs.{is_text}
use Rattle.wt_tables.specs.Extents.{behind}
use Rattle.wt_page.specs.Lines.{kind_at}
use Rattle.wt_page.specs.Rows.{Row, marks_len, idle_len, dashes, is_unseen, behind_sign, sign_row, sign_rows, whole_row, line_rows, rows_from}
use Rattle.wt_text_edit_laws.specs.ParagraphBetween.{written_rows, tables_behind, EndApart, BeginApart}
use Rattle.wt_text_edit_laws.proofs.Cuts.RowLines.{AllText}
use Rattle.wt_text_edit_laws.proofs.Paragraphs.Marks.{mark_sign, AreMarkSigns, kind_marks}
use Rattle.wt_called_edit_laws.specs.AnyBlocks.{open_after}
use Rattle.wt_called_edit_laws.proofs.AllTold.Opens.{open_both}
use Rattle.wt_called_edit_laws.proofs.Cells.SpotSlots.{open_size}

abbrev pub Lines : Type 0
Lines = List (List Item)

-- ---- the marks that begin a line

abbrev pub led_by : List Item → List Item
led_by l = take (marks_len l) l

abbrev pub past_marks : List Item → List Item
past_marks l = drop (marks_len l) l

pub led_whole : (l : List Item) → led_by l ++ past_marks l ≡ l
led_whole l = take-append-drop (marks_len l) l

pub led_marks : (l : List Item) → list_all is_mark (led_by l) ≡ true
led_marks [] = refl
led_marks (x ∷ xs) = by (is_mark x) refl (led_marks xs)
  where
    by : (v : Bool) → is_mark x ≡ v → list_all is_mark (led_by xs) ≡ true → list_all is_mark (take (cond v (1 + marks_len xs) 0) (x ∷ xs)) ≡ true
    by true e h =
        let z : 1 + marks_len xs ≡ suc (marks_len xs) = omega arith in
        ap (λ (n : ℕ). list_all is_mark (take n (x ∷ xs))) z ∙ ap (λ (b : Bool). b && list_all is_mark (led_by xs)) e ∙ h
    by false e h = refl

and_first : (a b : Bool) → (a && b) ≡ true → a ≡ true
and_first true b e = refl
and_first false b e = absurd (cc)

and_rest : (a b : Bool) → (a && b) ≡ true → b ≡ true
and_rest true b e = e
and_rest false b e = absurd (cc)

mark_signs : (ms : List Item) → list_all is_mark ms ≡ true → AreMarkSigns (map sign ms)
mark_signs [] h = tt
mark_signs (m ∷ ms) h = (mark_sign m (and_first (is_mark m) (list_all is_mark ms) h), mark_signs ms (and_rest (is_mark m) (list_all is_mark ms) h))

content_behind : (ms : List Item) (y : Item) (ys : List Item) → content (ms ++ y ∷ ys) ≡ ms ++ content (y ∷ ys)
content_behind [] y ys = refl
content_behind (m ∷ []) y ys = refl
content_behind (m ∷ n ∷ ms) y ys = ap (λ (xs : List Item). m ∷ xs) (content_behind (n ∷ ms) y ys)

-- ---- they don't change its kind

kind_behind : (n : ℕ) (ms xs : List Item) → list_all is_mark ms ≡ true → 1 ≤ length xs → kind_at n (ms ++ xs) ≡ kind_at n xs
kind_behind n ms [] h some = absurd (omega (arith, some))
kind_behind n ms (y ∷ ys) h some =
    ap (λ (zs : List Item). kind_of_signs n (map sign zs)) (content_behind ms y ys)
    ∙ ap (kind_of_signs n) (map-append sign ms (content (y ∷ ys)))
    ∙ kind_marks n (map sign ms) (map sign (content (y ∷ ys))) (mark_signs ms h)

pub kind_led : (n : ℕ) (l : List Item) → 1 ≤ length (past_marks l) → kind_at n (past_marks l) ≡ kind_at n l
kind_led n l some = sym (kind_behind n (led_by l) (past_marks l) (led_marks l) some) ∙ ap (kind_at n) (led_whole l)

-- ---- rows of lines

pub written_both : (n : ℕ) (xs ys : Lines) → written_rows n (xs ++ ys) ≡ written_rows n xs ++ written_rows (tables_behind n xs) ys
written_both n [] ys = refl
written_both n (l ∷ xs) ys =
    let k : LineKind = kind_at n l in
    ap (λ (rs : List Row). line_rows k l ++ rs) (written_both (behind n k) xs ys)
    ∙ sym (append_assoc (line_rows k l) (written_rows (behind n k) xs) (written_rows (tables_behind (behind n k) xs) ys))

pub tables_both : (n : ℕ) (xs ys : Lines) → tables_behind n (xs ++ ys) ≡ tables_behind (tables_behind n xs) ys
tables_both n [] ys = refl
tables_both n (l ∷ xs) ys = tables_both (behind n (kind_at n l)) xs ys

-- the tables that are open behind lines
abbrev pub after : List Bool → Lines → List Bool
after bs xs = open_after bs (written_rows (length bs) xs)

pub rows_behind : (bs : List Bool) (xs ys : Lines) → written_rows (length bs) (xs ++ ys) ≡ written_rows (length bs) xs ++ written_rows (length (after bs xs)) ys
rows_behind bs xs ys =
    written_both (length bs) xs ys
    ∙ ap (λ (n : ℕ). written_rows (length bs) xs ++ written_rows n ys) (open_size bs (length bs) xs refl)

pub after_both : (bs : List Bool) (xs ys : Lines) → after bs (xs ++ ys) ≡ after (after bs xs) ys
after_both bs xs ys = ap (open_after bs) (rows_behind bs xs ys) ∙ open_both bs (written_rows (length bs) xs) (written_rows (length (after bs xs)) ys)

text_row : (n : ℕ) (l : List Item) → kind_at n l ≡ line.Text → line_rows (kind_at n l) l ≡ line_rows line.Text l
text_row n l e = ap (λ (k : LineKind). line_rows k l) e

pub texts_after : (bs : List Bool) (ls : Lines) → AllText (length bs) ls → after bs ls ≡ bs
texts_after bs [] h = refl
texts_after bs (l ∷ ls) h =
    ap (λ (k : LineKind). open_after bs (line_rows k l ++ written_rows (behind (length bs) k) ls)) h.0 ∙ texts_after bs ls h.1

-- ---- whether text is last

abbrev pub last_text : List Row → Bool
last_text [] = false
last_text (r ∷ []) = is_text r.kind
last_text (r ∷ s ∷ rs) = last_text (s ∷ rs)

pub apart_last : (rs : List Row) → EndApart rs → last_text rs ≡ false
apart_last [] h = refl
apart_last (r ∷ []) h = h
apart_last (r ∷ s ∷ rs) h = apart_last (s ∷ rs) h

pub last_apart : (rs : List Row) → last_text rs ≡ false → EndApart rs
last_apart [] h = tt
last_apart (r ∷ []) h = h
last_apart (r ∷ s ∷ rs) h = last_apart (s ∷ rs) h

pub end_suffix : (xs ys : List Row) → EndApart (xs ++ ys) → EndApart ys
end_suffix [] ys h = h
end_suffix (x ∷ []) [] h = tt
end_suffix (x ∷ []) (y ∷ ys) h = h
end_suffix (x ∷ z ∷ xs) ys h = end_suffix (z ∷ xs) ys h

pub end_behind : (xs : List Row) (y : Row) (ys : List Row) → EndApart (y ∷ ys) → EndApart (xs ++ y ∷ ys)
end_behind [] y ys h = h
end_behind (x ∷ []) y ys h = h
end_behind (x ∷ z ∷ xs) y ys h = end_behind (z ∷ xs) y ys h

-- each line makes a row at least
pub record FirstRow (k : LineKind) (rs : List Row) : Type 0 where
  pub first : Row
  pub others : List Row
  pub kind_is : first.kind ≡ k
  pub are : rs ≡ first ∷ others

one_row : (k : LineKind) (x : Row) → x.kind ≡ k → FirstRow k (x ∷ [])
one_row k x e = record { first = x; others = []; kind_is = e; are = refl }

either_row : (k : LineKind) (v : Bool) (x z y : Row) → x.kind ≡ k → z.kind ≡ k → FirstRow k (if v then x ∷ [] else z ∷ y ∷ [])
either_row k true x z y e f = record { first = x; others = []; kind_is = e; are = refl }
either_row k false x z y e f = record { first = z; others = y ∷ []; kind_is = f; are = refl }

sign_some : (k : LineKind) (lead len : ℕ) (l : List Item) → FirstRow k (sign_rows k lead len l)
sign_some k lead len l =
    let rest : List Item = behind_sign lead len l in
    either_row k (is_unseen rest) (sign_row k lead len l rest) (sign_row k lead len l []) (whole_row line.Text (marks_len rest) rest) refl refl

pub some_row : (k : LineKind) (l : List Item) → FirstRow k (line_rows k l)
some_row line.Blank l = one_row line.Blank (record { kind = line.Blank; lead = []; items = l; ending = [] }) refl
some_row line.TableOpen l = one_row line.TableOpen (whole_row line.TableOpen (idle_len l) l) refl
some_row line.TableEnd l = sign_some line.TableEnd (idle_len l) 2 l
some_row line.Caption l = one_row line.Caption (whole_row line.Caption (idle_len l) l) refl
some_row line.Row l = one_row line.Row (whole_row line.Row (idle_len l) l) refl
some_row line.Cell l = one_row line.Cell (whole_row line.Cell (idle_len l) l) refl
some_row line.Header l = one_row line.Header (whole_row line.Header (idle_len l) l) refl
some_row line.Heading l = one_row line.Heading (whole_row line.Heading (marks_len l) l) refl
some_row line.Rule l = sign_some line.Rule (marks_len l) (dashes (drop (marks_len l) l)) l
some_row line.List l = one_row line.List (whole_row line.List (marks_len l) l) refl
some_row line.Pre l = one_row line.Pre (whole_row line.Pre (marks_len l) l) refl
some_row line.Text l = one_row line.Text (whole_row line.Text (marks_len l) l) refl

pub end_lines : (n : ℕ) (rs : List Row) (l : List Item) (ls : Lines) → EndApart (written_rows n (l ∷ ls)) → EndApart (rs ++ written_rows n (l ∷ ls))
end_lines n rs l ls h =
    let k : LineKind = kind_at n l in
    let s = some_row k l in
    let more : List Row = s.others ++ written_rows (behind n k) ls in
    let e : written_rows n (l ∷ ls) ≡ s.first ∷ more = ap (λ (xs : List Row). xs ++ written_rows (behind n k) ls) s.are in
    subst (λ (xs : List Row). EndApart (rs ++ xs)) (sym e) (end_behind rs s.first more (subst EndApart e h))

-- the first row is of the first line's kind
pub first_apart : (n : ℕ) (l : List Item) (ls : Lines) → BeginApart (rows_from n (l ∷ ls)) → kind_at n l ≡ line.Text → ⊥
first_apart n l ls h e =
    let k : LineKind = kind_at n l in
    let s = some_row k l in
    let is : rows_from n (l ∷ ls) ≡ s.first ∷ (s.others ++ rows_from (behind n k) ls) = ap (λ (xs : List Row). xs ++ rows_from (behind n k) ls) s.are in
    let nay : is_text s.first.kind ≡ false = subst BeginApart is h in
    let yes : is_text s.first.kind ≡ true = ap is_text (s.kind_is ∙ e) in absurd (cc)

pub begins_other : (n : ℕ) (l : List Item) (ls : Lines) → (kind_at n l ≡ line.Text → ⊥) → BeginApart (rows_from n (l ∷ ls))
begins_other n l ls nay =
    let k : LineKind = kind_at n l in
    let s = some_row k l in
    let is : rows_from n (l ∷ ls) ≡ s.first ∷ (s.others ++ rows_from (behind n k) ls) = ap (λ (xs : List Row). xs ++ rows_from (behind n k) ls) s.are in
    subst BeginApart (sym is) (by (is_text s.first.kind) refl)
  where
    text_is : (k : LineKind) → is_text k ≡ true → k ≡ line.Text
    text_is line.Text e = refl
    text_is k e = absurd (cc)

    by : (v : Bool) → is_text (some_row (kind_at n l) l).first.kind ≡ v → is_text (some_row (kind_at n l) l).first.kind ≡ false
    by true e = absurd (nay (sym (some_row (kind_at n l) l).kind_is ∙ text_is (some_row (kind_at n l) l).first.kind e))
    by false e = e

-- rows of text end with text
pub texts_end : (n : ℕ) (l : List Item) (ls : Lines) → AllText n (l ∷ ls) → EndApart (written_rows n (l ∷ ls)) → ⊥
texts_end n l [] h e =
    let nay : is_text line.Text ≡ false = subst (λ (k : LineKind). EndApart (line_rows k l ++ [])) h.0 e in absurd (cc)
texts_end n l (m ∷ ls) h e =
    let k : LineKind = kind_at n l in
    let later : EndApart (written_rows (behind n k) (m ∷ ls)) = end_suffix (line_rows k l) (written_rows (behind n k) (m ∷ ls)) e in
    texts_end n m ls h.1 (subst (λ (j : LineKind). EndApart (written_rows (behind n j) (m ∷ ls))) h.0 later)
