-- Marks directly above a block, such as lines of comments: they stand outside it, as they do by themselves.
use Rattle.std.proofs.Common.{arith, drop, ◌≡◌, ℕ, zero, suc, Bool, true, false, List, [], ◌∷◌, ◌++◌, length, map, refl, sym, ap, ◌∙◌, subst, append-nil, append_assoc}
use Rattle.std.specs.Prelude.{◌==◌, ◌&&◌, ◌||◌, not, reverse, codes, nat_lt, if◌then◌else◌}
use Rattle.std.specs.List.{flat_map, list_all}
use Rattle.std.specs.Option.{unwrap_or}
use Rattle.std.proofs.lemmas.Grind.{flat_map-append}
use Rattle.std.proofs.lemmas.List.{map-append, reverse-append}
use Rattle.wt_span.specs.Bytes.{begins}
use Rattle.wt_span.specs.Items.{Item, char, whole, sign, is_mark}
use Rattle.wt_span.specs.Runs.{put, runs, IsRun}
use Rattle.wt_span.proofs.RunLaws.{runs_cut}
use Rattle.wt_lines.specs.declared.kind.LineKind.{LineKind}
use Rattle.wt_lines.specs.declared.kind.LineKind.TheVariants as line
use Rattle.wt_lines.specs.Kinds.{is_mark_sign, is_idle, past, is_alone, is_list, first_of, open_kind, table_rows, kind_of_signs}
use Rattle.wt_lines.specs.Lines.{goes_on, full_lines, content}
use Rattle.wt_tables.specs.Extents.{behind, is_open}
use Rattle.wt_tables.specs.Parts.{joined, units}
use Rattle.wt_inline.specs.declared.loose.Loose.TheVariants.{Sep}
use Rattle.wt_inline.specs.Parts.{Part, part, parts}
use Rattle.wt_page.specs.Lines.{kind_at}
use Rattle.wt_page.specs.Rows.{Row, kind_of, marks_len, idle_len, dashes, is_unseen, behind_sign, whole_row, sign_rows, line_rows, rows, rows_from}
use Rattle.wt_page.specs.Stretches.{Stretch, stretch_parts, stretches_parts}
use Rattle.wt_page.specs.Texts.{para}
use Rattle.wt_page.specs.Body.{same_block, block_stretches, run_stretches, within, blocks, body_parts}
use Rattle.wt_rows.proofs.FirstUnits.{unit_one}
use Rattle.wt_text_edit_laws.specs.ParagraphBetween.{before_marks}

abbrev pub AreMarks : List Item → Type 0
AreMarks [] = Unit {0}
AreMarks (x ∷ xs) = (is_mark x ≡ true) × AreMarks xs

-- ---- marks at the end

pub record EndsInMarks (xs : List Item) : Type 0 where
  pub marks : List Item
  pub is : xs ≡ before_marks xs ++ marks
  pub are_marks : AreMarks marks

and_left : (a b : Bool) → (a && b) ≡ true → a ≡ true
and_left true b e = refl
and_left false b e = cc

and_right : (a b : Bool) → (a && b) ≡ true → b ≡ true
and_right true b e = e
and_right false b e = cc

all_marks : (xs : List Item) → list_all is_mark xs ≡ true → AreMarks xs
all_marks [] e = tt
all_marks (x ∷ xs) e = (and_left (is_mark x) (list_all is_mark xs) e, all_marks xs (and_right (is_mark x) (list_all is_mark xs) e))

ends_so : (v : Bool) (x : Item) (xs : List Item) → list_all is_mark (x ∷ xs) ≡ v → EndsInMarks xs → EndsInMarks (x ∷ xs)
ends_so true x xs e h = record { marks = x ∷ xs; is = rw e refl; are_marks = all_marks (x ∷ xs) e }
ends_so false x xs e h = record { marks = h.marks; is = rw e (ap (λ (ys : List Item). x ∷ ys) h.is); are_marks = h.are_marks }

pub marks_end : (xs : List Item) → EndsInMarks xs
marks_end [] = record { marks = []; is = refl; are_marks = tt }
marks_end (x ∷ xs) = ends_so (list_all is_mark (x ∷ xs)) x xs refl (marks_end xs)

-- ---- the first line

abbrev IsFirst : List Item → Type 0
IsFirst zs = (y : Item) × (ys : List Item) × (ls : List (List Item)) × (full_lines zs ≡ (y ∷ ys) ∷ ls)

abbrev IsPut : Item → List (List Item) → Type 0
IsPut x rs = (y : Item) × (ys : List Item) × (ls : List (List Item)) × (put goes_on x rs ≡ (y ∷ ys) ∷ ls)

first_by : (x y : Item) (ys : List Item) (rs : List (List Item)) (v : Bool) → goes_on x y ≡ v → IsPut x ((y ∷ ys) ∷ rs)
first_by x y ys rs true e = (x, y ∷ ys, rs, rw e refl)
first_by x y ys rs false e = (x, [], (y ∷ ys) ∷ rs, rw e refl)

first_put : (x : Item) (rs : List (List Item)) → IsPut x rs
first_put x [] = (x, [], [], refl)
first_put x ([] ∷ rs) = (x, [], rs, refl)
first_put x ((y ∷ ys) ∷ rs) = first_by x y ys rs (goes_on x y) refl

first_line : (z : Item) (zs : List Item) → IsFirst (z ∷ zs)
first_line z zs = first_put z (full_lines zs)

-- ---- marks before a line are part of it

mark_goes : (m y : Item) → is_mark m ≡ true → goes_on m y ≡ true
mark_goes (char o b) y h = cc
mark_goes (whole f o bs) y h = refl

put_on : (x y : Item) (ys : List Item) (rs : List (List Item)) → goes_on x y ≡ true → put goes_on x ((y ∷ ys) ∷ rs) ≡ (x ∷ y ∷ ys) ∷ rs
put_on x y ys rs e = rw e refl

marks_line : (ms zs : List Item) (y : Item) (ys : List Item) (ls : List (List Item)) → AreMarks ms → full_lines zs ≡ (y ∷ ys) ∷ ls
    → full_lines (ms ++ zs) ≡ (ms ++ y ∷ ys) ∷ ls
marks_line [] zs y ys ls h e = e
marks_line (m ∷ []) zs y ys ls h e = ap (put goes_on m) e ∙ put_on m y ys ls (mark_goes m y h.0)
marks_line (m ∷ n ∷ ms) zs y ys ls h e =
    ap (put goes_on m) (marks_line (n ∷ ms) zs y ys ls h.1 e) ∙ put_on m n (ms ++ y ∷ ys) ls (mark_goes m n h.0)

content_marks : (ms : List Item) (y : Item) (ys : List Item) → content (ms ++ y ∷ ys) ≡ ms ++ content (y ∷ ys)
content_marks [] y ys = refl
content_marks (m ∷ []) y ys = refl
content_marks (m ∷ n ∷ ms) y ys = ap (λ (xs : List Item). m ∷ xs) (content_marks (n ∷ ms) y ys)

-- ---- and don't change its kind

pub mark_sign : (m : Item) → is_mark m ≡ true → sign m ≡ 257
mark_sign (char o b) h = cc
mark_sign (whole f o bs) h = rw h refl

abbrev pub AreMarkSigns : List ℕ → Type 0
AreMarkSigns [] = Unit {0}
AreMarkSigns (s ∷ ss) = (s ≡ 257) × AreMarkSigns ss

signs_of_marks : (ms : List Item) → AreMarks ms → AreMarkSigns (map sign ms)
signs_of_marks [] h = tt
signs_of_marks (m ∷ ms) h = (mark_sign m h.0, signs_of_marks ms h.1)

joined_marks : (ss ts : List ℕ) → AreMarkSigns ss → AreMarkSigns ts → AreMarkSigns (ss ++ ts)
joined_marks [] ts h g = g
joined_marks (s ∷ ss) ts h g = (h.0, joined_marks ss ts h.1 g)

marks_back : (ss : List ℕ) → AreMarkSigns ss → AreMarkSigns (reverse ss)
marks_back [] h = tt
marks_back (s ∷ ss) h = subst AreMarkSigns (sym (reverse-append (s ∷ []) ss)) (joined_marks (reverse ss) (s ∷ []) (marks_back ss h.1) (h.0, tt))

past_idle : (ss ts : List ℕ) → AreMarkSigns ss → past is_idle (ss ++ ts) ≡ past is_idle ts
past_idle [] ts h = refl
past_idle (s ∷ ss) ts h = ap (λ (t : ℕ). past is_idle (t ∷ (ss ++ ts))) h.0 ∙ past_idle ss ts h.1

past_marks : (ss ts : List ℕ) → AreMarkSigns ss → past is_mark_sign (ss ++ ts) ≡ past is_mark_sign ts
past_marks [] ts h = refl
past_marks (s ∷ ss) ts h = ap (λ (t : ℕ). past is_mark_sign (t ∷ (ss ++ ts))) h.0 ∙ past_marks ss ts h.1

-- whether `=` is the last sign that is neither blank nor mark
abbrev ends_equal : List ℕ → Bool
ends_equal ss = begins (codes "=") (past is_idle ss)

ends_by : (v : Bool) (s : ℕ) (ss ts : List ℕ) → is_idle s ≡ v → ends_equal (ss ++ ts) ≡ ends_equal ss → ends_equal (s ∷ (ss ++ ts)) ≡ ends_equal (s ∷ ss)
ends_by true s ss ts e h = rw e h
ends_by false s ss ts e h = rw e refl

ends_marks : (ss ts : List ℕ) → AreMarkSigns ts → ends_equal (ss ++ ts) ≡ ends_equal ss
ends_marks [] ts h = ap ends_equal (sym (append-nil ts)) ∙ ap (begins (codes "=")) (past_idle ts [] h)
ends_marks (s ∷ ss) ts h = ends_by (is_idle s) s ss ts refl (ends_marks ss ts h)

-- the kind by the line from its first visible sign on, with and without the blanks before it, and by its last sign, where so many tables are
-- open
abbrev kind_by : ℕ → List ℕ → List ℕ → Bool → LineKind
kind_by tables signs first last =
    let heading : Bool = begins (codes "=") first && (last && not (is_alone (codes "=") first || is_alone (codes "==") first)) in
    let texts : List (Bool × LineKind) = (heading, line.Heading) ∷ (begins (codes "----") first, line.Rule) ∷ (is_list first, line.List) ∷ (begins (codes " ") first, line.Pre) ∷ [] in
    unwrap_or (first_of ((length signs == 0, line.Blank) ∷ (begins (codes "{|") signs, open_kind tables)
    ∷ ((if nat_lt 0 tables then table_rows signs else []) ++ texts))) line.Text

kind_is : (tables : ℕ) (ss : List ℕ) → kind_of_signs tables ss ≡ kind_by tables (past is_idle ss) (past is_mark_sign ss) (ends_equal (reverse ss))
unfolding kind_of_signs
kind_is tables ss = refl

pub kind_marks : (tables : ℕ) (ss ts : List ℕ) → AreMarkSigns ss → kind_of_signs tables (ss ++ ts) ≡ kind_of_signs tables ts
kind_marks tables ss ts h =
    kind_is tables (ss ++ ts)
    ∙ ap (λ (us : List ℕ). kind_by tables us (past is_mark_sign (ss ++ ts)) (ends_equal (reverse (ss ++ ts)))) (past_idle ss ts h)
    ∙ ap (λ (us : List ℕ). kind_by tables (past is_idle ts) us (ends_equal (reverse (ss ++ ts)))) (past_marks ss ts h)
    ∙ ap (kind_by tables (past is_idle ts) (past is_mark_sign ts)) (ap ends_equal (reverse-append ss ts) ∙ ends_marks (reverse ts) (reverse ss) (marks_back ss h))
    ∙ sym (kind_is tables ts)

line_marks : (tables : ℕ) (ms : List Item) (y : Item) (ys : List Item) → AreMarks ms → kind_at tables (ms ++ y ∷ ys) ≡ kind_at tables (y ∷ ys)
line_marks tables ms y ys h =
    ap (λ (xs : List Item). kind_of_signs tables (map sign xs)) (content_marks ms y ys)
    ∙ ap (kind_of_signs tables) (map-append sign ms (content (y ∷ ys)))
    ∙ kind_marks tables (map sign ms) (map sign (content (y ∷ ys))) (signs_of_marks ms h)

-- ---- they come before the row

abbrev pub with_lead : List Item → Row → Row
with_lead ms r = record { kind = r.kind; lead = ms ++ r.lead; items = r.items; ending = r.ending }

one_more : (m : Item) (zs : List Item) → is_mark m ≡ true → marks_len (m ∷ zs) ≡ suc (marks_len zs)
one_more m zs e = rw e (omega arith)

pub row_marks : (k : LineKind) (ms l : List Item) → AreMarks ms → whole_row k (marks_len (ms ++ l)) (ms ++ l) ≡ with_lead ms (whole_row k (marks_len l) l)
row_marks k [] l h = refl
row_marks k (m ∷ ms) l h =
    ap (λ (n : ℕ). whole_row k n (m ∷ (ms ++ l))) (one_more m (ms ++ l) h.0) ∙ ap (with_lead (m ∷ [])) (row_marks k ms l h.1)

-- a row of text, or a heading
abbrev pub IsLed : LineKind → Type 0
IsLed line.Blank = ⊥
IsLed line.TableOpen = ⊥
IsLed line.TableEnd = ⊥
IsLed line.Caption = ⊥
IsLed line.Row = ⊥
IsLed line.Cell = ⊥
IsLed line.Header = ⊥
IsLed line.Heading = Unit {0}
IsLed line.Rule = ⊥
IsLed line.List = ⊥
IsLed line.Pre = ⊥
IsLed line.Text = Unit {0}

abbrev pub led : List Item → List Row → List Row
led ms [] = []
led ms (r ∷ rs) = with_lead ms r ∷ rs

led_rows : (k : LineKind) → IsLed k → (ms l : List Item) (rs : List Row) → AreMarks ms → line_rows k (ms ++ l) ++ rs ≡ led ms (line_rows k l ++ rs)
led_rows line.Blank i ms l rs h = absurd i
led_rows line.TableOpen i ms l rs h = absurd i
led_rows line.TableEnd i ms l rs h = absurd i
led_rows line.Caption i ms l rs h = absurd i
led_rows line.Row i ms l rs h = absurd i
led_rows line.Cell i ms l rs h = absurd i
led_rows line.Header i ms l rs h = absurd i
led_rows line.Heading i ms l rs h = ap (λ (r : Row). r ∷ rs) (row_marks line.Heading ms l h)
led_rows line.Rule i ms l rs h = absurd i
led_rows line.List i ms l rs h = absurd i
led_rows line.Pre i ms l rs h = absurd i
led_rows line.Text i ms l rs h = ap (λ (r : Row). r ∷ rs) (row_marks line.Text ms l h)

-- the kind of the first row is that of its line
abbrev first_kind : List Row → LineKind
first_kind [] = line.Blank
first_kind (r ∷ rs) = r.kind

sign_kind : (k : LineKind) (n len : ℕ) (l : List Item) (rs : List Row) (v : Bool) → is_unseen (behind_sign n len l) ≡ v → first_kind (sign_rows k n len l ++ rs) ≡ k
sign_kind k n len l rs true e = rw e refl
sign_kind k n len l rs false e = rw e refl

row_kind : (k : LineKind) (l : List Item) (rs : List Row) → first_kind (line_rows k l ++ rs) ≡ k
row_kind line.Blank l rs = refl
row_kind line.TableOpen l rs = refl
row_kind line.TableEnd l rs = sign_kind line.TableEnd (idle_len l) 2 l rs (is_unseen (behind_sign (idle_len l) 2 l)) refl
row_kind line.Caption l rs = refl
row_kind line.Row l rs = refl
row_kind line.Cell l rs = refl
row_kind line.Header l rs = refl
row_kind line.Heading l rs = refl
row_kind line.Rule l rs =
    let n : ℕ = marks_len l in
    let len : ℕ = dashes (drop n l) in
    sign_kind line.Rule n len l rs (is_unseen (behind_sign n len l)) refl
row_kind line.List l rs = refl
row_kind line.Pre l rs = refl
row_kind line.Text l rs = refl

led_by : (tables : ℕ) (ms zs : List Item) (y : Item) (ys : List Item) (ls : List (List Item)) (k : LineKind) → AreMarks ms → full_lines zs ≡ (y ∷ ys) ∷ ls
    → kind_at tables (y ∷ ys) ≡ k → IsLed k → rows_from tables (full_lines (ms ++ zs)) ≡ led ms (rows_from tables (full_lines zs))
led_by tables ms zs y ys ls k h e f i =
    let l : List Item = y ∷ ys in
    ap (rows_from tables) (marks_line ms zs y ys ls h e)
    ∙ ap (λ (j : LineKind). line_rows j (ms ++ l) ++ rows_from (behind tables j) ls) (line_marks tables ms y ys h ∙ f)
    ∙ led_rows k i ms l (rows_from (behind tables k) ls) h
    ∙ ap (λ (j : LineKind). led ms (line_rows j l ++ rows_from (behind tables j) ls)) (sym f)
    ∙ ap (λ (ns : List (List Item)). led ms (rows_from tables ns)) (sym e)

kind_from : (tables : ℕ) (zs : List Item) (y : Item) (ys : List Item) (ls : List (List Item)) (r : Row) (rs : List Row) → full_lines zs ≡ (y ∷ ys) ∷ ls
    → rows_from tables (full_lines zs) ≡ r ∷ rs → kind_at tables (y ∷ ys) ≡ r.kind
kind_from tables zs y ys ls r rs e f =
    let k : LineKind = kind_at tables (y ∷ ys) in
    sym (row_kind k (y ∷ ys) (rows_from (behind tables k) ls)) ∙ ap first_kind (ap (rows_from tables) (sym e) ∙ f)

-- where so many tables are open
pub rows_led : (tables : ℕ) (ms zs : List Item) (r : Row) (rs : List Row) → AreMarks ms → rows_from tables (full_lines zs) ≡ r ∷ rs → IsLed r.kind
    → rows_from tables (full_lines (ms ++ zs)) ≡ with_lead ms r ∷ rs
rows_led zero ms [] r rs h e i = let n : [] ≡ r ∷ rs = e in cc
rows_led (suc n) ms [] r rs h e i = absurd (subst IsLed (sym (ap first_kind e)) i)
rows_led tables ms (z ∷ zs) r rs h e i =
    let f = first_line z zs in
    led_by tables ms (z ∷ zs) f.0 f.1 f.2 r.kind h f.3 (kind_from tables (z ∷ zs) f.0 f.1 f.2 r rs f.3 e) i ∙ ap (led ms) e

pub rows_marks : (ms zs : List Item) (r : Row) (rs : List Row) → AreMarks ms → rows zs ≡ r ∷ rs → IsLed r.kind → rows (ms ++ zs) ≡ with_lead ms r ∷ rs
unfolding rows
rows_marks ms zs r rs h e i = rows_led 0 ms zs r rs h e i

-- ---- so they are outside the block

parts_append : (xs ys : List Item) → parts Sep (xs ++ ys) ≡ parts Sep xs ++ parts Sep ys
parts_append [] ys = refl
parts_append (x ∷ xs) ys = ap (λ (ps : List Part). part Sep x ∷ ps) (parts_append xs ys)

-- a separator is put before
before_parts : (ms lead : List Item) (ps : List Part) → parts Sep (ms ++ lead) ++ ps ≡ parts Sep ms ++ (parts Sep lead ++ ps)
before_parts ms lead ps = ap (λ (qs : List Part). qs ++ ps) (parts_append ms lead) ∙ append_assoc (parts Sep ms) (parts Sep lead) ps

abbrev block_parts : LineKind → List Row → List Part
block_parts k rs = stretches_parts (block_stretches (within 15) k rs)

text_led : (ms : List Item) (r : Row) (rs : List Row) → block_parts line.Text (with_lead ms r ∷ rs) ≡ parts Sep ms ++ block_parts line.Text (r ∷ rs)
unfolding para
text_led ms r [] = before_parts ms r.lead _
text_led ms r (s ∷ rs) = before_parts ms r.lead _

heading_led : (ms : List Item) (r : Row) (rs : List Row) → block_parts line.Heading (with_lead ms r ∷ rs) ≡ parts Sep ms ++ block_parts line.Heading (r ∷ rs)
heading_led ms r rs = before_parts ms r.lead _

kind_led : (k : LineKind) → IsLed k → (ms : List Item) (r : Row) (rs : List Row) → block_parts k (with_lead ms r ∷ rs) ≡ parts Sep ms ++ block_parts k (r ∷ rs)
kind_led line.Blank i ms r rs = absurd i
kind_led line.TableOpen i ms r rs = absurd i
kind_led line.TableEnd i ms r rs = absurd i
kind_led line.Caption i ms r rs = absurd i
kind_led line.Row i ms r rs = absurd i
kind_led line.Cell i ms r rs = absurd i
kind_led line.Header i ms r rs = absurd i
kind_led line.Heading i ms r rs = heading_led ms r rs
kind_led line.Rule i ms r rs = absurd i
kind_led line.List i ms r rs = absurd i
kind_led line.Pre i ms r rs = absurd i
kind_led line.Text i ms r rs = text_led ms r rs

abbrev F : List (List Row) → List Stretch
F = run_stretches (within 15)

abbrev run_parts : List (List (List Row)) → List Part
run_parts rs = stretches_parts (flat_map F rs)

run_led : (ms : List Item) (r : Row) (us : List (List Row)) (rs : List (List (List Row))) → IsLed r.kind
    → run_parts (((with_lead ms r ∷ []) ∷ us) ∷ rs) ≡ parts Sep ms ++ run_parts (((r ∷ []) ∷ us) ∷ rs)
run_led ms r us rs i =
    let new : List (List Row) = (with_lead ms r ∷ []) ∷ us in
    let old : List (List Row) = (r ∷ []) ∷ us in
    flat_map-append stretch_parts (F new) (flat_map F rs)
    ∙ ap (λ (ps : List Part). ps ++ run_parts rs) (kind_led r.kind i ms r (joined us))
    ∙ append_assoc (parts Sep ms) (stretches_parts (F old)) (run_parts rs)
    ∙ ap (λ (ps : List Part). parts Sep ms ++ ps) (sym (flat_map-append stretch_parts (F old) (flat_map F rs)))

put_by : (v : Bool) (ms : List Item) (r : Row) (u : List Row) (us : List (List Row)) (rs : List (List (List Row))) → IsLed r.kind → same_block (r ∷ []) u ≡ v
    → run_parts (put same_block (with_lead ms r ∷ []) ((u ∷ us) ∷ rs)) ≡ parts Sep ms ++ run_parts (put same_block (r ∷ []) ((u ∷ us) ∷ rs))
put_by true ms r u us rs i e = rw e (run_led ms r (u ∷ us) rs i)
put_by false ms r u us rs i e = rw e (run_led ms r [] ((u ∷ us) ∷ rs) i)

put_led : (ms : List Item) (r : Row) (rs : List (List (List Row))) → IsLed r.kind
    → run_parts (put same_block (with_lead ms r ∷ []) rs) ≡ parts Sep ms ++ run_parts (put same_block (r ∷ []) rs)
put_led ms r [] i = run_led ms r [] [] i
put_led ms r ([] ∷ rs) i = run_led ms r [] rs i
put_led ms r ((u ∷ us) ∷ rs) i = put_by (same_block (r ∷ []) u) ms r u us rs i refl

led_closed : (k : LineKind) → IsLed k → is_open k ≡ false
led_closed line.Blank i = refl
led_closed line.TableOpen i = absurd i
led_closed line.TableEnd i = refl
led_closed line.Caption i = refl
led_closed line.Row i = refl
led_closed line.Cell i = refl
led_closed line.Header i = refl
led_closed line.Heading i = refl
led_closed line.Rule i = refl
led_closed line.List i = refl
led_closed line.Pre i = refl
led_closed line.Text i = refl

body_led : (ms : List Item) (r : Row) (rs : List Row) → IsLed r.kind → body_parts (with_lead ms r ∷ rs) ≡ parts Sep ms ++ body_parts (r ∷ rs)
unfolding blocks
body_led ms r rs i =
    let o : is_open r.kind ≡ false = led_closed r.kind i in
    ap (λ (us : List (List Row)). run_parts (runs same_block us)) (unit_one (with_lead ms r) rs o)
    ∙ put_led ms r (runs same_block (units kind_of rs)) i
    ∙ ap (λ (us : List (List Row)). parts Sep ms ++ run_parts (runs same_block us)) (sym (unit_one r rs o))

pub parts_marks : (ms zs : List Item) (r : Row) (rs : List Row) → AreMarks ms → rows zs ≡ r ∷ rs → IsLed r.kind
    → body_parts (rows (ms ++ zs)) ≡ parts Sep ms ++ body_parts (rows zs)
parts_marks ms zs r rs h e i =
    ap body_parts (rows_marks ms zs r rs h e i) ∙ body_led ms r rs i ∙ ap (λ (ss : List Row). parts Sep ms ++ body_parts ss) (sym e)

-- ---- by themselves they are a blank line

abbrev pub blank_row : List Item → Row
blank_row ms = record { kind = line.Blank; lead = []; items = ms; ending = [] }

marks_run : (m : Item) (ms : List Item) → AreMarks (m ∷ ms) → IsRun goes_on (m ∷ ms) []
marks_run m [] h = tt
marks_run m (n ∷ ms) h = (mark_goes m n h.0, marks_run n ms h.1)

one_content : (m : Item) → is_mark m ≡ true → content (m ∷ []) ≡ m ∷ []
one_content (char o b) h = cc
one_content (whole f o bs) h = refl

marks_content : (m : Item) (ms : List Item) → AreMarks (m ∷ ms) → content (m ∷ ms) ≡ m ∷ ms
marks_content m [] h = one_content m h.0
marks_content m (n ∷ ms) h = ap (λ (xs : List Item). m ∷ xs) (marks_content n ms h.1)

nothing_blank : kind_of_signs 0 [] ≡ line.Blank
unfolding kind_of_signs
nothing_blank = refl

marks_kind : (m : Item) (ms : List Item) → AreMarks (m ∷ ms) → kind_at 0 (m ∷ ms) ≡ line.Blank
marks_kind m ms h =
    ap (λ (xs : List Item). kind_of_signs 0 (map sign xs)) (marks_content m ms h)
    ∙ ap (kind_of_signs 0) (sym (append-nil (map sign (m ∷ ms))))
    ∙ kind_marks 0 (map sign (m ∷ ms)) [] (signs_of_marks (m ∷ ms) h)
    ∙ nothing_blank

pub marks_alone : (m : Item) (ms : List Item) → AreMarks (m ∷ ms) → rows (m ∷ ms) ≡ blank_row (m ∷ ms) ∷ []
unfolding rows
marks_alone m ms h =
    ap (λ (xs : List Item). rows_from 0 (full_lines xs)) (sym (append-nil (m ∷ ms)))
    ∙ ap (rows_from 0) (runs_cut goes_on (m ∷ ms) [] (marks_run m ms h))
    ∙ ap (λ (k : LineKind). line_rows k (m ∷ ms) ++ rows_from (behind 0 k) []) (marks_kind m ms h)

pub blank_parts : (ms : List Item) → body_parts (blank_row ms ∷ []) ≡ parts Sep ms
unfolding blocks
blank_parts ms = append-nil (parts Sep (ms ++ [])) ∙ ap (parts Sep) (append-nil ms)
