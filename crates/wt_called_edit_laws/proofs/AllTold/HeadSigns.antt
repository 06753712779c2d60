-- A heading's line begins with `=`, behind the marks that begin it.
use Rattle.std.proofs.Common.{arith, ◌≡◌, ◌<◌, ◌≤◌, ℕ, suc, ◌+◌, Bool, true, false, nat_lt, unwrap_or, None, List, [], ◌∷◌, ◌++◌, length, drop, cond, All, reverse, refl, sym, ap, ◌∙◌, subst, append_assoc, codes}
use Rattle.std.specs.Prelude.{◌&&◌, ◌==◌, if◌then◌else◌}
use Rattle.std.specs.Str.{IsUtf8}
use Rattle.std.proofs.lemmas.Bool.{eqb-true}
use Rattle.std.proofs.lemmas.List.Elements.{All-nil, All-cons, All-head, All-tail}
use Rattle.percent_encoding.proofs.PercentLemmas.{IsByte}
use Rattle.wt_names.proofs.Utf8.{utf8_bytes}
use Rattle.wt_span.specs.Bytes.{begins}
use Rattle.wt_span.specs.Items.{Item, char, whole, is_mark, is_mark_form, sign}
use Rattle.wt_span.specs.Runs.{AreRuns}
use Rattle.wt_span.proofs.RunLaws.{runs_are}
use Rattle.wt_expand.specs.PageCalls.{expanded_page}
use Rattle.wt_expand.specs.Work.{Pages}
use Rattle.wt_commands.specs.Answers.{refusal_of_page}
use Rattle.wt_lines.specs.declared.kind.LineKind.{LineKind}
use Rattle.wt_lines.specs.declared.kind.LineKind.TheVariants as line
use Rattle.wt_lines.specs.declared.kind.TheConstants.{MOST_TABLES}
use Rattle.wt_lines.specs.Kinds.{is_mark_sign, is_idle, past, is_heading, is_list, first_of, open_kind, table_rows, text_rows, kind_of_signs}
use Rattle.wt_lines.specs.Lines.{is_break_item, goes_on, content, full_lines}
use Rattle.wt_tables.specs.Parts.{joined}
use Rattle.wt_page.specs.Lines.{kind_at}
use Rattle.wt_page.specs.Rows.{marks_len, signs}
use Rattle.wt_page_round_trip.proofs.ExpandedItems.{expanded_items}
use Rattle.wt_page_round_trip.proofs.TextItems.{AreTexts}
use Rattle.wt_text_edit_laws.proofs.Cuts.TextLines.{joined_is, joined_both}
use Rattle.wt_called_edit_laws.proofs.AllTold.LineKinds.{Lines, led_by, past_marks, led_whole, kind_led}

-- ---- the table of kinds

abbrev Rows : Type 0
Rows = List (Bool × LineKind)

other_row : (v : Bool) (k : LineKind) (rest : Rows) → (k ≡ line.Heading → ⊥) → unwrap_or (first_of ((v, k) ∷ rest)) line.Text ≡ line.Heading
    → unwrap_or (first_of rest) line.Text ≡ line.Heading
other_row true k rest f e = absurd (f e)
other_row false k rest f e = e

open_no : (v : Bool) → (if v then line.TableOpen else line.Text) ≡ line.Heading → ⊥
open_no true e = absurd (cc)
open_no false e = absurd (cc)

heading_row : (first last : List ℕ) (v : Bool) → is_heading first last ≡ v → unwrap_or (first_of (text_rows first last)) line.Text ≡ line.Heading
    → is_heading first last ≡ true
heading_row first last true e h = e
heading_row first last false e h =
    let rest : Rows = (begins (codes "----") first, line.Rule) ∷ (is_list first, line.List) ∷ (begins (codes " ") first, line.Pre) ∷ [] in
    let a : unwrap_or (first_of rest) line.Text ≡ line.Heading =
    subst (λ (v : Bool). unwrap_or (first_of ((v, line.Heading) ∷ rest)) line.Text ≡ line.Heading) e h in
    let b = other_row (begins (codes "----") first) line.Rule ((is_list first, line.List) ∷ (begins (codes " ") first, line.Pre) ∷ []) (λ z. absurd (cc)) a in
    let c = other_row (is_list first) line.List ((begins (codes " ") first, line.Pre) ∷ []) (λ z. absurd (cc)) b in
    let d : line.Text ≡ line.Heading = other_row (begins (codes " ") first) line.Pre [] (λ z. absurd (cc)) c in absurd (cc)

behind_tables : (v : Bool) (sign first last : List ℕ) → unwrap_or (first_of ((if v then table_rows sign else []) ++ text_rows first last)) line.Text ≡ line.Heading
    → unwrap_or (first_of (text_rows first last)) line.Text ≡ line.Heading
behind_tables false sign first last e = e
behind_tables true sign first last e =
    let end : Rows = text_rows first last in
    let header : Rows = (begins (codes "!") sign, line.Header) ∷ end in
    let cell : Rows = (begins (codes "|") sign, line.Cell) ∷ header in
    let row : Rows = (begins (codes "|-") sign, line.Row) ∷ cell in
    let caption : Rows = (begins (codes "|+") sign, line.Caption) ∷ row in
    let a = other_row (begins (codes "|}") sign) line.TableEnd caption (λ z. absurd (cc)) e in
    let b = other_row (begins (codes "|+") sign) line.Caption row (λ z. absurd (cc)) a in
    let c = other_row (begins (codes "|-") sign) line.Row cell (λ z. absurd (cc)) b in
    let d = other_row (begins (codes "|") sign) line.Cell header (λ z. absurd (cc)) c in
    other_row (begins (codes "!") sign) line.Header end (λ z. absurd (cc)) d

both_first : (a b : Bool) → (a && b) ≡ true → a ≡ true
both_first true b e = refl
both_first false b e = absurd (cc)

heading_begins : (n : ℕ) (ss : List ℕ) → kind_of_signs n ss ≡ line.Heading → begins (codes "=") (past is_mark_sign ss) ≡ true
unfolding kind_of_signs
heading_begins n ss e =
    let sign : List ℕ = past is_idle ss in
    let first : List ℕ = past is_mark_sign ss in
    let last : List ℕ = past is_idle (reverse ss) in
    let more : Rows = (if nat_lt 0 n then table_rows sign else []) ++ text_rows first last in
    let a = other_row (length sign == 0) line.Blank ((begins (codes "{|") sign, open_kind n) ∷ more) (λ z. absurd (cc)) e in
    let b = other_row (begins (codes "{|") sign) (open_kind n) more (open_no (nat_lt n MOST_TABLES)) a in
    let c = behind_tables (nat_lt 0 n) sign first last b in
    both_first (begins (codes "=") first) _ (heading_row first last (is_heading first last) refl c)

-- ---- signs of characters are bytes

front_bytes : (bs cs : List ℕ) → All IsByte (bs ++ cs) → All IsByte bs
front_bytes [] cs h = All-nil IsByte
front_bytes (b ∷ bs) cs h = All-cons IsByte b bs (All-head IsByte b (bs ++ cs) h) (front_bytes bs cs (All-tail IsByte b (bs ++ cs) h))

last_byte : (bs : List ℕ) (b : ℕ) → All IsByte (bs ++ b ∷ []) → IsByte b
last_byte [] b h = All-head IsByte b [] h
last_byte (c ∷ bs) b h = last_byte bs b (All-tail IsByte c (bs ++ b ∷ []) h)

run_bytes : (run : List ℕ) (xs : List Item) → AreTexts run xs → All IsByte run
run_bytes run [] h = utf8_bytes run h
run_bytes run (char o b ∷ xs) h = front_bytes run (b ∷ []) (run_bytes (run ++ b ∷ []) xs h.1)
run_bytes run (whole f o bs ∷ xs) h = utf8_bytes run h.0

texts_behind : (run : List ℕ) (xs ys : List Item) → AreTexts run (xs ++ ys) → (later : List ℕ) × AreTexts later ys
texts_behind run [] ys h = (run, h)
texts_behind run (char o b ∷ xs) ys h = texts_behind (run ++ b ∷ []) xs ys h.1
texts_behind run (whole f o bs ∷ xs) ys h = texts_behind [] xs ys h.1

abbrev pub IsByteItem : Item → Type 0
IsByteItem (char o b) = IsByte b
IsByteItem (whole f o bs) = Unit {0}

pub first_byte : (run : List ℕ) (x : Item) (xs : List Item) → AreTexts run (x ∷ xs) → IsByteItem x
first_byte run (char o b) xs h = last_byte run b (run_bytes (run ++ b ∷ []) xs h.1)
first_byte run (whole f o bs) xs h = tt

byte_item : (pages : Pages) (page : List ℕ) (before : Lines) (own : List Item) (after : Lines) → IsUtf8 page → refusal_of_page pages page ≡ None
    → full_lines (expanded_page pages page).items ≡ before ++ own ∷ after → (x : Item) (xs : List Item) → past_marks own ≡ x ∷ xs → IsByteItem x
byte_item pages page before own after u r are x xs e =
    let all : Lines = before ++ own ∷ after in
    let items : List Item = (expanded_page pages page).items in
    let runs : AreRuns goes_on all items = subst (λ (ks : Lines). AreRuns goes_on ks items) are (runs_are goes_on items) in
    let parts : items ≡ (joined before ++ led_by own) ++ ((x ∷ xs) ++ joined after) =
    joined_is goes_on all items runs ∙ joined_both before (own ∷ after)
    ∙ ap (λ (l : List Item). joined before ++ (l ++ joined after)) (sym (led_whole own) ∙ ap (λ (l : List Item). led_by own ++ l) e)
    ∙ ap (λ (l : List Item). joined before ++ l) (append_assoc (led_by own) (x ∷ xs) (joined after))
    ∙ sym (append_assoc (joined before) (led_by own) ((x ∷ xs) ++ joined after)) in
    let there = texts_behind [] (joined before ++ led_by own) ((x ∷ xs) ++ joined after) (subst (AreTexts []) parts (expanded_items pages page u r).texts) in
    first_byte there.0 x (xs ++ joined after) there.1

form_unmarked : (v : Bool) → v ≡ false → ((if v then 257 else 256) == 257) ≡ false
form_unmarked true e = absurd (cc)
form_unmarked false e = refl

small_unmarked : (b : ℕ) → b < 256 → (v : Bool) → (b == 257) ≡ v → v ≡ false
small_unmarked b h true e = absurd (omega (arith, h, eqb-true b 257 e))
small_unmarked b h false e = refl

sign_unmarked : (x : Item) → is_mark x ≡ false → IsByteItem x → is_mark_sign (sign x) ≡ false
sign_unmarked (char o b) e h = small_unmarked b h (b == 257) refl
sign_unmarked (whole f o bs) e h = form_unmarked (is_mark_form f) e

first_same : (s : ℕ) (ss ts : List ℕ) → begins (codes "=") (s ∷ ss) ≡ true → begins (codes "=") (s ∷ ts) ≡ true
first_same s ss ts h = h

past_one : (s : ℕ) (ss : List ℕ) → is_mark_sign s ≡ false → past is_mark_sign (s ∷ ss) ≡ s ∷ ss
past_one s ss e = ap (λ (v : Bool). if v then past is_mark_sign ss else s ∷ ss) e

content_begins : (n : ℕ) (x : Item) (xs : List Item) → is_mark_sign (sign x) ≡ false → kind_at n (x ∷ xs) ≡ line.Heading → begins (codes "=") (signs (x ∷ xs)) ≡ true
content_begins n x (y ∷ ys) u e =
    first_same (sign x) (signs (content (y ∷ ys))) (signs (y ∷ ys))
    (subst (λ (ss : List ℕ). begins (codes "=") ss ≡ true) (past_one (sign x) (signs (content (y ∷ ys))) u) (heading_begins n (signs (content (x ∷ y ∷ ys))) e))
content_begins n x [] u e = by (is_break_item x) (heading_begins n (signs (content (x ∷ []))) e)
  where
    by : (v : Bool) → begins (codes "=") (past is_mark_sign (signs (if v then [] else x ∷ []))) ≡ true → begins (codes "=") (signs (x ∷ [])) ≡ true
    by true h = absurd (cc)
    by false h = subst (λ (ss : List ℕ). begins (codes "=") ss ≡ true) (past_one (sign x) [] u) h

pub heading_signs : (n : ℕ) (x : Item) (xs : List Item) → is_mark x ≡ false → IsByteItem x → kind_at n (x ∷ xs) ≡ line.Heading
    → begins (codes "=") (signs (x ∷ xs)) ≡ true
heading_signs n x xs e h k = content_begins n x xs (sign_unmarked x e h) k

-- ---- behind its marks

item_or : Item → List Item → Item
item_or x [] = x
item_or x (y ∷ ys) = y

past_first : (l : List Item) (x : Item) (xs : List Item) → past_marks l ≡ x ∷ xs → is_mark x ≡ false
unfolding item_or
past_first [] x xs e = absurd (cc)
past_first (y ∷ ys) x xs e = by (is_mark y) refl e (past_first ys x xs)
  where
    by : (v : Bool) → is_mark y ≡ v → drop (cond v (1 + marks_len ys) 0) (y ∷ ys) ≡ x ∷ xs → (past_marks ys ≡ x ∷ xs → is_mark x ≡ false) → is_mark x ≡ false
    by true m h go =
        let z : 1 + marks_len ys ≡ suc (marks_len ys) = omega arith in
        go (sym (ap (λ (n : ℕ). drop n (y ∷ ys)) z) ∙ h)
    by false m h go = subst (λ (w : Item). is_mark w ≡ false) (ap (item_or y) h) m

pub head_begins : (pages : Pages) (page : List ℕ) (before : Lines) (own : List Item) (after : Lines) → IsUtf8 page → refusal_of_page pages page ≡ None
    → full_lines (expanded_page pages page).items ≡ before ++ own ∷ after → (n : ℕ) → kind_at n own ≡ line.Heading → 1 ≤ length (past_marks own)
    → begins (codes "=") (signs (past_marks own)) ≡ true
head_begins pages page before own after u r are n k some = by (past_marks own) refl
  where
    by : (ys : List Item) → past_marks own ≡ ys → begins (codes "=") (signs ys) ≡ true
    by [] e = absurd (omega (arith, some, ap length e))
    by (x ∷ xs) e =
        heading_signs n x xs (past_first own x xs e) (byte_item pages page before own after u r are x xs e)
        (subst (λ (zs : List Item). kind_at n zs ≡ line.Heading) e (kind_led n own some ∙ k))
