-- The rows of a page: gaps round items in UTF-8, which begin with the sign of their kind.
use Rattle.std.proofs.Common.{◌≡◌, ℕ, zero, suc, ◌+◌, ◌<◌, ◌≤◌, Bool, true, false, List, [], ◌∷◌, ◌++◌, length, map, take, drop, get_or, replicate, refl, sym, ap, ◌∙◌, subst, arith, append-nil, length-append}
use Rattle.std.specs.Prelude.{◌==◌, codes, if◌then◌else◌}
use Rattle.std.specs.List.{AllByRecursion, prefix_len}
use Rattle.std.proofs.lemmas.Bool.{eqb-true}
use Rattle.std.proofs.lemmas.List.{take-append-drop, get_or_append_left, map-append}
use Rattle.std.proofs.lemmas.Str.{IsUtf8-nil}
use Rattle.std.proofs.lemmas.Bool.Decides.{nat_tests}
use Rattle.wt_span.specs.Bytes.{begins}
use Rattle.wt_span.specs.Items.{Item, char, whole, sign}
use Rattle.wt_span.proofs.RunLaws.{runs_are}
use Rattle.wt_lex.proofs.Begins.{begins_get, begins_len}
use Rattle.wt_lines.specs.declared.kind.LineKind.{LineKind}
use Rattle.wt_lines.specs.declared.kind.LineKind.TheVariants as line
use Rattle.wt_lines.specs.Kinds.{past, is_idle, is_list}
use Rattle.wt_lines.specs.Lines.{content, full_lines, goes_on, is_break_item}
use Rattle.wt_tables.specs.Extents.{behind}
use Rattle.wt_page.specs.Lines.{kind_at, ending}
use Rattle.wt_page.specs.Rows.{Row, signs, marks_len, idle_len, whole_row, sign_row, behind_sign, is_unseen, sign_rows, dashes, line_rows, unwritten_end, rows_from, rows}
use Rattle.wt_page_round_trip.proofs.TextItems.{AreTexts, EndsLow, cut_after}
use Rattle.wt_page_round_trip.proofs.OfPage.{IsPageItem, AreOfPage, ArePageItems}
use Rattle.wt_page_round_trip.proofs.PageLines.{IsBetween, all_both, all_taken, all_dropped, taken_marks, marks_between, ending_between, content_ending, content_page, page_lines}
use Rattle.wt_page_round_trip.proofs.Idle.{IsSmallItem, texts_small, idle_item, idle_items, blank_line}
use Rattle.wt_page_round_trip.proofs.BodyParts.{IsHeadingLine}
use Rattle.wt_page_round_trip.proofs.HeadingLines.{ends_low, past_lead, heading_line, signs_len}
use Rattle.wt_page_round_trip.proofs.KindTests.{kind_told}
use Rattle.wt_page_round_trip.proofs.Separated.{white_low}

-- what may stand between blocks
abbrev pub IsGap : List Item → Type 0
IsGap xs = AreOfPage xs × AllByRecursion IsBetween xs

-- what the items of a row are by its kind
abbrev pub IsSeen : LineKind → List Item → Type 0
IsSeen line.Blank xs = AllByRecursion IsBetween xs
IsSeen line.TableOpen xs = begins (codes "{|") (signs xs) ≡ true
IsSeen line.TableEnd xs = Unit {0}
IsSeen line.Caption xs = begins (codes "|+") (signs xs) ≡ true
IsSeen line.Row xs = begins (codes "|-") (signs xs) ≡ true
IsSeen line.Cell xs = begins (codes "|") (signs xs) ≡ true
IsSeen line.Header xs = begins (codes "!") (signs xs) ≡ true
IsSeen line.Heading xs = IsHeadingLine xs
IsSeen line.Rule xs = Unit {0}
IsSeen line.List xs = is_list (signs xs) ≡ true
IsSeen line.Pre xs = begins (codes " ") (signs xs) ≡ true
IsSeen line.Text xs = Unit {0}

pub record IsGoodRow (r : Row) : Type 0 where
  pub lead : IsGap r.lead
  pub items : ArePageItems r.items
  pub ending : IsGap r.ending
  pub seen : IsSeen r.kind r.items

abbrev pub AreGoodRows : List Row → Type 0
AreGoodRows rs = AllByRecursion IsGoodRow rs

-- ---- items that end low

abbrev pub IsLowItem : Item → Type 0
IsLowItem (char o b) = b < 128
IsLowItem (whole f o bs) = Unit {0}

ends_on : (x : Item) (xs : List Item) → IsLowItem x → EndsLow xs → EndsLow (x ∷ xs)
ends_on (char o b) [] l e = l
ends_on (whole f o bs) [] l e = tt
ends_on x (y ∷ xs) l e = e

pub low_ends : (xs : List Item) → AllByRecursion IsLowItem xs → EndsLow xs
low_ends [] a = tt
low_ends (x ∷ xs) a = ends_on x xs a.0 (low_ends xs a.1)

between_low : (xs : List Item) → AllByRecursion IsBetween xs → AllByRecursion IsLowItem xs
between_low [] a = tt
between_low (char o b ∷ xs) a = (white_low b a.0, between_low xs a.1)
between_low (whole f o bs ∷ xs) a = (tt, between_low xs a.1)

pub low_item : (x : Item) → sign x < 128 → IsLowItem x
low_item (char o b) l = l
low_item (whole f o bs) l = tt

-- a run of low signs
pub passing_low : (p : ℕ → Bool) → ((s : ℕ) → p s ≡ true → s < 128) → (xs : List Item) → AllByRecursion IsLowItem (take (prefix_len p (map sign xs)) xs)
passing_low p low [] = tt
passing_low p low (x ∷ xs) = by_test (p (sign x)) refl (passing_low p low xs)
  where
    by_test : (t : Bool) → p (sign x) ≡ t → AllByRecursion IsLowItem (take (prefix_len p (map sign xs)) xs)
        → AllByRecursion IsLowItem (take (if t then 1 + prefix_len p (map sign xs) else 0) (x ∷ xs))
    by_test true e a =
        let z : 1 + prefix_len p (map sign xs) ≡ suc (prefix_len p (map sign xs)) = omega arith in
        subst (λ n. AllByRecursion IsLowItem (take n (x ∷ xs))) (sym z) (low_item x (low (sign x) e), a)
    by_test false e a = tt

-- items behind others that end low
pub behind_items : (n : ℕ) (l : List Item) → ArePageItems l → EndsLow (take n l) → ArePageItems (take n l) × ArePageItems (drop n l)
behind_items n l h e =
    let t : AreTexts [] (take n l) × AreTexts [] (drop n l) = cut_after (take n l) (drop n l) e (subst (AreTexts []) (sym (take-append-drop n l)) h.texts) in
    (record { texts = t.0; page = all_taken IsPageItem n l h.page }, record { texts = t.1; page = all_dropped IsPageItem n l h.page })

-- ---- the lead of a line

marks_gap : (l : List Item) → ArePageItems l → IsGap (take (marks_len l) l)
marks_gap l h = (all_taken IsPageItem (marks_len l) l h.page, marks_between (take (marks_len l) l) (taken_marks l))

taken_idle : (l : List Item) → AllByRecursion IsSmallItem l → AllByRecursion IsBetween (take (idle_len l) l)
taken_idle [] s = tt
taken_idle (x ∷ xs) s = by_test (is_idle (sign x)) refl (taken_idle xs s.1)
  where
    by_test : (t : Bool) → is_idle (sign x) ≡ t → AllByRecursion IsBetween (take (idle_len xs) xs)
        → AllByRecursion IsBetween (take (if t then 1 + idle_len xs else 0) (x ∷ xs))
    by_test true e a =
        let z : 1 + idle_len xs ≡ suc (idle_len xs) = omega arith in
        subst (λ n. AllByRecursion IsBetween (take n (x ∷ xs))) (sym z) (idle_item x s.0 e, a)
    by_test false e a = tt

idle_gap : (l : List Item) → ArePageItems l → IsGap (take (idle_len l) l)
idle_gap l h = (all_taken IsPageItem (idle_len l) l h.page, taken_idle l (texts_small l h.texts))

break_shown : (b : ℕ) → is_idle b ≡ true → (b == 10) ≡ false
break_shown b h = grind (arith, nat_tests)

pub idle_no_break : (x : Item) → is_idle (sign x) ≡ true → is_break_item x ≡ false
idle_no_break (char o b) e = break_shown b e
idle_no_break (whole f o bs) e = refl

idle_front : (x : Item) (ss : List ℕ) (t : Bool) → is_idle (sign x) ≡ t → past is_idle (sign x ∷ ss) ≡ (if t then past is_idle ss else sign x ∷ ss)
idle_front x ss t e = ap (λ u. if u then past is_idle ss else sign x ∷ ss) e

past_idle : (l : List Item) → past is_idle (signs (content l)) ≡ signs (content (drop (idle_len l) l))
past_idle [] = refl
past_idle (x ∷ []) = by_test (is_idle (sign x)) refl
  where
    by_break : (t : Bool) → is_break_item x ≡ t → is_idle (sign x) ≡ false → past is_idle (signs (if t then [] else x ∷ [])) ≡ signs (if t then [] else x ∷ [])
    by_break true f e = refl
    by_break false f e = idle_front x [] false e

    by_test : (t : Bool) → is_idle (sign x) ≡ t → past is_idle (signs (content (x ∷ []))) ≡ signs (content (drop (if t then 1 + 0 else 0) (x ∷ [])))
    by_test true e = ap (λ u. past is_idle (signs (if u then [] else x ∷ []))) (idle_no_break x e) ∙ idle_front x [] true e
    by_test false e = by_break (is_break_item x) refl e
past_idle (x ∷ y ∷ ys) = by_test (is_idle (sign x)) refl (past_idle (y ∷ ys))
  where
    by_test : (t : Bool) → is_idle (sign x) ≡ t → past is_idle (signs (content (y ∷ ys))) ≡ signs (content (drop (idle_len (y ∷ ys)) (y ∷ ys)))
        → past is_idle (signs (content (x ∷ y ∷ ys))) ≡ signs (content (drop (if t then 1 + idle_len (y ∷ ys) else 0) (x ∷ y ∷ ys)))
    by_test true e more =
        let z : 1 + idle_len (y ∷ ys) ≡ suc (idle_len (y ∷ ys)) = omega arith in
        idle_front x (signs (content (y ∷ ys))) true e ∙ more ∙ ap (λ n. signs (content (drop n (x ∷ y ∷ ys)))) (sym z)
    by_test false e more = idle_front x (signs (content (y ∷ ys))) false e

-- ---- one row

whole_good : (k : LineKind) (n : ℕ) (l : List Item) → ArePageItems l → IsGap (take n l) → IsSeen k (content (drop n l)) → IsGoodRow (whole_row k n l)
whole_good k n l h g s =
    let rest : ArePageItems (drop n l) = (behind_items n l h (low_ends (take n l) (between_low (take n l) g.1))).1 in
    let c : ArePageItems (content (drop n l)) × ArePageItems (ending (drop n l)) = content_page (drop n l) rest in
    record { lead = g; items = c.0; ending = (c.1.page, ending_between (drop n l)); seen = s }

-- nothing but blanks and marks
unseen_gap : (l : List Item) → ArePageItems l → is_unseen l ≡ true → IsGap l
unseen_gap l h e =
    let small : AllByRecursion IsSmallItem (content l) = texts_small (content l) (content_page l h).0.texts in (
      h.page,
      subst (λ xs. AllByRecursion IsBetween xs) (content_ending l)
          (all_both IsBetween (content l) (ending l) (idle_items (content l) small e) (ending_between l)),
    )

signs_good : (k : LineKind) (n m : ℕ) (l : List Item) → ArePageItems l → IsGap (take n l) → EndsLow (take m (drop n l)) → ((xs : List Item) → IsSeen k xs)
    → AreGoodRows (sign_rows k n m l)
signs_good k n m l h g e s = by_test (is_unseen (behind_sign n m l)) refl
  where
    rest : ArePageItems (drop n l)
    rest = (behind_items n l h (low_ends (take n l) (between_low (take n l) g.1))).1

    parts : ArePageItems (take m (drop n l)) × ArePageItems (drop m (drop n l))
    parts = behind_items m (drop n l) rest e

    by_test : (t : Bool) → is_unseen (behind_sign n m l) ≡ t → AreGoodRows (if t then sign_row k n m l (behind_sign n m l) ∷ []
        else sign_row k n m l [] ∷ whole_row line.Text (marks_len (behind_sign n m l)) (behind_sign n m l) ∷ [])
    by_test true f = (record { lead = g; items = parts.0; ending = unseen_gap (behind_sign n m l) parts.1 f; seen = s _ }, tt)
    by_test false f = (
      record { lead = g; items = parts.0; ending = (tt, tt); seen = s _ },
      (whole_good line.Text (marks_len (behind_sign n m l)) (behind_sign n m l) parts.1 (marks_gap (behind_sign n m l) parts.1) tt, tt),
    )

-- ---- the rows of a line

pub dash_low : (s : ℕ) → (s == 45) ≡ true → s < 128
dash_low s e = let f : s ≡ 45 = eqb-true s 45 e in omega (arith, f)

-- two low signs
two_low : (xs : List Item) → begins (codes "|}") (signs (content xs)) ≡ true → EndsLow (take 2 xs)
two_low xs e =
    let n : 2 ≤ length (signs (content xs)) = begins_len (codes "|}") (signs (content xs)) e in
    let all : signs (content xs) ++ signs (ending xs) ≡ signs xs = sym (map-append sign (content xs) (ending xs)) ∙ ap signs (content_ending xs) in
    let len : length (signs xs) ≡ length (signs (content xs)) + length (signs (ending xs)) =
    ap length (sym all) ∙ length-append (signs (content xs)) (signs (ending xs)) in
    let m : length (signs xs) ≡ length xs = signs_len xs in
    let at : get_or (signs xs) 1 0 ≡ 125 = ap (λ ss. get_or ss 1 0) (sym all)
    ∙ get_or_append_left (signs (content xs)) (signs (ending xs)) 0 1 (omega (arith, n)) ∙ begins_get (codes "|}") (signs (content xs)) e 1 (omega arith) in
    ends_low xs 1 (omega (arith, n, len, m)) (omega (arith, at))

pub line_good : (tables : ℕ) (l : List Item) → ArePageItems l → (k : LineKind) → kind_at tables l ≡ k → AreGoodRows (line_rows k l)
line_good tables l h line.Blank e =
    (record { lead = (tt, tt); items = h; ending = (tt, tt); seen = blank_line tables l (texts_small l h.texts) e }, tt)
line_good tables l h line.TableOpen e =
    let t = kind_told tables (signs (content l)) line.TableOpen e in
    (whole_good line.TableOpen (idle_len l) l h (idle_gap l h) (subst (λ ss. begins (codes "{|") ss ≡ true) (past_idle l) t), tt)
line_good tables l h line.TableEnd e =
    let t = kind_told tables (signs (content l)) line.TableEnd e in
    signs_good line.TableEnd (idle_len l) 2 l h (idle_gap l h) (two_low (drop (idle_len l) l) (subst (λ ss. begins (codes "|}") ss ≡ true) (past_idle l) t))
    (λ xs. tt)
line_good tables l h line.Caption e =
    let t = kind_told tables (signs (content l)) line.Caption e in
    (whole_good line.Caption (idle_len l) l h (idle_gap l h) (subst (λ ss. begins (codes "|+") ss ≡ true) (past_idle l) t), tt)
line_good tables l h line.Row e =
    let t = kind_told tables (signs (content l)) line.Row e in
    (whole_good line.Row (idle_len l) l h (idle_gap l h) (subst (λ ss. begins (codes "|-") ss ≡ true) (past_idle l) t), tt)
line_good tables l h line.Cell e =
    let t = kind_told tables (signs (content l)) line.Cell e in
    (whole_good line.Cell (idle_len l) l h (idle_gap l h) (subst (λ ss. begins (codes "|") ss ≡ true) (past_idle l) t), tt)
line_good tables l h line.Header e =
    let t = kind_told tables (signs (content l)) line.Header e in
    (whole_good line.Header (idle_len l) l h (idle_gap l h) (subst (λ ss. begins (codes "!") ss ≡ true) (past_idle l) t), tt)
line_good tables l h line.Heading e = (
  whole_good line.Heading (marks_len l) l h (marks_gap l h)
      (subst IsHeadingLine (append-nil (content (drop (marks_len l) l))) (heading_line tables l h e)),
  tt,
)
line_good tables l h line.Rule e =
    signs_good line.Rule (marks_len l) (dashes (drop (marks_len l) l)) l h (marks_gap l h)
    (low_ends (take (dashes (drop (marks_len l) l)) (drop (marks_len l) l)) (passing_low (λ s. s == 45) dash_low (drop (marks_len l) l))) (λ xs. tt)
line_good tables l h line.List e =
    let t = kind_told tables (signs (content l)) line.List e in
    (whole_good line.List (marks_len l) l h (marks_gap l h) (subst (λ ss. is_list ss ≡ true) (past_lead l (texts_small l h.texts)) t), tt)
line_good tables l h line.Pre e =
    let t = kind_told tables (signs (content l)) line.Pre e in
    (whole_good line.Pre (marks_len l) l h (marks_gap l h) (subst (λ ss. begins (codes " ") ss ≡ true) (past_lead l (texts_small l h.texts)) t), tt)
line_good tables l h line.Text e = (whole_good line.Text (marks_len l) l h (marks_gap l h) tt, tt)

-- ---- the rows of a page

unwritten_good : (n : ℕ) → AreGoodRows (replicate n unwritten_end)
unwritten_good zero = tt
unwritten_good (suc n) = (record { lead = (tt, tt); items = record { texts = IsUtf8-nil; page = tt }; ending = (tt, tt); seen = tt }, unwritten_good n)

from_good : (tables : ℕ) (ls : List (List Item)) → AllByRecursion ArePageItems ls → AreGoodRows (rows_from tables ls)
from_good tables [] h = unwritten_good tables
from_good tables (l ∷ ls) h =
    let k : LineKind = kind_at tables l in
    all_both IsGoodRow (line_rows k l) (rows_from (behind tables k) ls) (line_good tables l h.0 k refl) (from_good (behind tables k) ls h.1)

pub page_rows : (xs : List Item) → ArePageItems xs → AreGoodRows (rows xs)
unfolding rows
page_rows xs h = from_good 0 (full_lines xs) (page_lines (full_lines xs) xs (runs_are goes_on xs) h.texts h.page)
