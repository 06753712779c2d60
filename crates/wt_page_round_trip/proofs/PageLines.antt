-- The lines of an expanded page: texts in UTF-8 and whole forms.
use Rattle.std.proofs.Common.{◌≡◌, ℕ, suc, ◌+◌, Bool, true, false, List, [], ◌∷◌, ◌++◌, take, drop, refl, sym, ap, subst, arith, append-nil}
use Rattle.std.specs.Prelude.{◌==◌, not, if◌then◌else◌}
use Rattle.std.specs.List.{AllByRecursion, prefix_len}
use Rattle.std.proofs.lemmas.Bool.{eqb-true}
use Rattle.std.proofs.lemmas.List.{take-append-drop}
use Rattle.wt_recut.specs.Recut.{is_blank as is_white}
use Rattle.wt_span.specs.Items.{Item, char, whole, is_mark, is_mark_form}
use Rattle.wt_span.specs.Runs.{IsRun, AreRuns}
use Rattle.wt_lines.specs.Lines.{is_break_item, goes_on, content}
use Rattle.wt_page.specs.Lines.{ending}
use Rattle.wt_page_round_trip.proofs.TextItems.{AreTexts, BeginsLow, EndsLow, cut_after, cut_items_before, texts_both}
use Rattle.wt_page_round_trip.proofs.OfPage.{IsPageItem, AreOfPage, ArePageItems, no_page_items}

-- ---- all items of a list

pub all_left : {A : Type 0} (P : A → Type 0) (xs ys : List A) → AllByRecursion P (xs ++ ys) → AllByRecursion P xs
all_left P [] ys h = tt
all_left P (x ∷ xs) ys h = (h.0, all_left P xs ys h.1)

pub all_right : {A : Type 0} (P : A → Type 0) (xs ys : List A) → AllByRecursion P (xs ++ ys) → AllByRecursion P ys
all_right P [] ys h = h
all_right P (x ∷ xs) ys h = all_right P xs ys h.1

pub all_both : {A : Type 0} (P : A → Type 0) (xs ys : List A) → AllByRecursion P xs → AllByRecursion P ys → AllByRecursion P (xs ++ ys)
all_both P [] ys h k = k
all_both P (x ∷ xs) ys h k = (h.0, all_both P xs ys h.1 k)

pub all_taken : {A : Type 0} (P : A → Type 0) (n : ℕ) (xs : List A) → AllByRecursion P xs → AllByRecursion P (take n xs)
all_taken {A} P n xs h = all_left P (take n xs) (drop n xs) (subst (λ (ys : List A). AllByRecursion P ys) (sym (take-append-drop n xs)) h)

pub all_dropped : {A : Type 0} (P : A → Type 0) (n : ℕ) (xs : List A) → AllByRecursion P xs → AllByRecursion P (drop n xs)
all_dropped {A} P n xs h = all_right P (take n xs) (drop n xs) (subst (λ (ys : List A). AllByRecursion P ys) (sym (take-append-drop n xs)) h)

-- ---- items one behind another

pub both_page : (xs ys : List Item) → ArePageItems xs → ArePageItems ys → ArePageItems (xs ++ ys)
both_page xs ys h i = record { texts = texts_both [] xs ys h.texts i.texts; page = all_both IsPageItem xs ys h.page i.page }

-- ---- lines

break_low : (x : Item) → is_break_item x ≡ true → EndsLow (x ∷ [])
break_low (char o b) e = let f : b ≡ 10 = eqb-true b 10 e in omega (arith, f)
break_low (whole f o bs) e = absurd cc

not_goes : (b : Bool) → not b ≡ false → b ≡ true
not_goes true e = refl
not_goes false e = absurd cc

-- a line before another ends with its line break
line_ends : (r : List Item) (y : Item) (others : List Item) → IsRun goes_on r (y ∷ others) → EndsLow r
line_ends [] y others h = absurd h
line_ends (x ∷ []) y others h = break_low x (not_goes (is_break_item x) h)
line_ends (x ∷ z ∷ zs) y others h = line_ends (z ∷ zs) y others h.1

cut_line : (r others : List Item) → IsRun goes_on r others → AreTexts [] (r ++ others) → AreTexts [] r × AreTexts [] others
cut_line r [] h t = (subst (AreTexts []) (append-nil r) t, no_page_items.texts)
cut_line r (y ∷ others) h t = cut_after r (y ∷ others) (line_ends r y others h) t

pub page_lines : (rs : List (List Item)) (xs : List Item) → AreRuns goes_on rs xs → AreTexts [] xs → AreOfPage xs → AllByRecursion ArePageItems rs
page_lines [] xs h t p = tt
page_lines (r ∷ rs) xs h t p =
    let q : AreTexts [] r × AreTexts [] h.0 = cut_line r h.0 h.2 (subst (AreTexts []) h.1 t) in
    let v : AreOfPage (r ++ h.0) = subst AreOfPage h.1 p in
    (record { texts = q.0; page = all_left IsPageItem r h.0 v }, page_lines rs h.0 h.3 q.1 (all_right IsPageItem r h.0 v))

-- ---- marks and line breaks

abbrev pub is_white_byte : ℕ → Bool
is_white_byte b = is_white (b ∷ [])

-- an item that stands between blocks: a space, a tab, a line break or a mark
abbrev pub IsBetween : Item → Type 0
IsBetween (char o b) = is_white_byte b ≡ true
IsBetween (whole f o bs) = is_mark_form f ≡ true

abbrev pub IsMark : Item → Type 0
IsMark x = is_mark x ≡ true

pub marks_between : (xs : List Item) → AllByRecursion IsMark xs → AllByRecursion IsBetween xs
marks_between [] h = tt
marks_between (char o b ∷ xs) h = absurd (let e = h.0 in cc)
marks_between (whole f o bs ∷ xs) h = (h.0, marks_between xs h.1)

pub taken_marks : (l : List Item) → AllByRecursion IsMark (take (prefix_len is_mark l) l)
taken_marks [] = tt
taken_marks (x ∷ xs) = by_test (is_mark x) refl (taken_marks xs)
  where
    by_test : (b : Bool) → is_mark x ≡ b → AllByRecursion IsMark (take (prefix_len is_mark xs) xs)
        → AllByRecursion IsMark (take (if b then 1 + prefix_len is_mark xs else 0) (x ∷ xs))
    by_test true e h = let z : 1 + prefix_len is_mark xs ≡ suc (prefix_len is_mark xs) = omega arith in
        subst (λ n. AllByRecursion IsMark (take n (x ∷ xs))) (sym z) (e, h)
    by_test false e h = tt

break_between : (x : Item) → AllByRecursion IsBetween (if is_break_item x then x ∷ [] else [])
break_between (char o b) = by_test (b == 10) refl
  where
    by_test : (t : Bool) → (b == 10) ≡ t → AllByRecursion IsBetween (if t then char o b ∷ [] else [])
    by_test true e = (ap is_white_byte (eqb-true b 10 e), tt)
    by_test false e = tt
break_between (whole f o bs) = tt

pub ending_between : (l : List Item) → AllByRecursion IsBetween (ending l)
ending_between [] = tt
ending_between (x ∷ []) = break_between x
ending_between (x ∷ y ∷ ys) = ending_between (y ∷ ys)

break_begins : (x : Item) → BeginsLow (if is_break_item x then x ∷ [] else [])
break_begins (char o b) = by_test (b == 10) refl
  where
    by_test : (t : Bool) → (b == 10) ≡ t → BeginsLow (if t then char o b ∷ [] else [])
    by_test true e = let f : b ≡ 10 = eqb-true b 10 e in omega (arith, f)
    by_test false e = tt
break_begins (whole f o bs) = tt

pub ending_begins : (l : List Item) → BeginsLow (ending l)
ending_begins [] = tt
ending_begins (x ∷ []) = break_begins x
ending_begins (x ∷ y ∷ ys) = ending_begins (y ∷ ys)

-- ---- a line and its line break

ending_by : (x : Item) (v : Bool) → (if v then [] else x ∷ []) ++ (if v then x ∷ [] else []) ≡ x ∷ []
ending_by x true = refl
ending_by x false = refl

pub content_ending : (xs : List Item) → content xs ++ ending xs ≡ xs
content_ending [] = refl
content_ending (x ∷ []) = ending_by x (is_break_item x)
content_ending (x ∷ y ∷ ys) = ap (λ zs. x ∷ zs) (content_ending (y ∷ ys))

-- a line and its line break
pub content_page : (l : List Item) → ArePageItems l → ArePageItems (content l) × ArePageItems (ending l)
content_page l h =
    let t : AreTexts [] (content l) × AreTexts [] (ending l) = cut_items_before [] (content l) (ending l) (ending_begins l)
    (subst (AreTexts []) (sym (content_ending l)) h.texts) in
    let p : AreOfPage (content l ++ ending l) = subst AreOfPage (sym (content_ending l)) h.page in
    (record { texts = t.0; page = all_left IsPageItem (content l) (ending l) p }, record { texts = t.1; page = all_right IsPageItem (content l) (ending l) p })
