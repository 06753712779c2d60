-- The line of a heading: its level, and where its delimiters end.
use Rattle.std.proofs.Common.{◌≡◌, ℕ, zero, suc, ◌+◌, ◌-◌, ◌<◌, ◌≤◌, Bool, true, false, List, [], ◌∷◌, ◌++◌, length, take, drop, map, get_or, inl, inr, refl, sym, ap, ap₂, ◌∙◌, subst, arith, append-nil, length-take, length-drop}
use Rattle.std.specs.Prelude.{◌==◌, ◌&&◌, ◌||◌, not, reverse, codes, if◌then◌else◌}
use Rattle.std.specs.List.{AllByRecursion, prefix_len}
use Rattle.std.proofs.lemmas.Bool.{true≢false, and_parts, cases_lt}
use Rattle.std.proofs.lemmas.Bool.Decides.{nat_tests}
use Rattle.std.proofs.lemmas.List.Folds.{prefix_len-append}
use Rattle.std.proofs.lemmas.List.{take-append-drop, get_or_append_left, get_or-take, get_or-drop, get_or-reverse, length-reverse, reverse-append}
use Rattle.std.proofs.lemmas.List.Sums.{prefix_len_passes}
use Rattle.wt_html_grammar.proofs.Steps.{if_false}
use Rattle.wt_span.specs.Bytes.{begins}
use Rattle.wt_span.specs.Items.{Item, char, whole, sign, is_mark, is_mark_form}
use Rattle.wt_tree.specs.declared.kind.Kind.TheVariants as kind
use Rattle.wt_tree.specs.Kinds.{spelling}
use Rattle.wt_lex.proofs.Begins.{begins_get, begins_len}
use Rattle.wt_lines.specs.declared.kind.LineKind.TheVariants as line
use Rattle.wt_lines.specs.Kinds.{is_mark_sign, is_idle, past, is_idle_all, is_alone, is_heading, kind_of_signs}
use Rattle.wt_lines.specs.Lines.{content, is_break_item}
use Rattle.wt_schema.specs.Written.{has_level}
use Rattle.wt_blocks.specs.Headings.{core, level_of, open_len, trimmed_len, level, opening, closing}
use Rattle.wt_page.specs.Rows.{marks_len}
use Rattle.wt_page_round_trip.proofs.TextItems.{BeginsLow, EndsLow}
use Rattle.wt_page_round_trip.proofs.OfPage.{ArePageItems}
use Rattle.wt_page_round_trip.proofs.Idle.{IsSmallItem, texts_small}
use Rattle.wt_page_round_trip.proofs.BodyParts.{IsHeadingLine}
use Rattle.wt_page_round_trip.proofs.Delimiters.{IsLevel, level_is, open_sign, middle, close_sign}
use Rattle.wt_page_round_trip.proofs.KindTests.{kind_told}

-- ---- items by their signs

pub ends_low : (xs : List Item) (k : ℕ) → k < length xs → get_or (map sign xs) k 0 < 128 → EndsLow (take (suc k) xs)
ends_low [] k h l = absurd (omega arith)
ends_low (char o b ∷ []) zero h l = l
ends_low (char o b ∷ y ∷ ys) zero h l = l
ends_low (whole f o bs ∷ []) zero h l = tt
ends_low (whole f o bs ∷ y ∷ ys) zero h l = tt
ends_low (x ∷ []) (suc k) h l = absurd (omega arith)
ends_low (x ∷ y ∷ ys) (suc k) h l = ends_low (y ∷ ys) k (omega arith) l

pub begins_low : (xs : List Item) (k : ℕ) → (k < length xs → get_or (map sign xs) k 0 < 128) → BeginsLow (drop k xs)
begins_low [] zero f = tt
begins_low [] (suc k) f = tt
begins_low (char o b ∷ xs) zero f = f (omega arith)
begins_low (whole g o bs ∷ xs) zero f = tt
begins_low (x ∷ xs) (suc k) f = begins_low xs k (λ h. f (omega arith))

pub signs_len : (xs : List Item) → length (map sign xs) ≡ length xs
signs_len [] = refl
signs_len (x ∷ xs) = ap suc (signs_len xs)

-- ---- the kind of the line

heading_signs : (tables : ℕ) (ss : List ℕ) → kind_of_signs tables ss ≡ line.Heading → is_heading (past is_mark_sign ss) (past is_idle (reverse ss)) ≡ true
heading_signs tables ss h = kind_told tables ss line.Heading h

-- ---- the marks before the first visible item

small_sign : (x : Item) → IsSmallItem x → is_mark_sign (sign x) ≡ is_mark x
small_sign (char o b) h = differ b h
  where
    differ : (b : ℕ) → b < 256 → (b == 257) ≡ false
    differ b h = grind (arith, nat_tests)
small_sign (whole f o bs) h = by_test (is_mark_form f)
  where
    by_test : (t : Bool) → is_mark_sign (if t then 257 else 256) ≡ t
    by_test true = refl
    by_test false = refl

pub mark_is_none : (x : Item) → is_mark x ≡ true → is_break_item x ≡ false
mark_is_none (char o b) e = absurd cc
mark_is_none (whole f o bs) e = refl

past_front : (x : Item) (ss : List ℕ) (b : Bool) → IsSmallItem x → is_mark x ≡ b
    → past is_mark_sign (sign x ∷ ss) ≡ (if b then past is_mark_sign ss else sign x ∷ ss)
past_front x ss b h e = ap (λ t. if t then past is_mark_sign ss else sign x ∷ ss) (small_sign x h ∙ e)

pub past_lead : (l : List Item) → AllByRecursion IsSmallItem l → past is_mark_sign (map sign (content l)) ≡ map sign (content (drop (marks_len l) l))
past_lead [] h = refl
past_lead (x ∷ []) h = by_test (is_mark x) refl
  where
    by_mark : (t : Bool) → is_break_item x ≡ t → is_mark x ≡ false → past is_mark_sign (map sign (if t then [] else x ∷ []))
        ≡ map sign (if t then [] else x ∷ [])
    by_mark true f e = refl
    by_mark false f e = past_front x [] false h.0 e

    by_test : (b : Bool) → is_mark x ≡ b → past is_mark_sign (map sign (content (x ∷ []))) ≡ map sign (content (drop (if b then 1 + 0 else 0) (x ∷ [])))
    by_test true e = ap (λ t. past is_mark_sign (map sign (if t then [] else x ∷ []))) (mark_is_none x e) ∙ past_front x [] true h.0 e
    by_test false e = by_mark (is_break_item x) refl e
past_lead (x ∷ y ∷ ys) h = by_test (is_mark x) refl (past_lead (y ∷ ys) h.1)
  where
    by_test : (b : Bool) → is_mark x ≡ b → past is_mark_sign (map sign (content (y ∷ ys))) ≡ map sign (content (drop (marks_len (y ∷ ys)) (y ∷ ys)))
        → past is_mark_sign (map sign (content (x ∷ y ∷ ys))) ≡ map sign (content (drop (if b then 1 + marks_len (y ∷ ys) else 0) (x ∷ y ∷ ys)))
    by_test true e more =
        let z : 1 + marks_len (y ∷ ys) ≡ suc (marks_len (y ∷ ys)) = omega arith in
        past_front x (map sign (content (y ∷ ys))) true h.0 e ∙ more ∙ ap (λ n. map sign (content (drop n (x ∷ y ∷ ys)))) (sym z)
    by_test false e more = past_front x (map sign (content (y ∷ ys))) false h.0 e

past_drop : (p : ℕ → Bool) (ss : List ℕ) → past p ss ≡ drop (prefix_len p ss) ss
past_drop p [] = refl
past_drop p (s ∷ ss) = by_test (p s) (past_drop p ss)
  where
    by_test : (t : Bool) → past p ss ≡ drop (prefix_len p ss) ss → (if t then past p ss else s ∷ ss) ≡ drop (if t then 1 + prefix_len p ss else 0) (s ∷ ss)
    by_test true e = let z : 1 + prefix_len p ss ≡ suc (prefix_len p ss) = omega arith in e ∙ ap (λ n. drop n (s ∷ ss)) (sym z)
    by_test false e = refl

-- ---- the signs of the line from its first visible item on

equals_not_idle : (b : ℕ) → b ≡ 61 → is_idle b ≡ true → ⊥
equals_not_idle b e h = true≢false (sym h ∙ ap is_idle e)

idle_rest : (ys : List ℕ) → ((i : ℕ) → i < length ys → is_idle (get_or ys i 0) ≡ true) → is_idle_all ys ≡ true
idle_rest [] h = refl
idle_rest (y ∷ ys) h =
    ap (λ t. length (if t then past is_idle ys else y ∷ ys) == 0) (h 0 (omega arith)) ∙ idle_rest ys (λ i l. h (suc i) (omega arith))

begins_two : (ss : List ℕ) → 2 ≤ length ss → get_or ss 0 0 ≡ 61 → get_or ss 1 0 ≡ 61 → begins (codes "==") ss ≡ true
begins_two [] l e f = absurd (omega arith)
begins_two (a ∷ []) l e f = absurd (omega arith)
begins_two (a ∷ b ∷ ss) l e f = ap₂ (λ x y. begins (codes "==") (x ∷ y ∷ ss)) e f

-- what the kind of a heading tells: it begins with `=`, its last visible sign is `=`, and it isn't `=` or `==` alone
record IsHeadingSigns (ss : List ℕ) : Type 0 where
  pub first : begins (codes "=") ss ≡ true
  pub last : (idle : prefix_len is_idle (reverse ss) < length ss) → get_or (reverse ss) (prefix_len is_idle (reverse ss)) 0 ≡ 61
  pub one : is_alone (codes "=") ss ≡ false
  pub two : is_alone (codes "==") ss ≡ false

not_either : (a b : Bool) → not (a || b) ≡ true → (a ≡ false) × (b ≡ false)
not_either true b h = absurd cc
not_either false true h = absurd cc
not_either false false h = (refl, refl)

-- signs before the line, which are marks, don't change its end
last_sign : (ss ms : List ℕ) → begins (codes "=") (past is_idle (reverse ss ++ ms)) ≡ true
    → prefix_len is_idle (reverse ss) < length ss → get_or (reverse ss) (prefix_len is_idle (reverse ss)) 0 ≡ 61
last_sign ss ms h l =
    let rs : List ℕ = reverse ss in
    let j : ℕ = prefix_len is_idle rs in
    let n : length rs ≡ length ss = length-reverse ss in
    let p : prefix_len is_idle (rs ++ ms) ≡ j = prefix_len-append is_idle rs ms ∙ if_false (j == length rs) _ _ (differ j (length rs) (omega (arith, n))) in
    let q : begins (codes "=") (drop j (rs ++ ms)) ≡ true = ap (λ k. begins (codes "=") (drop k (rs ++ ms))) (sym p)
    ∙ ap (begins (codes "=")) (sym (past_drop is_idle (rs ++ ms))) ∙ h in
    let z : j + 0 ≡ j = omega arith in
    sym (get_or_append_left rs ms 0 j (omega (arith, n))) ∙ ap (λ k. get_or (rs ++ ms) k 0) (sym z)
    ∙ sym (get_or-drop j (rs ++ ms) 0 0) ∙ begins_get (codes "=") (drop j (rs ++ ms)) q 0 (omega arith)
  where
    differ : (m n : ℕ) → m < n → (m == n) ≡ false
    differ m n h = grind (arith, nat_tests)

signs_told : (signs ss : List ℕ) → past is_mark_sign signs ≡ ss → is_heading (past is_mark_sign signs) (past is_idle (reverse signs)) ≡ true → IsHeadingSigns ss
signs_told signs ss e h =
    let g : is_heading ss (past is_idle (reverse signs)) ≡ true = ap (λ x. is_heading x (past is_idle (reverse signs))) (sym e) ∙ h in
    let q = and_parts _ _ g in
    let r = and_parts _ _ q.1 in
    let s = not_either (is_alone (codes "=") ss) (is_alone (codes "==") ss) r.1 in
    let k : ℕ = prefix_len is_mark_sign signs in
    let a : take k signs ++ ss ≡ signs = ap (λ x. take k signs ++ x) (sym e ∙ past_drop is_mark_sign signs) ∙ take-append-drop k signs in
    let b : reverse ss ++ reverse (take k signs) ≡ reverse signs = sym (reverse-append (take k signs) ss) ∙ ap reverse a in
    record {
      first = q.0;
      last = λ l. last_sign ss (reverse (take k signs)) (ap (λ x. begins (codes "=") (past is_idle x)) b ∙ r.0) l;
      one = s.0;
      two = s.1;
    }

idle_before : (ss : List ℕ) → 0 < length ss → get_or ss 0 0 ≡ 61 → prefix_len is_idle (reverse ss) < length ss
idle_before ss some e = elim (cases_lt (prefix_len is_idle (reverse ss)) (length ss)) [ inl h ↦ h | inr h ↦ absurd (all_idle h) ]
  where
    all_idle : length ss ≤ prefix_len is_idle (reverse ss) → ⊥
    all_idle h =
        let i : ℕ = length ss - 1 in
        let z : length ss - 1 - i ≡ 0 = omega arith in
        let a : get_or (reverse ss) i 0 ≡ get_or ss (length ss - 1 - i) 0 = get_or-reverse ss i 0 (omega arith) in
        equals_not_idle (get_or (reverse ss) i 0) (a ∙ ap (λ k. get_or ss k 0) z ∙ e) (prefix_len_passes is_idle (reverse ss) i 0 (omega arith))

idle_behind : (ss : List ℕ) (n : ℕ) → n ≡ length ss - prefix_len is_idle (reverse ss) → is_idle_all (drop n ss) ≡ true
idle_behind ss n e = idle_rest (drop n ss) at
  where
    at : (i : ℕ) → i < length (drop n ss) → is_idle (get_or (drop n ss) i 0) ≡ true
    at i h =
        let d : length (drop n ss) ≡ length ss - n = length-drop n ss in
        let k : ℕ = length ss - 1 - (n + i) in
        let z : length ss - 1 - k ≡ n + i = omega (arith, d) in
        let a : get_or (reverse ss) k 0 ≡ get_or ss (length ss - 1 - k) 0 = get_or-reverse ss k 0 (omega (arith, d)) in
        ap is_idle (get_or-drop n ss i 0 ∙ ap (λ m. get_or ss m 0) (sym z) ∙ sym a) ∙ prefix_len_passes is_idle (reverse ss) k 0 (omega (arith, d, e))

core_len : (ss : List ℕ) → length (core ss) ≡ length ss - prefix_len is_idle (reverse ss)
core_len ss = omega (arith, length-take (length ss - prefix_len is_idle (reverse ss)) ss)

core_at : (ss : List ℕ) (i : ℕ) → i < length (core ss) → get_or (core ss) i 0 ≡ get_or ss i 0
core_at ss i h = get_or-take (length ss - prefix_len is_idle (reverse ss)) ss i 0 (omega (arith, core_len ss))

at_least_three : (n : ℕ) → 0 < n → (n ≡ 1 → ⊥) → (n ≡ 2 → ⊥) → 3 ≤ n
at_least_three zero h f g = absurd (omega arith)
at_least_three (suc zero) h f g = absurd (f refl)
at_least_three (suc (suc zero)) h f g = absurd (g refl)
at_least_three (suc (suc (suc n))) h f g = omega arith

signs_level : (ss : List ℕ) → IsHeadingSigns ss → IsLevel (core ss) (level_of (core ss))
signs_level ss h =
    let c : List ℕ = core ss in
    let e : get_or ss 0 0 ≡ 61 = begins_get (codes "=") ss h.first 0 (omega arith) in
    let some : 1 ≤ length ss = begins_len (codes "=") ss h.first in
    let l : prefix_len is_idle (reverse ss) < length ss = idle_before ss (omega arith) e in
    let n : length c ≡ length ss - prefix_len is_idle (reverse ss) = core_len ss in
    let i : ℕ = prefix_len is_idle (reverse ss) in
    let z : length ss - 1 - i ≡ length c - 1 = omega arith in
    let a : get_or (reverse ss) i 0 ≡ get_or ss (length ss - 1 - i) 0 = get_or-reverse ss i 0 l in
    let last : get_or c (length c - 1) 0 ≡ 61 = core_at ss (length c - 1) (omega arith) ∙ ap (λ k. get_or ss k 0) (sym z) ∙ sym a ∙ h.last l in
    let idle : is_idle_all (drop (length c) ss) ≡ true = idle_behind ss (length c) n in
    level_is c (omega arith) (core_at ss 0 (omega arith) ∙ e) last
    (λ all. at_least_three (length c) (omega arith) (one idle)
    (λ f. two idle f (sym (core_at ss 1 (omega (arith, f))) ∙ all 1 (omega (arith, f)))))
  where
    one : is_idle_all (drop (length (core ss)) ss) ≡ true → length (core ss) ≡ 1 → ⊥
    one idle f = true≢false (sym (ap₂ (λ x y. x && y) h.first (ap (λ n. is_idle_all (drop n ss)) (sym f) ∙ idle)) ∙ h.one)

    two : is_idle_all (drop (length (core ss)) ss) ≡ true → length (core ss) ≡ 2 → get_or ss 1 0 ≡ 61 → ⊥
    two idle f e =
        let n : length (core ss) ≡ length ss - prefix_len is_idle (reverse ss) = core_len ss in
        let b : begins (codes "==") ss ≡ true = begins_two ss (omega arith) (begins_get (codes "=") ss h.first 0 (omega arith)) e in
        true≢false (sym (ap₂ (λ x y. x && y) b (ap (λ n. is_idle_all (drop n ss)) (sym f) ∙ idle)) ∙ h.two)

level_test : (l : ℕ) → 1 ≤ l → l ≤ 6 → has_level (kind.Heading l) ≡ true
unfolding spelling
level_test l a b = grind (arith, nat_tests)

-- ---- the line

heading_cut : (xs : List Item) → IsHeadingSigns (map sign xs) → IsHeadingLine xs
unfolding level opening closing
heading_cut xs h =
    let ss : List ℕ = map sign xs in
    let c : List ℕ = core ss in
    let v : IsLevel c (level_of c) = signs_level ss h in
    let o = open_sign c v in
    let q = close_sign c v in
    let n : length c ≡ length ss - prefix_len is_idle (reverse ss) = core_len ss in
    let m : length ss ≡ length xs = signs_len xs in
    let z : suc (open_len c - 1) ≡ open_len c = omega (arith, o.0) in
    let a : get_or c (open_len c - 1) 0 ≡ get_or ss (open_len c - 1) 0 = core_at ss (open_len c - 1) (omega (arith, o.0, o.1)) in
    let p : ℕ = open_len c + trimmed_len (middle c) in
    let b : get_or c p 0 ≡ get_or ss p 0 = core_at ss p q.0 in
    record {
      level = level_test (level_of c) v.some v.six;
      open_ends = subst (λ k. EndsLow (take k xs)) z (ends_low xs (open_len c - 1) (omega (arith, o.0, o.1, n, m)) (omega (arith, o.2, a)));
      close_begins = begins_low xs p (λ _. omega (arith, q.1, b));
    }

pub heading_line : (tables : ℕ) (l : List Item) → ArePageItems l → kind_of_signs tables (map sign (content l)) ≡ line.Heading
    → IsHeadingLine (content (drop (marks_len l) l) ++ [])
heading_line tables l h e =
    let xs : List Item = content (drop (marks_len l) l) in
    let signs : List ℕ = map sign (content l) in
    let a : past is_mark_sign signs ≡ map sign (xs ++ []) = past_lead l (texts_small l h.texts) ∙ ap (map sign) (sym (append-nil xs)) in
    heading_cut (xs ++ []) (signs_told signs (map sign (xs ++ [])) a (heading_signs tables signs e))
