-- Each byte of a context: which styles hold it, and which delimiters.
use Rattle.std.proofs.Common.{◌≡◌, ℕ, ◌+◌, ◌<◌, ◌≤◌, Bool, true, false, not, cond, List, [], ◌∷◌, ◌++◌, refl, ap, ◌∙◌, arith, inl, inr, ◌⊎◌}
use Rattle.std.specs.Prelude.{◌&&◌, ◌||◌, if◌then◌else◌, nat_lt, nat_le, All, count_by}
use Rattle.std.proofs.lemmas.Bool.Decides.{nat_tests}
use Rattle.std.proofs.lemmas.List.Elements.{All-head, All-tail, All-weaker}
use Rattle.std.proofs.lemmas.List.Sums.{sum_by-append, sum_by-cons}
use Rattle.wt_quotes.specs.declared.turn.Effect.{Effect}
use Rattle.wt_quotes.specs.declared.turn.PlacedToggle.{PlacedToggle}
use Rattle.wt_quotes.specs.declared.style.Style.{Style}
use Rattle.wt_quotes.specs.declared.style.End.{End}
use Rattle.wt_quotes.specs.Styles.{effect_of, opening_width, closing_width, closing_place, opening_place, begins, stops, ending, style_from, begun, styles_by}
use Rattle.wt_quotes.specs.StyleLaws.{is_kind, holds}
use Rattle.wt_quotes.proofs.SixStates.{Step, step, made, run, effect_by, toggled, outside_after, bytes_by, AreSteps, taken_by}
use Rattle.wt_quotes.proofs.Nesting.{closing_in, opens_within, begin_from, ends_well}

-- numbers of tests

abbrev pub one : Bool → ℕ
one b = cond b 1 0

pub and_true : (x y : Bool) → y ≡ true → (x && y) ≡ x
and_true true y e = e
and_true false y e = refl

pub and_false : (x y : Bool) → y ≡ false → (x && y) ≡ false
and_false true y e = e
and_false false y e = refl

pub or_false : (x y : Bool) → y ≡ false → (x || y) ≡ x
or_false true y e = refl
or_false false y e = e

pub le_yes : (a b : ℕ) → a ≤ b → nat_le a b ≡ true
le_yes a b h = grind (arith, nat_tests)

pub le_no : (a b : ℕ) → b < a → nat_le a b ≡ false
le_no a b h = grind (arith, nat_tests)

pub lt_yes : (a b : ℕ) → a < b → nat_lt a b ≡ true
lt_yes a b h = grind (arith, nat_tests)

pub lt_no : (a b : ℕ) → b ≤ a → nat_lt a b ≡ false
lt_no a b h = grind (arith, nat_tests)

count_if : (q : Style → Bool) (b : Bool) (u : Style) → count_by q (if b then u ∷ [] else []) ≡ cond (b && q u) 1 0
count_if q true u = omega arith
count_if q false u = refl

count_two : (q : Style → Bool) (total : ℕ) (t : PlacedToggle) (ts : List PlacedToggle) (f : Bool) →
    count_by q (begun f total t ts ++ begun (not f) total t ts)
    ≡ cond (begins (effect_of true t) && q (style_from true t (ending true total ts))) 1 0
    + cond (begins (effect_of false t) && q (style_from false t (ending false total ts))) 1 0
count_two q total t ts true = omega (
  arith,
  sum_by-append (λ u. cond (q u) 1 0) (begun true total t ts) (begun false total t ts),
  count_if q (begins (effect_of true t)) (style_from true t (ending true total ts)),
  count_if q (begins (effect_of false t)) (style_from false t (ending false total ts)),
)
count_two q total t ts false = omega (
  arith,
  sum_by-append (λ u. cond (q u) 1 0) (begun false total t ts) (begun true total t ts),
  count_if q (begins (effect_of true t)) (style_from true t (ending true total ts)),
  count_if q (begins (effect_of false t)) (style_from false t (ending false total ts)),
)

-- the styles that begin at a toggle, and the others
pub count_styles : (q : Style → Bool) (total : ℕ) (t : PlacedToggle) (ts : List PlacedToggle) →
    count_by q (styles_by total (t ∷ ts))
    ≡ (cond (begins (effect_of true t) && q (style_from true t (ending true total ts))) 1 0
    + cond (begins (effect_of false t) && q (style_from false t (ending false total ts))) 1 0)
    + count_by q (styles_by total ts)
count_styles q total t ts = omega (
  arith,
  sum_by-append (λ u. cond (q u) 1 0)
      (begun t.bold_outside total t ts ++ begun (not t.bold_outside) total t ts) (styles_by total ts),
  count_two q total t ts t.bold_outside,
)

pub count_none : (q : Style → Bool) (us : List Style) → All (λ u. q u ≡ false) us → count_by q us ≡ 0
count_none q [] h = refl
count_none q (u ∷ us) h =
    omega (arith, sum_by-cons (λ v. cond (q v) 1 0) u us, ap one (All-head (λ v. q v ≡ false) u us h), count_none q us (All-tail (λ v. q v ≡ false) u us h))

-- the place where a style stops, at this toggle or later
abbrev pub stop_now : Effect → End → End → End
stop_now e here later = if stops e then here else later

-- what a toggle does to one style keeps the number of its stretches that pass a test, where none passes that stops at the toggle
pub one_kind : (g : End → Bool) (tog had broken q : Bool) (here later : End) → (broken ≡ true → had ≡ true) → q ≡ g later → g here ≡ false
    → cond (begins (effect_by tog had broken) && q) 1 0 + cond (had && g (stop_now (effect_by tog had broken) here later)) 1 0
    ≡ cond (toggled tog had && g later) 1 0
one_kind g true true broken q here later w e h = omega (arith, ap one h)
one_kind g true false broken q here later w e h = omega (arith, ap one e)
one_kind g false true true q here later w e h = omega (arith, ap one e, ap one h)
one_kind g false true false q here later w e h = omega arith
one_kind g false false true q here later w e h = cc (w refl)
one_kind g false false false q here later w e h = refl

-- a style holds each byte as the numbers of toggles say

abbrev pub pick : Bool → Bool → Bool → Bool
pick true b i = b
pick false b i = i

-- whether a style is open at a byte, by the toggles that end before it
abbrev pub styled : Bool → ℕ → Bool → List Step → Bool
styled k p had [] = had
styled k p had (step s b i flag ∷ rs) = styled k p (toggled (pick k b i && nat_le (s + bytes_by b i) p) had) rs

-- the byte lies in no toggle's delimiters
abbrev pub IsFree : ℕ → List Step → Type 0
IsFree p [] = Unit {0}
IsFree p (step s b i flag ∷ rs) = ((p < s) ⊎ (s + bytes_by b i ≤ p)) × IsFree p rs

styled_none : (k : Bool) (p : ℕ) (had : Bool) (low total : ℕ) (rs : List Step) → AreSteps low total rs → p < low → styled k p had rs ≡ had
styled_none k p had low total [] h l = refl
styled_none k p had low total (step s b i flag ∷ rs) h l =
    ap (λ x. styled k p (toggled x had) rs) (and_false (pick k b i) (nat_le (s + bytes_by b i) p) (le_no (s + bytes_by b i) p (omega (arith, h.0))))
    ∙ styled_none k p had (s + bytes_by b i) total rs h.2 (omega (arith, h.0))

pub broken_bold : (i had_bold had_italic outside : Bool) → (i && ((had_bold && had_italic) && not outside)) ≡ true → had_bold ≡ true
broken_bold true true had_italic outside e = refl
broken_bold true false had_italic outside e = e
broken_bold false had_bold had_italic outside e = cc

pub broken_italic : (b had_bold had_italic outside : Bool) → (b && ((had_bold && had_italic) && outside)) ≡ true → had_italic ≡ true
broken_italic true true true outside e = refl
broken_italic true true false outside e = e
broken_italic true false had_italic outside e = cc
broken_italic false had_bold had_italic outside e = cc

-- the byte lies before the closing delimiter
abbrev pub inside : ℕ → End → Bool
inside p e = nat_lt (p + e.close_w) e.to

abbrev pub Held : Bool → ℕ → ℕ → Bool → Bool → Bool → List Step → Type 0
Held k p total had_bold had_italic outside rs =
    count_by (holds k p) (styles_by total (run had_bold had_italic outside rs))
    + one (pick k had_bold had_italic && inside p (ending k total (run had_bold had_italic outside rs)))
    ≡ one (styled k p (pick k had_bold had_italic) rs)

not_held : (k : Bool) (p : ℕ) (u : Style) → p < u.from → holds k p u ≡ false
not_held k p u l = and_false (is_kind k u.bold) (nat_le (u.from + u.open_w) p && nat_lt (p + u.close_w) u.to)
    (ap (λ x. x && nat_lt (p + u.close_w) u.to) (le_no (u.from + u.open_w) p (omega arith)))

held_before : (k : Bool) (p total s : ℕ) (b i flag had_bold had_italic outside : Bool) (rs : List Step)
    → AreSteps s total (step s b i flag ∷ rs) → p < s → Held k p total had_bold had_italic outside (step s b i flag ∷ rs)
held_before k p total s b i flag had_bold had_italic outside rs h l =
    let all : List Step = step s b i flag ∷ rs in
    let us : List Style = styles_by total (run had_bold had_italic outside all) in
    let e : End = ending k total (run had_bold had_italic outside all) in
    let none = count_none (holds k p) us (All-weaker (λ u. s ≤ u.from) (λ u. holds k p u ≡ false)
    (λ u m. not_held k p u (omega (arith, l, m))) us (begin_from total s had_bold had_italic outside all h)) in
    let open_is = ap one (and_true (pick k had_bold had_italic) (inside p e)
    (lt_yes (p + e.close_w) e.to (omega (arith, l, (ends_well k total s had_bold had_italic outside all h).0)))) in
    let is = ap one (styled_none k p (pick k had_bold had_italic) s total all h l) in
    omega (arith, none, open_is, is)

held_after_bold : (p total s : ℕ) (b i flag had_bold had_italic outside : Bool) (rs : List Step) → s + bytes_by b i ≤ p
    → Held true p total (toggled b had_bold) (toggled i had_italic) (outside_after had_bold had_italic b i flag) rs
    → Held true p total had_bold had_italic outside (step s b i flag ∷ rs)
held_after_bold p total s b i flag had_bold had_italic outside rs l is =
    let t : PlacedToggle = made had_bold had_italic outside (step s b i flag) in
    let ts : List PlacedToggle = run (toggled b had_bold) (toggled i had_italic) (outside_after had_bold had_italic b i flag) rs in
    let later : End = ending true total ts in
    let here : End = record { to = closing_place true t; close_w = closing_width true t } in
    let begun_is : holds true p (style_from true t later) ≡ inside p later =
    ap (λ x. x && inside p later) (le_yes (opening_place true t + opening_width true t) p
    (omega (arith, l, opens_within true had_bold had_italic outside s b i flag))) in
    let here_is : inside p here ≡ false = lt_no (p + closing_width true t) (closing_place true t)
    (omega (arith, l, (closing_in true t).1, taken_by had_bold had_italic outside s b i flag)) in
    let mine = one_kind (inside p) b had_bold (i && ((had_bold && had_italic) && not outside))
    (holds true p (style_from true t later)) here later (broken_bold i had_bold had_italic outside) begun_is here_is in
    let other = ap one (and_false (begins (effect_of false t)) (holds true p (style_from false t (ending false total ts))) refl) in
    let right = ap (λ x. one (styled true p (toggled x had_bold) rs)) (and_true b (nat_le (s + bytes_by b i) p) (le_yes (s + bytes_by b i) p l)) in
    omega (arith, count_styles (holds true p) total t ts, mine, other, right, is)

held_after_italic : (p total s : ℕ) (b i flag had_bold had_italic outside : Bool) (rs : List Step) → s + bytes_by b i ≤ p
    → Held false p total (toggled b had_bold) (toggled i had_italic) (outside_after had_bold had_italic b i flag) rs
    → Held false p total had_bold had_italic outside (step s b i flag ∷ rs)
held_after_italic p total s b i flag had_bold had_italic outside rs l is =
    let t : PlacedToggle = made had_bold had_italic outside (step s b i flag) in
    let ts : List PlacedToggle = run (toggled b had_bold) (toggled i had_italic) (outside_after had_bold had_italic b i flag) rs in
    let later : End = ending false total ts in
    let here : End = record { to = closing_place false t; close_w = closing_width false t } in
    let begun_is : holds false p (style_from false t later) ≡ inside p later =
    ap (λ x. x && inside p later) (le_yes (opening_place false t + opening_width false t) p
    (omega (arith, l, opens_within false had_bold had_italic outside s b i flag))) in
    let here_is : inside p here ≡ false = lt_no (p + closing_width false t) (closing_place false t)
    (omega (arith, l, (closing_in false t).1, taken_by had_bold had_italic outside s b i flag)) in
    let mine = one_kind (inside p) i had_italic (b && ((had_bold && had_italic) && outside))
    (holds false p (style_from false t later)) here later (broken_italic b had_bold had_italic outside) begun_is here_is in
    let other = ap one (and_false (begins (effect_of true t)) (holds false p (style_from true t (ending true total ts))) refl) in
    let right = ap (λ x. one (styled false p (toggled x had_italic) rs)) (and_true i (nat_le (s + bytes_by b i) p) (le_yes (s + bytes_by b i) p l)) in
    omega (arith, count_styles (holds false p) total t ts, mine, other, right, is)

held_step : (k : Bool) (p total s : ℕ) (b i flag had_bold had_italic outside : Bool) (rs : List Step)
    → AreSteps s total (step s b i flag ∷ rs) → ((p < s) ⊎ (s + bytes_by b i ≤ p))
    → (s + bytes_by b i ≤ p → Held k p total (toggled b had_bold) (toggled i had_italic)
    (outside_after had_bold had_italic b i flag) rs) → Held k p total had_bold had_italic outside (step s b i flag ∷ rs)
held_step k p total s b i flag had_bold had_italic outside rs h (inl l) f = held_before k p total s b i flag had_bold had_italic outside rs h l
held_step true p total s b i flag had_bold had_italic outside rs h (inr l) f = held_after_bold p total s b i flag had_bold had_italic outside rs l (f l)
held_step false p total s b i flag had_bold had_italic outside rs h (inr l) f = held_after_italic p total s b i flag had_bold had_italic outside rs l (f l)

pub held : (k : Bool) (p total low : ℕ) (had_bold had_italic outside : Bool) (rs : List Step) → AreSteps low total rs → p < total
    → IsFree p rs → Held k p total had_bold had_italic outside rs
held k p total low had_bold had_italic outside [] h l f = let e =
    ap one (and_true (pick k had_bold had_italic) (nat_lt (p + 0) total) (lt_yes (p + 0) total (omega arith))) in omega arith
held k p total low had_bold had_italic outside (step s b i flag ∷ rs) h l f =
    let n : s ≤ s = omega arith in
    held_step k p total s b i flag had_bold had_italic outside rs (n, h.1, h.2) f.0
    (λ m. held k p total (s + bytes_by b i) (toggled b had_bold) (toggled i had_italic) (outside_after had_bold had_italic b i flag) rs h.2 l f.1)
