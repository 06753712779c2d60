-- Styles nest.
use Rattle.std.proofs.Common.{◌≡◌, ℕ, ◌+◌, ◌≤◌, zero, suc, Bool, true, false, not, List, [], ◌∷◌, ◌++◌, refl, sym, ap, arith, inl, inr}
use Rattle.std.specs.Prelude.{if◌then◌else◌, All}
use Rattle.std.specs.List.{AllPairs}
use Rattle.std.proofs.lemmas.List.Elements.{All-nil, All-cons, All-append, All-weaker}
use Rattle.wt_quotes.specs.declared.turn.PlacedToggle.{PlacedToggle}
use Rattle.wt_quotes.specs.declared.style.Style.{Style}
use Rattle.wt_quotes.specs.declared.style.End.{End}
use Rattle.wt_quotes.specs.Styles.{effect_of, opening_width, closing_width, closing_place, opening_place, begins, stops, ending, style_from, begun, styles_by, taken}
use Rattle.wt_quotes.specs.StyleLaws.{IsWhole, IsBehindOrInside}
use Rattle.wt_quotes.proofs.SixStates.{Step, step, made, run, toggled, outside_after, bytes_by, AreSteps, steps_end, taken_by}

-- places in one toggle

inner_of : (b : Bool) (n m : ℕ) → ((if b then n else 0) ≤ n) × ((if b then 0 else m) ≤ m)
inner_of true n m = (omega arith, omega arith)
inner_of false n m = (omega arith, omega arith)

pub closing_in : (s : Bool) (t : PlacedToggle) → (t.start + closing_width s t ≤ closing_place s t)
    × (closing_place s t ≤ t.start + (closing_width true t + closing_width false t))
closing_in true t = let i = inner_of t.bold_outside (closing_width false t) 0 in (omega arith, omega arith)
closing_in false t = let i = inner_of (not t.bold_outside) (closing_width true t) 0 in (omega arith, omega arith)

pub opening_in : (s : Bool) (t : PlacedToggle) → (t.start + (closing_width true t + closing_width false t) ≤ opening_place s t)
    × (opening_place s t + opening_width s t ≤ t.start + taken t)
opening_in true t = let i = inner_of t.bold_outside 0 (opening_width false t) in (omega arith, omega arith)
opening_in false t = let i = inner_of (not t.bold_outside) 0 (opening_width true t) in (omega arith, omega arith)

-- what holds of a style that begins holds of all that do

all_if : (P : Style → Type 0) (b : Bool) (u : Style) → P u → All P (if b then u ∷ [] else [])
all_if P true u h = All-cons P u [] h (All-nil P)
all_if P false u h = All-nil P

begun_all : (P : Style → Type 0) (total : ℕ) (t : PlacedToggle) (ts : List PlacedToggle) → ((s : Bool) → P (style_from s t (ending s total ts)))
    → All P (styles_by total ts) → All P (styles_by total (t ∷ ts))
begun_all P total t ts h hs =
    All-append P (begun t.bold_outside total t ts ++ begun (not t.bold_outside) total t ts) (styles_by total ts)
    (All-append P (begun t.bold_outside total t ts) (begun (not t.bold_outside) total t ts)
    (all_if P (begins (effect_of t.bold_outside t)) (style_from t.bold_outside t (ending t.bold_outside total ts)) (h t.bold_outside))
    (all_if P (begins (effect_of (not t.bold_outside) t)) (style_from (not t.bold_outside) t (ending (not t.bold_outside) total ts)) (h (not t.bold_outside))))
    hs

-- all styles begin behind the place from which the toggles follow

pub begin_from : (total low : ℕ) (had_bold had_italic outside : Bool) (rs : List Step) → AreSteps low total rs
    → All (λ u. low ≤ u.from) (styles_by total (run had_bold had_italic outside rs))
begin_from total low had_bold had_italic outside [] h = All-nil (λ u. low ≤ u.from)
begin_from total low had_bold had_italic outside (step s b i flag ∷ rs) h =
    let t : PlacedToggle = made had_bold had_italic outside (step s b i flag) in
    begun_all (λ u. low ≤ u.from) total t (run (toggled b had_bold) (toggled i had_italic) (outside_after had_bold had_italic b i flag) rs)
    (λ k. omega (arith, (opening_in k t).0, h.0))
    (All-weaker (λ u. s + bytes_by b i ≤ u.from) (λ u. low ≤ u.from) (λ u l. omega (arith, h.0, l))
    (styles_by total (run (toggled b had_bold) (toggled i had_italic) (outside_after had_bold had_italic b i flag) rs))
    (begin_from total (s + bytes_by b i) (toggled b had_bold) (toggled i had_italic) (outside_after had_bold had_italic b i flag) rs h.2))

-- an open style ends in the context, behind the place from which the toggles follow

abbrev pub EndsWell : ℕ → ℕ → End → Type 0
EndsWell low total e = (low + e.close_w ≤ e.to) × (e.to ≤ total)

ends_if : (low total : ℕ) (b : Bool) (e f : End) → EndsWell low total e → EndsWell low total f → EndsWell low total (if b then e else f)
ends_if low total true e f h k = h
ends_if low total false e f h k = k

pub ends_well : (k : Bool) (total low : ℕ) (had_bold had_italic outside : Bool) (rs : List Step) → AreSteps low total rs
    → EndsWell low total (ending k total (run had_bold had_italic outside rs))
ends_well k total low had_bold had_italic outside [] h = (omega (arith, h), omega arith)
ends_well k total low had_bold had_italic outside (step s b i flag ∷ rs) h =
    let t : PlacedToggle = made had_bold had_italic outside (step s b i flag) in
    let is = ends_well k total (s + bytes_by b i) (toggled b had_bold) (toggled i had_italic) (outside_after had_bold had_italic b i flag) rs h.2 in
    let last = steps_end (s + bytes_by b i) total rs h.2 in
    let all = taken_by had_bold had_italic outside s b i flag in
    ends_if low total (stops (effect_of k t)) (record { to = closing_place k t; close_w = closing_width k t })
    (ending k total (run (toggled b had_bold) (toggled i had_italic) (outside_after had_bold had_italic b i flag) rs))
    (omega (arith, (closing_in k t).0, h.0), omega (arith, (closing_in k t).1, last, all))
    (omega (arith, is.0, h.0), is.1)

-- of two open styles the inner one ends first

abbrev EndsInside : End → End → Type 0
EndsInside e f = e.to + f.close_w ≤ f.to

ends_inside : (k : Bool) (total low : ℕ) (rs : List Step) → AreSteps low total rs
    → EndsInside (ending (not k) total (run true true k rs)) (ending k total (run true true k rs))
ends_inside true total low [] h = omega arith
ends_inside false total low [] h = omega arith
ends_inside k total low (step s false false flag ∷ rs) h = cc
ends_inside true total low (step s true true flag ∷ rs) h = omega arith
ends_inside false total low (step s true true flag ∷ rs) h = omega arith
ends_inside true total low (step s true false flag ∷ rs) h = omega arith
ends_inside false total low (step s false true flag ∷ rs) h = omega arith
ends_inside true total low (step s false true flag ∷ rs) h = omega (arith, (ends_well true total (s + 2) true false false rs h.2).0)
ends_inside false total low (step s true false flag ∷ rs) h = omega (arith, (ends_well false total (s + 3) false true false rs h.2).0)

-- a style that is open before toggles, and the styles that begin at them

behind : (x : Style) (total : ℕ) (t : PlacedToggle) (ts : List PlacedToggle) (k : Bool) → x.to ≡ closing_place k t
    → All (λ u. t.start + taken t ≤ u.from) (styles_by total ts) → All (IsBehindOrInside x) (styles_by total (t ∷ ts))
behind x total t ts k e hs =
    begun_all (IsBehindOrInside x) total t ts (λ j. inl (omega (arith, e, (closing_in k t).1, (opening_in j t).0)))
    (All-weaker (λ u. t.start + taken t ≤ u.from) (IsBehindOrInside x) (λ u l. inl (omega (arith, l, e, (closing_in k t).1))) (styles_by total ts) hs)

behind_step : (x : Style) (total : ℕ) (had_bold had_italic outside : Bool) (s : ℕ) (b i flag : Bool) (rs : List Step) (k : Bool)
    → x.to ≡ closing_place k (made had_bold had_italic outside (step s b i flag)) → AreSteps (s + bytes_by b i) total rs
    → All (IsBehindOrInside x) (styles_by total (run had_bold had_italic outside (step s b i flag ∷ rs)))
behind_step x total had_bold had_italic outside s b i flag rs k e h =
    let rest : List PlacedToggle = run (toggled b had_bold) (toggled i had_italic) (outside_after had_bold had_italic b i flag) rs in
    let all = taken_by had_bold had_italic outside s b i flag in
    behind x total (made had_bold had_italic outside (step s b i flag)) rest k e
    (All-weaker (λ u. s + bytes_by b i ≤ u.from) (λ u. s + taken (made had_bold had_italic outside (step s b i flag)) ≤ u.from)
    (λ u l. omega (arith, l, all)) (styles_by total rest)
    (begin_from total (s + bytes_by b i) (toggled b had_bold) (toggled i had_italic) (outside_after had_bold had_italic b i flag) rs h))

abbrev IsOpenStyle : Style → Bool → ℕ → End → Type 0
IsOpenStyle x bold low e = (x.bold ≡ bold) × (x.from + x.open_w ≤ low) × (x.to ≡ e.to) × (x.close_w ≡ e.close_w)

round_bold : (x : Style) (total low : ℕ) (had_italic outside : Bool) (rs : List Step) → AreSteps low total rs
    → IsOpenStyle x true low (ending true total (run true had_italic outside rs))
    → All (IsBehindOrInside x) (styles_by total (run true had_italic outside rs))
round_bold x total low had_italic outside [] h is = All-nil (IsBehindOrInside x)
round_bold x total low had_italic outside (step s false false flag ∷ rs) h is = absurd (cc)
round_bold x total low had_italic outside (step s true i flag ∷ rs) h is = behind_step x total true had_italic outside s true i flag rs true is.2 h.2
round_bold x total low false outside (step s false true flag ∷ rs) h is =
    All-cons (IsBehindOrInside x) (style_from false (made true false outside (step s false true flag))
    (ending false total (run true true true rs))) (styles_by total (run true true true rs))
    (inr (omega (arith, is.1, h.0), omega (arith, is.2, is.3, ends_inside true total (s + 2) rs h.2), ap not (sym is.0)))
    (round_bold x total (s + 2) true true rs h.2 (is.0, omega (arith, is.1, h.0), is.2, is.3))
round_bold x total low true true (step s false true flag ∷ rs) h is = round_bold x total (s + 2) false false rs h.2 (is.0, omega (arith, is.1, h.0), is.2, is.3)
round_bold x total low true false (step s false true flag ∷ rs) h is = behind_step x total true true false s false true flag rs true is.2 h.2

round_italic : (x : Style) (total low : ℕ) (had_bold outside : Bool) (rs : List Step) → AreSteps low total rs
    → IsOpenStyle x false low (ending false total (run had_bold true outside rs))
    → All (IsBehindOrInside x) (styles_by total (run had_bold true outside rs))
round_italic x total low had_bold outside [] h is = All-nil (IsBehindOrInside x)
round_italic x total low had_bold outside (step s false false flag ∷ rs) h is = absurd (cc)
round_italic x total low had_bold outside (step s b true flag ∷ rs) h is = behind_step x total had_bold true outside s b true flag rs false is.2 h.2
round_italic x total low false outside (step s true false flag ∷ rs) h is =
    All-cons (IsBehindOrInside x) (style_from true (made false true outside (step s true false flag))
    (ending true total (run true true false rs))) (styles_by total (run true true false rs))
    (inr (omega (arith, is.1, h.0), omega (arith, is.2, is.3, ends_inside false total (s + 3) rs h.2), ap not (sym is.0)))
    (round_italic x total (s + 3) true false rs h.2 (is.0, omega (arith, is.1, h.0), is.2, is.3))
round_italic x total low true false (step s true false flag ∷ rs) h is = round_italic x total (s + 3) false false rs h.2
    (is.0, omega (arith, is.1, h.0), is.2, is.3)
round_italic x total low true true (step s true false flag ∷ rs) h is = behind_step x total true true true s true false flag rs false is.2 h.2

-- each style and the later ones

abbrev pub Pairs : List Style → Type 0
Pairs [] = Unit {0}
Pairs (u ∷ us) = All (IsBehindOrInside u) us × Pairs us

all_pairs : (us : List Style) → Pairs us → AllPairs IsBehindOrInside us
all_pairs [] h i j d l m = absurd (omega arith)
all_pairs (u ∷ us) h i zero d l m = absurd (omega arith)
all_pairs (u ∷ us) h zero (suc j) d l m = h.0 j d (omega arith)
all_pairs (u ∷ us) h (suc i) (suc j) d l m = all_pairs us h.1 i j d (omega arith) (omega arith)

one_bold : (total n : ℕ) (t : PlacedToggle) (had_italic outside : Bool) (rs : List Step) → AreSteps n total rs
    → opening_place true t + opening_width true t ≤ n → Pairs (styles_by total (run true had_italic outside rs))
    → Pairs (style_from true t (ending true total (run true had_italic outside rs)) ∷ styles_by total (run true had_italic outside rs))
one_bold total n t had_italic outside rs h l hs =
    (round_bold (style_from true t (ending true total (run true had_italic outside rs))) total n had_italic outside rs h (refl, l, refl, refl), hs)

one_italic : (total n : ℕ) (t : PlacedToggle) (had_bold outside : Bool) (rs : List Step) → AreSteps n total rs
    → opening_place false t + opening_width false t ≤ n → Pairs (styles_by total (run had_bold true outside rs))
    → Pairs (style_from false t (ending false total (run had_bold true outside rs)) ∷ styles_by total (run had_bold true outside rs))
one_italic total n t had_bold outside rs h l hs =
    (round_italic (style_from false t (ending false total (run had_bold true outside rs))) total n had_bold outside rs h (refl, l, refl, refl), hs)

pub opens_within : (k had_bold had_italic outside : Bool) (s : ℕ) (b i flag : Bool)
    → opening_place k (made had_bold had_italic outside (step s b i flag))
    + opening_width k (made had_bold had_italic outside (step s b i flag)) ≤ s + bytes_by b i
opens_within k had_bold had_italic outside s b i flag =
    omega (arith, (opening_in k (made had_bold had_italic outside (step s b i flag))).1, taken_by had_bold had_italic outside s b i flag)

pub nested : (total low : ℕ) (had_bold had_italic outside : Bool) (rs : List Step) → AreSteps low total rs
    → Pairs (styles_by total (run had_bold had_italic outside rs))
nested total low had_bold had_italic outside [] h = tt
nested total low had_bold had_italic outside (step s false false flag ∷ rs) h = absurd (cc)
nested total low false false o (step s true false true ∷ rs) h =
    one_bold total (s + 3) (made false false o (step s true false true)) false false rs h.2
    (opens_within true false false o s true false true) (nested total (s + 3) true false false rs h.2)
nested total low false false o (step s true false false ∷ rs) h =
    one_bold total (s + 3) (made false false o (step s true false false)) false false rs h.2
    (opens_within true false false o s true false false) (nested total (s + 3) true false false rs h.2)
nested total low false false o (step s false true true ∷ rs) h =
    one_italic total (s + 2) (made false false o (step s false true true)) false false rs h.2
    (opens_within false false false o s false true true) (nested total (s + 2) false true false rs h.2)
nested total low false false o (step s false true false ∷ rs) h =
    one_italic total (s + 2) (made false false o (step s false true false)) false false rs h.2
    (opens_within false false false o s false true false) (nested total (s + 2) false true false rs h.2)
nested total low false false o (step s true true true ∷ rs) h =
    let t : PlacedToggle = made false false o (step s true true true) in
    let bold : Style = style_from true t (ending true total (run true true true rs)) in
    let italic : Style = style_from false t (ending false total (run true true true rs)) in
    let rest : List Style = styles_by total (run true true true rs) in (
      All-cons (IsBehindOrInside bold) italic rest (inr (omega arith, ends_inside true total (s + 5) rs h.2, refl))
          (round_bold bold total (s + 5) true true rs h.2 (refl, opens_within true false false o s true true true, refl, refl)),
      one_italic total (s + 5) t true true rs h.2 (opens_within false false false o s true true true) (nested total (s + 5) true true true rs h.2),
    )
nested total low false false o (step s true true false ∷ rs) h =
    let t : PlacedToggle = made false false o (step s true true false) in
    let bold : Style = style_from true t (ending true total (run true true false rs)) in
    let italic : Style = style_from false t (ending false total (run true true false rs)) in
    let rest : List Style = styles_by total (run true true false rs) in (
      All-cons (IsBehindOrInside italic) bold rest (inr (omega arith, ends_inside false total (s + 5) rs h.2, refl))
          (round_italic italic total (s + 5) true false rs h.2 (refl, opens_within false false false o s true true false, refl, refl)),
      one_bold total (s + 5) t true false rs h.2 (opens_within true false false o s true true false) (nested total (s + 5) true true false rs h.2),
    )
nested total low false true o (step s true false flag ∷ rs) h =
    one_bold total (s + 3) (made false true o (step s true false flag)) true false rs h.2
    (opens_within true false true o s true false flag) (nested total (s + 3) true true false rs h.2)
nested total low false true o (step s false true flag ∷ rs) h = nested total (s + 2) false false false rs h.2
nested total low false true o (step s true true flag ∷ rs) h = one_bold total (s + 5)
    (made false true o (step s true true flag)) false false rs h.2 (opens_within true false true o s true true flag)
    (nested total (s + 5) true false false rs h.2)
nested total low true false o (step s false true flag ∷ rs) h =
    one_italic total (s + 2) (made true false o (step s false true flag)) true true rs h.2
    (opens_within false true false o s false true flag) (nested total (s + 2) true true true rs h.2)
nested total low true false o (step s true false flag ∷ rs) h = nested total (s + 3) false false false rs h.2
nested total low true false o (step s true true flag ∷ rs) h =
    one_italic total (s + 5) (made true false o (step s true true flag)) false false rs h.2
    (opens_within false true false o s true true flag) (nested total (s + 5) false true false rs h.2)
nested total low true true true (step s true false flag ∷ rs) h =
    one_italic total (s + 3) (made true true true (step s true false flag)) false false rs h.2
    (opens_within false true true true s true false flag) (nested total (s + 3) false true false rs h.2)
nested total low true true true (step s false true flag ∷ rs) h = nested total (s + 2) true false false rs h.2
nested total low true true true (step s true true flag ∷ rs) h = nested total (s + 5) false false false rs h.2
nested total low true true false (step s false true flag ∷ rs) h =
    one_bold total (s + 2) (made true true false (step s false true flag)) false false rs h.2
    (opens_within true true true false s false true flag) (nested total (s + 2) true false false rs h.2)
nested total low true true false (step s true false flag ∷ rs) h = nested total (s + 3) false true false rs h.2
nested total low true true false (step s true true flag ∷ rs) h = nested total (s + 5) false false false rs h.2

pub pairs_of : (total low : ℕ) (had_bold had_italic outside : Bool) (rs : List Step) → AreSteps low total rs
    → AllPairs IsBehindOrInside (styles_by total (run had_bold had_italic outside rs))
pairs_of total low had_bold had_italic outside rs h = all_pairs (styles_by total (run had_bold had_italic outside rs))
    (nested total low had_bold had_italic outside rs h)

pub whole : (total low : ℕ) (had_bold had_italic outside : Bool) (rs : List Step) → AreSteps low total rs
    → All (IsWhole total) (styles_by total (run had_bold had_italic outside rs))
whole total low had_bold had_italic outside [] h = All-nil (IsWhole total)
whole total low had_bold had_italic outside (step s b i flag ∷ rs) h =
    let t : PlacedToggle = made had_bold had_italic outside (step s b i flag) in
    begun_all (IsWhole total) total t (run (toggled b had_bold) (toggled i had_italic) (outside_after had_bold had_italic b i flag) rs)
    (λ k.
    let e = ends_well k total (s + bytes_by b i) (toggled b had_bold) (toggled i had_italic) (outside_after had_bold had_italic b i flag) rs h.2 in
    (omega (arith, opens_within k had_bold had_italic outside s b i flag, e.0), e.1))
    (whole total (s + bytes_by b i) (toggled b had_bold) (toggled i had_italic) (outside_after had_bold had_italic b i flag) rs h.2)
