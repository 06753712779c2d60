-- Which of two styles that hold a byte is the outer one, by the steps of the toggles.
use Rattle.std.proofs.Common.{◌≡◌, ℕ, ◌+◌, ◌<◌, ◌≤◌, zero, suc, Bool, true, false, not, Some, List, [], ◌∷◌, ◌++◌, get_or, refl, sym, ap, ◌∙◌, arith}
use Rattle.std.specs.Prelude.{◌&&◌, ◌||◌, if◌then◌else◌, All, IfSome, slice_get}
use Rattle.std.specs.List.{AllPairs}
use Rattle.std.proofs.lemmas.List.Elements.{All-nil, All-head, All-tail, All-cons, All-weaker}
use Rattle.std.proofs.lemmas.Option.{same_Some}
use Rattle.wt_quotes.specs.declared.turn.PlacedToggle.{PlacedToggle}
use Rattle.wt_quotes.specs.declared.style.Style.{Style}
use Rattle.wt_quotes.specs.declared.style.End.{End}
use Rattle.wt_quotes.specs.Styles.{effect_of, closing_place, closing_width, begins, stops, ending, style_from, styles_by}
use Rattle.wt_quotes.proofs.SixStates.{Step, step, made, run, effect_by, toggled, outside_by, outside_after, bytes_by, AreSteps, taken_by}
use Rattle.wt_quotes.proofs.Nesting.{closing_in, begin_from}
use Rattle.wt_page_laws.specs.InnerStyles.{Holds}

abbrev pub pick : Bool → Bool → Bool → Bool
pick true b i = b
pick false b i = i

abbrev pub starts : Step → ℕ
starts (step s b i f) = s

abbrev pub ends : Step → ℕ
ends (step s b i f) = s + bytes_by b i

-- the toggle is of the style
abbrev pub has : Bool → Step → Bool
has k (step s b i f) = pick k b i

abbrev pub flag : Step → Bool
flag (step s b i f) = f

-- bold is inside, where the next toggle is of bold or isn't
abbrev pub inside : Step → Bool → Bool
inside r next = if has true r && has false r then next else has true r

-- each style and the later ones

abbrev pub Pairs : (Style → Style → Type 0) → List Style → Type 0
Pairs R [] = Unit {0}
Pairs R (u ∷ us) = All (R u) us × Pairs R us

pub spread : (R : Style → Style → Type 0) (us : List Style) → Pairs R us → AllPairs R us
spread R [] h i j d l m = absurd (omega arith)
spread R (u ∷ us) h i zero d l m = absurd (omega arith)
spread R (u ∷ us) h zero (suc j) d l m = h.0 j d (omega arith)
spread R (u ∷ us) h (suc i) (suc j) d l m = spread R us h.1 i j d (omega arith) (omega arith)

-- two styles that may begin, and those behind them
begun_pairs : (R : Style → Style → Type 0) (c d : Bool) (x y : Style) (zs : List Style) → (c ≡ true → d ≡ true → R x y)
    → (c ≡ true → All (R x) zs) → (d ≡ true → All (R y) zs) → Pairs R zs
    → Pairs R (((if c then x ∷ [] else []) ++ (if d then y ∷ [] else [])) ++ zs)
begun_pairs R true true x y zs both first second rest = (All-cons (R x) y zs (both refl refl) (first refl), (second refl, rest))
begun_pairs R true false x y zs both first second rest = (first refl, rest)
begun_pairs R false true x y zs both first second rest = (second refl, rest)
begun_pairs R false false x y zs both first second rest = rest

abbrev pub Outer : ℕ → Bool → Style → Style → Type 0
Outer p bold s u = Holds p s → Holds p u → s.bold ≡ not bold

-- ---- toggles in their order

begins_behind : (low total j : ℕ) (rs : List Step) (r : Step) → AreSteps low total rs → slice_get rs j ≡ Some r → low ≤ ends r
begins_behind low total j [] r h e = cc
begins_behind low total zero (step s b i f ∷ rs) r h e = omega (arith, h.0, ap ends (same_Some (step s b i f) r e))
begins_behind low total (suc j) (step s b i f ∷ rs) r h e = omega (arith, h.0, begins_behind (s + bytes_by b i) total j rs r h.2 e)

first_end : (low total j s : ℕ) (b i f : Bool) (rs : List Step) (r : Step) → AreSteps low total (step s b i f ∷ rs)
    → slice_get (step s b i f ∷ rs) j ≡ Some r → s + bytes_by b i ≤ ends r
first_end low total zero s b i f rs r h e = omega (arith, ap ends (same_Some (step s b i f) r e))
first_end low total (suc j) s b i f rs r h e = begins_behind (s + bytes_by b i) total j rs r h.2 e

switch_at : (low total j : ℕ) (rs : List Step) (r : Step) → AreSteps low total rs → slice_get rs j ≡ Some r → (has true r || has false r) ≡ true
switch_at low total j [] r h e = cc
switch_at low total zero (step s b i f ∷ rs) r h e = ap (λ q. has true q || has false q) (sym (same_Some (step s b i f) r e)) ∙ h.1
switch_at low total (suc j) (step s b i f ∷ rs) r h e = switch_at (s + bytes_by b i) total j rs r h.2 e

-- where the first of these toggles is behind the byte all styles are
behind : (total low p : ℕ) (had_bold had_italic outside : Bool) (rs : List Step) → AreSteps low total rs
    → IfSome (slice_get rs 0) (λ r. p < starts r) → All (λ u. p < u.from) (styles_by total (run had_bold had_italic outside rs))
behind total low p had_bold had_italic outside [] h l = All-nil (λ u. p < u.from)
behind total low p had_bold had_italic outside (step s b i f ∷ rs) h l =
    All-weaker (λ u. p + 1 ≤ u.from) (λ u. p < u.from) (λ u m. omega (arith, m))
    (styles_by total (run had_bold had_italic outside (step s b i f ∷ rs)))
    (begin_from total (p + 1) had_bold had_italic outside (step s b i f ∷ rs) (omega (arith, l), h.1, h.2))

-- ---- a style that stays open

keeps : (k had_bold had_italic outside : Bool) (s : ℕ) (b i f : Bool) → pick k had_bold had_italic ≡ true
    → stops (effect_of k (made had_bold had_italic outside (step s b i f))) ≡ false → pick k b i ≡ false
keeps true true had_italic outside s true i f h e = e
keeps true true had_italic outside s false i f h e = refl
keeps true false had_italic outside s b i f h e = absurd (cc)
keeps false had_bold true outside s b true f h e = e
keeps false had_bold true outside s b false f h e = refl
keeps false had_bold false outside s b i f h e = absurd (cc)

stays : (k had_bold had_italic b i : Bool) → pick k had_bold had_italic ≡ true → pick k b i ≡ false
    → pick k (toggled b had_bold) (toggled i had_italic) ≡ true
stays true had_bold had_italic true i h e = absurd (cc)
stays true had_bold had_italic false i h e = h
stays false had_bold had_italic b true h e = absurd (cc)
stays false had_bold had_italic b false h e = h

opens : (k had_bold had_italic outside : Bool) (s : ℕ) (b i f : Bool)
    → begins (effect_of k (made had_bold had_italic outside (step s b i f))) ≡ true → pick k (toggled b had_bold) (toggled i had_italic) ≡ true
opens true true had_italic outside s true i f e = e
opens true false had_italic outside s true i f e = refl
opens true true had_italic outside s false i f e = refl
opens true false had_italic outside s false true f e = e
opens true false had_italic outside s false false f e = e
opens false had_bold true outside s b true f e = e
opens false had_bold false outside s b true f e = refl
opens false had_bold true outside s b false f e = refl
opens false true false outside s true false f e = e
opens false false false outside s true false f e = e
opens false had_bold false outside s false false f e = e

-- a style that is open before a toggle and ends behind the byte isn't ended by the toggle
passed : (P : Type 0) (k had_bold had_italic outside : Bool) (s : ℕ) (b i f : Bool) (p : ℕ) (rest : End) (c : Bool)
    → stops (effect_of k (made had_bold had_italic outside (step s b i f))) ≡ c → pick k had_bold had_italic ≡ true → s + bytes_by b i ≤ p
    → p < (if c then record {
      to = closing_place k (made had_bold had_italic outside (step s b i f));
      close_w = closing_width k (made had_bold had_italic outside (step s b i f));
    } else rest).to
    → (pick k b i ≡ false → p < rest.to → P) → P
passed P k had_bold had_italic outside s b i f p rest true e held l m go = absurd (omega (
  arith,
  m,
  l,
  (closing_in k (made had_bold had_italic outside (step s b i f))).1,
  taken_by had_bold had_italic outside s b i f,
))
passed P k had_bold had_italic outside s b i f p rest false e held l m go = go (keeps k had_bold had_italic outside s b i f held e) m

-- a style that is open before toggles and ends behind the byte is of none of those before the byte
kept_open : (k : Bool) (total low p j : ℕ) (had_bold had_italic outside : Bool) (rs : List Step) (r : Step) → AreSteps low total rs
    → pick k had_bold had_italic ≡ true → slice_get rs j ≡ Some r → ends r ≤ p
    → p < (ending k total (run had_bold had_italic outside rs)).to → has k r ≡ false
kept_open k total low p j had_bold had_italic outside [] r h held at l m = cc
kept_open k total low p zero had_bold had_italic outside (step s b i f ∷ rs) r h held at l m =
    let rest = ending k total (run (toggled b had_bold) (toggled i had_italic) (outside_after had_bold had_italic b i f) rs) in
    passed (has k r ≡ false) k had_bold had_italic outside s b i f p rest (stops (effect_of k (made had_bold had_italic outside (step s b i f)))) refl held
    (omega (arith, l, first_end low total 0 s b i f rs r h at)) m
    (λ e n. ap (has k) (sym (same_Some (step s b i f) r at)) ∙ e)
kept_open k total low p (suc j) had_bold had_italic outside (step s b i f ∷ rs) r h held at l m =
    let rest = ending k total (run (toggled b had_bold) (toggled i had_italic) (outside_after had_bold had_italic b i f) rs) in
    passed (has k r ≡ false) k had_bold had_italic outside s b i f p rest (stops (effect_of k (made had_bold had_italic outside (step s b i f)))) refl held
    (omega (arith, l, first_end low total (suc j) s b i f rs r h at)) m
    (λ e n. kept_open k total (s + bytes_by b i) p j (toggled b had_bold) (toggled i had_italic) (outside_after had_bold had_italic b i f) rs r h.2
    (stays k had_bold had_italic b i held e) at l n)

-- ---- the outer one of two styles

-- two styles that one toggle begins: it opens both
both_by : (had_bold had_italic outside b i : Bool) → begins (effect_by b had_bold (i && ((had_bold && had_italic) && not outside))) ≡ true
    → begins (effect_by i had_italic (b && ((had_bold && had_italic) && outside))) ≡ true
    → (had_bold ≡ false) × (had_italic ≡ false) × (b ≡ true) × (i ≡ true)
both_by false false outside true true d e = (refl, refl, refl, refl)
both_by true had_italic outside true i d e = absurd (cc)
both_by had_bold true outside b true d e = absurd (cc)
both_by had_bold had_italic outside false false d e = absurd (cc)
both_by true false outside false true d e = absurd (cc)
both_by false false outside false true d e = absurd (cc)
both_by false had_italic outside true false d e = absurd (cc)

both_begin : (q had_bold had_italic outside : Bool) (s : ℕ) (b i f : Bool)
    → begins (effect_of q (made had_bold had_italic outside (step s b i f))) ≡ true
    → begins (effect_of (not q) (made had_bold had_italic outside (step s b i f))) ≡ true
    → (had_bold ≡ false) × (had_italic ≡ false) × (b ≡ true) × (i ≡ true)
both_begin true had_bold had_italic outside s b i f d e = both_by had_bold had_italic outside b i d e
both_begin false had_bold had_italic outside s b i f d e = both_by had_bold had_italic outside b i e d

alone : (k next : Bool) (r : Step) → has k r ≡ false → (has true r || has false r) ≡ true → k ≡ not (inside r next)
alone true next (step s true i f) e h = absurd (cc)
alone true next (step s false true f) e h = refl
alone true next (step s false false f) e h = absurd (cc)
alone false next (step s b true f) e h = absurd (cc)
alone false next (step s true false f) e h = refl
alone false next (step s false false f) e h = absurd (cc)

-- where the toggle is the last one before the byte
at_last : (q next had_bold had_italic outside : Bool) (s : ℕ) (b i f : Bool) (r : Step) → step s b i f ≡ r → flag r ≡ not next
    → begins (effect_of q (made had_bold had_italic outside (step s b i f))) ≡ true
    → begins (effect_of (not q) (made had_bold had_italic outside (step s b i f))) ≡ true
    → outside_by had_bold had_italic outside f ≡ not (inside r next)
at_last q next had_bold had_italic outside s b i f r same e c d =
    let is = both_begin q had_bold had_italic outside s b i f c d in
    let within : inside r next ≡ next =
    ap (λ x. inside x next) (sym same)
    ∙ ap (λ (x : Bool). if x && i then next else x) is.2
    ∙ ap (λ (x : Bool). if x then next else true) is.3 in
    ap (λ (x : Bool). outside_by x had_italic outside f) is.0 ∙ ap (λ (x : Bool). outside_by false x outside f) is.1
    ∙ ap flag same ∙ e ∙ ap not (sym within)

pairs_behind : (p : ℕ) (bold : Bool) (us : List Style) → All (λ u. p < u.from) us → Pairs (Outer p bold) us
pairs_behind p bold [] h = tt
pairs_behind p bold (u ∷ us) h =
    let first = All-head (λ v. p < v.from) u us h in
    let rest = All-tail (λ v. p < v.from) u us h in
    (All-weaker (λ v. p < v.from) (Outer p bold u) (λ v l hs hu. absurd (omega (arith, first, hs.0))) us rest, pairs_behind p bold us rest)

pub outer_is : (total low p i : ℕ) (next had_bold had_italic outside : Bool) (rs : List Step) (r : Step) → AreSteps low total rs
    → slice_get rs i ≡ Some r → ends r ≤ p → flag r ≡ not next → IfSome (slice_get rs (suc i)) (λ n. p < starts n)
    → Pairs (Outer p (inside r next)) (styles_by total (run had_bold had_italic outside rs))
outer_is total low p j next had_bold had_italic outside [] r h at l e n = tt
outer_is total low p zero next had_bold had_italic outside (step s b i f ∷ rs) r h at l e n =
    let t : PlacedToggle = made had_bold had_italic outside (step s b i f) in
    let rest : List PlacedToggle = run (toggled b had_bold) (toggled i had_italic) (outside_after had_bold had_italic b i f) rs in
    let far = behind total (s + bytes_by b i) p (toggled b had_bold) (toggled i had_italic) (outside_after had_bold had_italic b i f) rs h.2 n in
    let none : (x : Style) → All (Outer p (inside r next) x) (styles_by total rest) =
    λ x. All-weaker (λ u. p < u.from) (Outer p (inside r next) x) (λ u m hs hu. absurd (omega (arith, m, hu.0))) (styles_by total rest) far in
    begun_pairs (Outer p (inside r next)) (begins (effect_of t.bold_outside t)) (begins (effect_of (not t.bold_outside) t))
    (style_from t.bold_outside t (ending t.bold_outside total rest)) (style_from (not t.bold_outside) t (ending (not t.bold_outside) total rest))
    (styles_by total rest)
    (λ c d hs hu. at_last t.bold_outside next had_bold had_italic outside s b i f r (same_Some (step s b i f) r at) e c d)
    (λ c. none (style_from t.bold_outside t (ending t.bold_outside total rest)))
    (λ d. none (style_from (not t.bold_outside) t (ending (not t.bold_outside) total rest)))
    (pairs_behind p (inside r next) (styles_by total rest) far)
outer_is total low p (suc j) next had_bold had_italic outside (step s b i f ∷ rs) r h at l e n =
    let t : PlacedToggle = made had_bold had_italic outside (step s b i f) in
    let rest : List PlacedToggle = run (toggled b had_bold) (toggled i had_italic) (outside_after had_bold had_italic b i f) rs in
    let first : (q : Bool) → begins (effect_of q t) ≡ true → (u : Style) → Outer p (inside r next) (style_from q t (ending q total rest)) u =
    λ q c u hs hu. alone q next r
    (kept_open q total (s + bytes_by b i) p j (toggled b had_bold) (toggled i had_italic) (outside_after had_bold had_italic b i f) rs r h.2
    (opens q had_bold had_italic outside s b i f c) at l (omega (arith, hs.1)))
    (switch_at (s + bytes_by b i) total j rs r h.2 at) in
    begun_pairs (Outer p (inside r next)) (begins (effect_of t.bold_outside t)) (begins (effect_of (not t.bold_outside) t))
    (style_from t.bold_outside t (ending t.bold_outside total rest)) (style_from (not t.bold_outside) t (ending (not t.bold_outside) total rest))
    (styles_by total rest)
    (λ c d. first t.bold_outside c (style_from (not t.bold_outside) t (ending (not t.bold_outside) total rest)))
    (λ c k d m. first t.bold_outside c (get_or (styles_by total rest) k d))
    (λ c k d m. first (not t.bold_outside) c (get_or (styles_by total rest) k d))
    (outer_is total (s + bytes_by b i) p j next (toggled b had_bold) (toggled i had_italic) (outside_after had_bold had_italic b i f) rs r h.2 at l e n)
