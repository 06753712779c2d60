-- Styles nest no deeper than two: what lies in a style is of the other kind.
use Rattle.std.proofs.Common.{◌≡◌, ℕ, zero, suc, ◌+◌, ◌<◌, ◌≤◌, ◌⊎◌, Bool, true, false, not, List, [], ◌∷◌, ◌++◌, take, refl, sym, ap, ◌∙◌, subst, arith, inl, inr}
use Rattle.std.specs.Prelude.{if◌then◌else◌, All}
use Rattle.std.specs.List.{AllByRecursion, prefix_len}
use Rattle.std.proofs.lemmas.Bool.Decides.{nat_tests}
use Rattle.std.proofs.lemmas.List.Elements.{All-head, All-tail}
use Rattle.wt_quotes.specs.declared.chunk.Chunk.{Chunk}
use Rattle.wt_quotes.specs.declared.turn.PlacedToggle.{PlacedToggle}
use Rattle.wt_quotes.specs.declared.style.Style.{Style}
use Rattle.wt_quotes.specs.declared.style.End.{End}
use Rattle.wt_quotes.specs.Runs.{bytes_of}
use Rattle.wt_quotes.specs.Toggles.{toggles_of}
use Rattle.wt_quotes.specs.Styles.{effect_of, closing_width, closing_place, begins, ending, style_from, begun, styles_by, style_tree_of, taken}
use Rattle.wt_quotes.specs.StyleLaws.{IsWhole}
use Rattle.wt_quotes.specs.Forest.{Forest, bare, grown, lies_in, inside_of, past, forest_of}
use Rattle.wt_quotes.proofs.SixStates.{Step, step, made, run, toggled, outside_after, bytes_by, AreSteps, taken_by}
use Rattle.wt_quotes.proofs.Nesting.{closing_in, opening_in, begin_from, whole}
use Rattle.wt_quotes.proofs.Reading.{steps_of, are_steps, styles_read}
use Rattle.wt_context.proofs.Forests.{inside_taken}
use Rattle.wt_page_round_trip.proofs.PageLines.{all_both, all_taken}

-- ---- all of a list

recursive : {A : Type 0} (P : A → Type 0) (xs : List A) → All P xs → AllByRecursion P xs
recursive P [] h = tt
recursive P (x ∷ xs) h = (All-head P x xs h, recursive P xs (All-tail P x xs h))

weaker : {A : Type 0} (P Q : A → Type 0) → ((x : A) → P x → Q x) → (xs : List A) → AllByRecursion P xs → AllByRecursion Q xs
weaker P Q f [] h = tt
weaker P Q f (x ∷ xs) h = (f x h.0, weaker P Q f xs h.1)

-- ---- a style, and a later one

-- the later one doesn't lie in it, or is of the other kind
abbrev IsApart : Style → Style → Type 0
IsApart s u = (s.to < u.from + s.close_w) ⊎ (u.bold ≡ not s.bold)

all_if : (P : Style → Type 0) (b : Bool) (u : Style) → P u → AllByRecursion P (if b then u ∷ [] else [])
all_if P true u h = (h, tt)
all_if P false u h = tt

begun_all : (P : Style → Type 0) (total : ℕ) (t : PlacedToggle) (ts : List PlacedToggle) → ((s : Bool) → P (style_from s t (ending s total ts)))
    → AllByRecursion P (styles_by total ts) → AllByRecursion P (styles_by total (t ∷ ts))
begun_all P total t ts h hs =
    all_both P (begun t.bold_outside total t ts ++ begun (not t.bold_outside) total t ts) (styles_by total ts)
    (all_both P (begun t.bold_outside total t ts) (begun (not t.bold_outside) total t ts)
    (all_if P (begins (effect_of t.bold_outside t)) (style_from t.bold_outside t (ending t.bold_outside total ts)) (h t.bold_outside))
    (all_if P (begins (effect_of (not t.bold_outside) t)) (style_from (not t.bold_outside) t (ending (not t.bold_outside) total ts)) (h (not t.bold_outside))))
    hs

-- a style that ends at a toggle, and those that begin at it or later
behind : (x : Style) (total : ℕ) (had_bold had_italic outside : Bool) (s : ℕ) (b i flag : Bool) (rs : List Step)
    → x.to < s + (closing_width true (made had_bold had_italic outside (step s b i flag)) + closing_width false
    (made had_bold had_italic outside (step s b i flag))) + x.close_w
    → AreSteps (s + bytes_by b i) total rs → AllByRecursion (IsApart x) (styles_by total (run had_bold had_italic outside (step s b i flag ∷ rs)))
behind x total had_bold had_italic outside s b i flag rs e h =
    let t : PlacedToggle = made had_bold had_italic outside (step s b i flag) in
    let rest : List PlacedToggle = run (toggled b had_bold) (toggled i had_italic) (outside_after had_bold had_italic b i flag) rs in
    let all : taken t ≡ bytes_by b i = taken_by had_bold had_italic outside s b i flag in
    begun_all (IsApart x) total t rest (λ j. inl (omega (arith, e, (opening_in j t).0)))
    (weaker (λ u. s + bytes_by b i ≤ u.from) (IsApart x) (λ u l. inl (omega (arith, l, e, all))) (styles_by total rest)
    (recursive (λ u. s + bytes_by b i ≤ u.from) (styles_by total rest)
    (begin_from total (s + bytes_by b i) (toggled b had_bold) (toggled i had_italic) (outside_after had_bold had_italic b i flag) rs h)))

abbrev IsOpen : Style → Bool → End → Type 0
IsOpen x bold e = (x.bold ≡ bold) × (x.to ≡ e.to) × (x.close_w ≡ e.close_w)

round_bold : (x : Style) (total low : ℕ) (had_italic outside : Bool) (rs : List Step) → AreSteps low total rs
    → IsOpen x true (ending true total (run true had_italic outside rs)) → AllByRecursion (IsApart x) (styles_by total (run true had_italic outside rs))
round_bold x total low had_italic outside [] h is = tt
round_bold x total low had_italic outside (step s false false flag ∷ rs) h is = absurd (cc)
round_bold x total low had_italic outside (step s true i flag ∷ rs) h is =
    let t : PlacedToggle = made true had_italic outside (step s true i flag) in
    let w : closing_width true t ≡ 3 = refl in
    behind x total true had_italic outside s true i flag rs (omega (arith, is.1, is.2, w, (closing_in true t).1)) h.2
round_bold x total low false outside (step s false true flag ∷ rs) h is = (inr (ap not (sym is.0)), round_bold x total (s + 2) true true rs h.2 is)
round_bold x total low true true (step s false true flag ∷ rs) h is = round_bold x total (s + 2) false false rs h.2 is
round_bold x total low true false (step s false true flag ∷ rs) h is =
    let t : PlacedToggle = made true true false (step s false true flag) in
    let w : closing_width false t ≡ 2 = refl in
    let p : closing_place true t ≡ s + (0 + 0) = refl in
    behind x total true true false s false true flag rs (omega (arith, is.1, w, p)) h.2

round_italic : (x : Style) (total low : ℕ) (had_bold outside : Bool) (rs : List Step) → AreSteps low total rs
    → IsOpen x false (ending false total (run had_bold true outside rs)) → AllByRecursion (IsApart x) (styles_by total (run had_bold true outside rs))
round_italic x total low had_bold outside [] h is = tt
round_italic x total low had_bold outside (step s false false flag ∷ rs) h is = absurd (cc)
round_italic x total low had_bold outside (step s b true flag ∷ rs) h is =
    let t : PlacedToggle = made had_bold true outside (step s b true flag) in
    let w : closing_width false t ≡ 2 = refl in
    behind x total had_bold true outside s b true flag rs (omega (arith, is.1, is.2, w, (closing_in false t).1)) h.2
round_italic x total low false outside (step s true false flag ∷ rs) h is = (inr (ap not (sym is.0)), round_italic x total (s + 3) true false rs h.2 is)
round_italic x total low true false (step s true false flag ∷ rs) h is = round_italic x total (s + 3) false false rs h.2 is
round_italic x total low true true (step s true false flag ∷ rs) h is =
    let t : PlacedToggle = made true true true (step s true false flag) in
    let w : closing_width true t ≡ 3 = refl in
    let p : closing_place false t ≡ s + (0 + 0) = refl in
    behind x total true true true s true false flag rs (omega (arith, is.1, w, p)) h.2

-- ---- all of them

abbrev pub ArePairs : List Style → Type 0
ArePairs [] = Unit {0}
ArePairs (u ∷ us) = AllByRecursion (IsApart u) us × ArePairs us

one_bold : (total n : ℕ) (t : PlacedToggle) (had_italic outside : Bool) (rs : List Step) → AreSteps n total rs
    → ArePairs (styles_by total (run true had_italic outside rs))
    → ArePairs (style_from true t (ending true total (run true had_italic outside rs)) ∷ styles_by total (run true had_italic outside rs))
one_bold total n t had_italic outside rs h hs =
    (round_bold (style_from true t (ending true total (run true had_italic outside rs))) total n had_italic outside rs h (refl, refl, refl), hs)

one_italic : (total n : ℕ) (t : PlacedToggle) (had_bold outside : Bool) (rs : List Step) → AreSteps n total rs
    → ArePairs (styles_by total (run had_bold true outside rs))
    → ArePairs (style_from false t (ending false total (run had_bold true outside rs)) ∷ styles_by total (run had_bold true outside rs))
one_italic total n t had_bold outside rs h hs =
    (round_italic (style_from false t (ending false total (run had_bold true outside rs))) total n had_bold outside rs h (refl, refl, refl), hs)

pairs : (total low : ℕ) (had_bold had_italic outside : Bool) (rs : List Step) → AreSteps low total rs
    → ArePairs (styles_by total (run had_bold had_italic outside rs))
pairs total low had_bold had_italic outside [] h = tt
pairs total low had_bold had_italic outside (step s false false flag ∷ rs) h = absurd (cc)
pairs total low false false o (step s true false true ∷ rs) h =
    one_bold total (s + 3) (made false false o (step s true false true)) false false rs h.2 (pairs total (s + 3) true false false rs h.2)
pairs total low false false o (step s true false false ∷ rs) h =
    one_bold total (s + 3) (made false false o (step s true false false)) false false rs h.2 (pairs total (s + 3) true false false rs h.2)
pairs total low false false o (step s false true true ∷ rs) h =
    one_italic total (s + 2) (made false false o (step s false true true)) false false rs h.2 (pairs total (s + 2) false true false rs h.2)
pairs total low false false o (step s false true false ∷ rs) h =
    one_italic total (s + 2) (made false false o (step s false true false)) false false rs h.2 (pairs total (s + 2) false true false rs h.2)
pairs total low false false o (step s true true true ∷ rs) h =
    let t : PlacedToggle = made false false o (step s true true true) in
    let bold : Style = style_from true t (ending true total (run true true true rs)) in (
      (inr refl, round_bold bold total (s + 5) true true rs h.2 (refl, refl, refl)),
      one_italic total (s + 5) t true true rs h.2
          (pairs total (s + 5) true true true rs h.2),
    )
pairs total low false false o (step s true true false ∷ rs) h =
    let t : PlacedToggle = made false false o (step s true true false) in
    let italic : Style = style_from false t (ending false total (run true true false rs)) in (
      (inr refl, round_italic italic total (s + 5) true false rs h.2 (refl, refl, refl)),
      one_bold total (s + 5) t true false rs h.2
          (pairs total (s + 5) true true false rs h.2),
    )
pairs total low false true o (step s true false flag ∷ rs) h = one_bold total (s + 3) (made false true o (step s true false flag)) true false rs h.2
    (pairs total (s + 3) true true false rs h.2)
pairs total low false true o (step s false true flag ∷ rs) h = pairs total (s + 2) false false false rs h.2
pairs total low false true o (step s true true flag ∷ rs) h = one_bold total (s + 5) (made false true o (step s true true flag)) false false rs h.2
    (pairs total (s + 5) true false false rs h.2)
pairs total low true false o (step s false true flag ∷ rs) h = one_italic total (s + 2) (made true false o (step s false true flag)) true true rs h.2
    (pairs total (s + 2) true true true rs h.2)
pairs total low true false o (step s true false flag ∷ rs) h = pairs total (s + 3) false false false rs h.2
pairs total low true false o (step s true true flag ∷ rs) h = one_italic total (s + 5) (made true false o (step s true true flag)) false false rs h.2
    (pairs total (s + 5) false true false rs h.2)
pairs total low true true true (step s true false flag ∷ rs) h =
    one_italic total (s + 3) (made true true true (step s true false flag)) false false rs h.2 (pairs total (s + 3) false true false rs h.2)
pairs total low true true true (step s false true flag ∷ rs) h = pairs total (s + 2) true false false rs h.2
pairs total low true true true (step s true true flag ∷ rs) h = pairs total (s + 5) false false false rs h.2
pairs total low true true false (step s false true flag ∷ rs) h =
    one_bold total (s + 2) (made true true false (step s false true flag)) false false rs h.2 (pairs total (s + 2) true false false rs h.2)
pairs total low true true false (step s true false flag ∷ rs) h = pairs total (s + 3) false true false rs h.2
pairs total low true true false (step s true true flag ∷ rs) h = pairs total (s + 5) false false false rs h.2

-- ---- the forest

-- so many styles lie in one another at most
abbrev pub IsNested : ℕ → Forest → Type 0
IsNested n bare = Unit {0}
IsNested zero (grown s inside after) = ⊥
IsNested (suc n) (grown s inside after) = IsNested n inside × IsNested (suc n) after

nested_past : (n : ℕ) (s : Style) (f : Forest) → IsNested n f → IsNested n (past s f)
nested_past n s bare h = tt
nested_past zero s (grown u f g) h = absurd h
nested_past (suc n) s (grown u f g) h = by_test (lies_in u s) (nested_past (suc n) s g h.1)
  where
    by_test : (t : Bool) → IsNested (suc n) (past s g) → IsNested (suc n) (if t then past s g else grown u f g)
    by_test true i = i
    by_test false i = h

other_kind : (s u : Style) → lies_in u s ≡ true → u.from ≤ u.to → IsApart s u → u.bold ≡ not s.bold
other_kind s u e le (inl l) = absurd (grind (arith, nat_tests, e, le, l))
other_kind s u e le (inr i) = i

abbrev IsForward : Style → Type 0
IsForward u = u.from ≤ u.to

-- those that lie in a style are of the other kind
inner_kinds : (s : Style) (us : List Style) → AllByRecursion IsForward us → AllByRecursion (IsApart s) us
    → AllByRecursion (λ u. u.bold ≡ not s.bold) (take (prefix_len (λ u. lies_in u s) us) us)
inner_kinds s [] w h = tt
inner_kinds s (u ∷ us) w h = by_test (lies_in u s) refl (inner_kinds s us w.1 h.1)
  where
    by_test : (t : Bool) → lies_in u s ≡ t → AllByRecursion (λ u. u.bold ≡ not s.bold) (take (prefix_len (λ u. lies_in u s) us) us)
        → AllByRecursion (λ u. u.bold ≡ not s.bold) (take (if t then 1 + prefix_len (λ u. lies_in u s) us else 0) (u ∷ us))
    by_test true e i = let z : 1 + prefix_len (λ u. lies_in u s) us ≡ suc (prefix_len (λ u. lies_in u s) us) = omega arith in
        subst (λ n. AllByRecursion (λ u. u.bold ≡ not s.bold) (take n (u ∷ us))) (sym z) (other_kind s u e w.0 h.0, i)
    by_test false e i = tt

pairs_taken : (n : ℕ) (us : List Style) → ArePairs us → ArePairs (take n us)
pairs_taken zero us h = tt
pairs_taken (suc n) [] h = tt
pairs_taken (suc n) (u ∷ us) h = (all_taken (IsApart u) n us h.0, pairs_taken n us h.1)

not_both : (b c : Bool) → b ≡ c → b ≡ not c → ⊥
not_both true true e f = cc
not_both true false e f = cc
not_both false true e f = cc
not_both false false e f = cc

none_inside : (s : Style) (b : Bool) → s.bold ≡ b → (us : List Style) → AllByRecursion (λ u. u.bold ≡ b) us → AllByRecursion IsForward us
    → AllByRecursion (IsApart s) us → IsNested 0 (inside_of s (forest_of us))
none_inside s b e [] j v i = tt
none_inside s b e (u ∷ us) j v i = by_test (lies_in u s) refl
  where
    by_test : (t : Bool) → lies_in u s ≡ t → IsNested 0 (if t then grown u (inside_of u (forest_of us)) (inside_of s (past u (forest_of us))) else bare)
    by_test true g = absurd (not_both u.bold s.bold (j.0 ∙ sym e) (other_kind s u g v.0 i.0))
    by_test false g = tt

-- styles of one kind don't nest
flat_kind : (b : Bool) (us : List Style) → AllByRecursion (λ u. u.bold ≡ b) us → AllByRecursion IsForward us → ArePairs us → IsNested 1 (forest_of us)
flat_kind b [] k w h = tt
flat_kind b (s ∷ ss) k w h = (none_inside s b k.0 ss k.1 w.1 h.0, nested_past 1 s (forest_of ss) (flat_kind b ss k.1 w.1 h.1))

two_deep : (us : List Style) → AllByRecursion IsForward us → ArePairs us → IsNested 2 (forest_of us)
two_deep [] w h = tt
two_deep (s ∷ ss) w h =
    let n : ℕ = prefix_len (λ u. lies_in u s) ss in (
      subst (IsNested 1) (sym (inside_taken s ss)) (flat_kind (not s.bold) (take n ss) (inner_kinds s ss w.1 h.0) (all_taken IsForward n ss w.1)
          (pairs_taken n ss h.1)),
      nested_past 2 s (forest_of ss) (two_deep ss w.1 h.1),
    )

pub styles_nest : (chunks : List Chunk) → IsNested 2 (forest_of (style_tree_of chunks))
styles_nest chunks =
    let rs : List Step = steps_of chunks (toggles_of chunks) in
    let us : List Style = styles_by (bytes_of chunks) (run false false false rs) in
    let w : AllByRecursion IsForward us = weaker (IsWhole (bytes_of chunks)) IsForward (λ u i. omega (arith, i.0)) us
    (recursive (IsWhole (bytes_of chunks)) us (whole (bytes_of chunks) 0 false false false rs (are_steps chunks))) in
    subst (λ ss. IsNested 2 (forest_of ss)) (sym (styles_read chunks)) (two_deep us w (pairs (bytes_of chunks) 0 false false false rs (are_steps chunks)))
