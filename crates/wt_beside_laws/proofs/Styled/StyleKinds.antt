-- No style of a line is in one of its kind.
use Rattle.std.proofs.Common.{arith, ◌≡◌, ◌⊎◌, ℕ, ◌+◌, ◌<◌, ◌≤◌, Bool, true, false, not, List, [], ◌∷◌, ◌++◌, refl, sym, ap, ◌∙◌, subst, inl, inr}
use Rattle.std.specs.Prelude.{◌&&◌, ◌||◌, if◌then◌else◌}
use Rattle.std.proofs.lemmas.Bool.Decides.{nat_tests}
use Rattle.wt_quotes.specs.declared.chunk.Chunk.{Chunk}
use Rattle.wt_quotes.specs.declared.style.End.{End}
use Rattle.wt_quotes.specs.declared.style.Style.{Style}
use Rattle.wt_quotes.specs.declared.turn.PlacedToggle.{PlacedToggle}
use Rattle.wt_quotes.specs.Forest.{Forest, bare, grown, preorder, lies_in, inside_of, past, forest_of}
use Rattle.wt_quotes.specs.Runs.{bytes_of}
use Rattle.wt_quotes.specs.Styles.{effect_of, closing_width, closing_place, begins, stops, ending, style_from, begun, styles_by, style_tree_of}
use Rattle.wt_quotes.specs.Toggles.{toggles_of}
use Rattle.wt_quotes.proofs.Nesting.{closing_in, ends_well}
use Rattle.wt_quotes.proofs.Planting.{preorder_of}
use Rattle.wt_quotes.proofs.Reading.{steps_of, are_steps, styles_read}
use Rattle.wt_quotes.proofs.SixStates.{Step, step, effect_by, made, toggled, outside_after, run, bytes_by, AreSteps, taken_by}
use Rattle.wt_beside_laws.specs.Nests.{of_style}
use Rattle.wt_beside_laws.proofs.OwnSigns.{Every, every_weaker, every_left, every_right}

every_both : (P : Style → Type 0) (xs ys : List Style) → Every P xs → Every P ys → Every P (xs ++ ys)
every_both P [] ys h k = k
every_both P (x ∷ xs) ys h k = (h.0, every_both P xs ys h.1 k)

-- ---- the styles that begin at a toggle

all_when : (P : Style → Type 0) (b : Bool) (u : Style) → (b ≡ true → P u) → Every P (if b then u ∷ [] else [])
all_when P true u h = (h refl, tt)
all_when P false u h = tt

pub begun_when : (P : Style → Type 0) (total : ℕ) (t : PlacedToggle) (ts : List PlacedToggle)
    → ((k : Bool) → begins (effect_of k t) ≡ true → P (style_from k t (ending k total ts))) → Every P (styles_by total ts) → Every P (styles_by total (t ∷ ts))
begun_when P total t ts h hs =
    every_both P (begun t.bold_outside total t ts ++ begun (not t.bold_outside) total t ts) (styles_by total ts)
    (every_both P (begun t.bold_outside total t ts) (begun (not t.bold_outside) total t ts)
    (all_when P (begins (effect_of t.bold_outside t)) (style_from t.bold_outside t (ending t.bold_outside total ts)) (h t.bold_outside))
    (all_when P (begins (effect_of (not t.bold_outside) t)) (style_from (not t.bold_outside) t (ending (not t.bold_outside) total ts)) (h (not t.bold_outside))))
    hs

some_bytes : (b i : Bool) → (b || i) ≡ true → 2 ≤ bytes_by b i
some_bytes true i e = omega arith
some_bytes false true e = omega arith
some_bytes false false e = absurd (cc)

-- all styles end behind the place from which the toggles follow
far_from : (total low : ℕ) (had_bold had_italic outside : Bool) (rs : List Step) → AreSteps low total rs
    → Every (λ u. low < u.to) (styles_by total (run had_bold had_italic outside rs))
far_from total low had_bold had_italic outside [] h = tt
far_from total low had_bold had_italic outside (step s b i flag ∷ rs) h =
    let t : PlacedToggle = made had_bold had_italic outside (step s b i flag) in
    let hb : Bool = toggled b had_bold in
    let hi : Bool = toggled i had_italic in
    let o : Bool = outside_after had_bold had_italic b i flag in
    let some : 2 ≤ bytes_by b i = some_bytes b i h.1 in
    begun_when (λ u. low < u.to) total t (run hb hi o rs)
    (λ k e. let w = ends_well k total (s + bytes_by b i) hb hi o rs h.2 in omega (arith, w.0, some, h.0))
    (every_weaker (λ u. s + bytes_by b i < u.to) (λ u. low < u.to) (λ u l. omega (arith, l, h.0)) (styles_by total (run hb hi o rs))
    (far_from total (s + bytes_by b i) hb hi o rs h.2))

-- ---- a style that goes on

abbrev of_kind : Bool → Bool → Bool → Bool
of_kind true bold italic = bold
of_kind false bold italic = italic

stays_open : (k hb hi o : Bool) (s : ℕ) (b i flag : Bool) → of_kind k hb hi ≡ true → stops (effect_of k (made hb hi o (step s b i flag))) ≡ false
    → of_kind k (toggled b hb) (toggled i hi) ≡ true
stays_open true true hi o s true i flag h e = cc
stays_open true true hi o s false i flag h e = refl
stays_open true false hi o s b i flag h e = cc
stays_open false hb true o s b true flag h e = cc
stays_open false hb true o s b false flag h e = refl
stays_open false hb false o s b i flag h e = cc

not_broken : (v : Bool) → stops (effect_by false true v) ≡ false → begins (effect_by false true v) ≡ true → ⊥
not_broken true e f = cc
not_broken false e f = cc

-- none of its kind begins while it goes on
none_begins : (k hb hi o : Bool) (s : ℕ) (b i flag : Bool) → of_kind k hb hi ≡ true → stops (effect_of k (made hb hi o (step s b i flag))) ≡ false
    → begins (effect_of k (made hb hi o (step s b i flag))) ≡ true → ⊥
none_begins true true hi o s true i flag h e f = cc
none_begins true true hi o s false i flag h e f = not_broken (i && ((true && hi) && not o)) e f
none_begins true false hi o s b i flag h e f = cc
none_begins false hb true o s b true flag h e f = cc
none_begins false hb true o s b false flag h e f = not_broken (b && ((hb && true) && o)) e f
none_begins false hb false o s b i flag h e f = cc

-- where it is broken it ends at the toggle's first byte
breaks_at : (k hb hi o : Bool) (s : ℕ) (b i flag : Bool) → of_kind k hb hi ≡ true → begins (effect_of k (made hb hi o (step s b i flag))) ≡ true
    → closing_place k (made hb hi o (step s b i flag)) ≡ s
breaks_at true false hi o s b i flag h f = cc
breaks_at true true hi o s true i flag h f = cc
breaks_at true true hi o s false false flag h f = cc
breaks_at true true false o s false true flag h f = cc
breaks_at true true true true s false true flag h f = cc
breaks_at true true true false s false true flag h f = omega arith
breaks_at false hb false o s b i flag h f = cc
breaks_at false hb true o s b true flag h f = cc
breaks_at false hb true o s false false flag h f = cc
breaks_at false false true o s true false flag h f = cc
breaks_at false true true false s true false flag h f = cc
breaks_at false true true true s true false flag h f = omega arith

-- one that begins goes on then
opened : (k hb hi o : Bool) (s : ℕ) (b i flag : Bool) → begins (effect_of k (made hb hi o (step s b i flag))) ≡ true → of_kind k (toggled b hb) (toggled i hi) ≡ true
opened true true hi o s true i flag f = cc
opened true false hi o s true i flag f = refl
opened true true hi o s false i flag f = refl
opened true false hi o s false true flag f = cc
opened true false hi o s false false flag f = cc
opened false hb true o s b true flag f = cc
opened false hb false o s b true flag f = refl
opened false hb true o s b false flag f = refl
opened false true false o s true false flag f = cc
opened false false false o s true false flag f = cc
opened false hb false o s false false flag f = cc

-- ---- it and the styles that begin behind its own beginning

-- it is of the other kind, or ends behind the first one's end
abbrev IsOtherOrFar : Style → Style → Type 0
IsOtherOrFar s u = (u.bold ≡ not s.bold) ⊎ (s.to < u.to)

same_or_other : (j k : Bool) → (j ≡ k) ⊎ (j ≡ not k)
same_or_other true true = inl refl
same_or_other true false = inr refl
same_or_other false true = inr refl
same_or_other false false = inl refl

to_if : (b : Bool) (e f : End) → b ≡ true → (if b then e else f).to ≡ e.to
to_if true e f h = refl
to_if false e f h = cc

to_else : (b : Bool) (e f : End) → b ≡ false → (if b then e else f).to ≡ f.to
to_else true e f h = cc
to_else false e f h = refl

ended_here : (k : Bool) (total : ℕ) (t : PlacedToggle) (ts : List PlacedToggle) → stops (effect_of k t) ≡ true → (ending k total (t ∷ ts)).to ≡ closing_place k t
ended_here k total t ts e = to_if (stops (effect_of k t)) (record { to = closing_place k t; close_w = closing_width k t }) (ending k total ts) e

ended_later : (k : Bool) (total : ℕ) (t : PlacedToggle) (ts : List PlacedToggle) → stops (effect_of k t) ≡ false
    → (ending k total (t ∷ ts)).to ≡ (ending k total ts).to
ended_later k total t ts e = to_else (stops (effect_of k t)) (record { to = closing_place k t; close_w = closing_width k t }) (ending k total ts) e

-- at the toggle where it ends
behind_stop : (k : Bool) (x : Style) (total : ℕ) (hb hi o : Bool) (s : ℕ) (b i flag : Bool) (rs : List Step) → AreSteps (s + bytes_by b i) total rs → 2 ≤ bytes_by b i
    → x.bold ≡ k → of_kind k hb hi ≡ true → x.to ≡ closing_place k (made hb hi o (step s b i flag))
    → Every (IsOtherOrFar x) (styles_by total (run hb hi o (step s b i flag ∷ rs)))
behind_stop k x total hb hi o s b i flag rs h some e had is =
    let t : PlacedToggle = made hb hi o (step s b i flag) in
    let rest : List PlacedToggle = run (toggled b hb) (toggled i hi) (outside_after hb hi b i flag) rs in
    let all = taken_by hb hi o s b i flag in
    let within = (closing_in k t).1 in
    begun_when (IsOtherOrFar x) total t rest
    (λ j f. elim (same_or_other j k) [
      | inl same ↦ (
          let here : closing_place k t ≡ s = breaks_at k hb hi o s b i flag had (subst (λ (v : Bool). begins (effect_of v t) ≡ true) same f) in
          let w = ends_well j total (s + bytes_by b i) (toggled b hb) (toggled i hi) (outside_after hb hi b i flag) rs h in
          inr (omega (arith, here, is, w.0, some))
          )
      | inr other ↦ inl (other ∙ ap not (sym e))
    ])
    (every_weaker (λ u. s + bytes_by b i < u.to) (IsOtherOrFar x) (λ u l. inr (omega (arith, l, is, within, all))) (styles_by total rest)
    (far_from total (s + bytes_by b i) (toggled b hb) (toggled i hi) (outside_after hb hi b i flag) rs h))

-- at one where it goes on
behind_pass : (k : Bool) (x : Style) (total : ℕ) (hb hi o : Bool) (s : ℕ) (b i flag : Bool) (rs : List Step) → x.bold ≡ k → of_kind k hb hi ≡ true
    → stops (effect_of k (made hb hi o (step s b i flag))) ≡ false
    → Every (IsOtherOrFar x) (styles_by total (run (toggled b hb) (toggled i hi) (outside_after hb hi b i flag) rs))
    → Every (IsOtherOrFar x) (styles_by total (run hb hi o (step s b i flag ∷ rs)))
behind_pass k x total hb hi o s b i flag rs e had stay hs =
    let t : PlacedToggle = made hb hi o (step s b i flag) in
    begun_when (IsOtherOrFar x) total t (run (toggled b hb) (toggled i hi) (outside_after hb hi b i flag) rs)
    (λ j f. elim (same_or_other j k) [
      | inl same ↦ absurd (none_begins k hb hi o s b i flag had stay (subst (λ (v : Bool). begins (effect_of v t) ≡ true) same f))
      | inr other ↦ inl (other ∙ ap not (sym e))
    ])
    hs

behind_by : (v k : Bool) (x : Style) (total : ℕ) (hb hi o : Bool) (s : ℕ) (b i flag : Bool) (rs : List Step) → AreSteps (s + bytes_by b i) total rs → 2 ≤ bytes_by b i
    → x.bold ≡ k → of_kind k hb hi ≡ true → x.to ≡ (ending k total (run hb hi o (step s b i flag ∷ rs))).to
    → stops (effect_of k (made hb hi o (step s b i flag))) ≡ v
    → (of_kind k (toggled b hb) (toggled i hi) ≡ true → x.to ≡ (ending k total (run (toggled b hb) (toggled i hi) (outside_after hb hi b i flag) rs)).to
    → Every (IsOtherOrFar x) (styles_by total (run (toggled b hb) (toggled i hi) (outside_after hb hi b i flag) rs)))
    → Every (IsOtherOrFar x) (styles_by total (run hb hi o (step s b i flag ∷ rs)))
behind_by true k x total hb hi o s b i flag rs h some e had is stop go =
    behind_stop k x total hb hi o s b i flag rs h some e had
    (is ∙ ended_here k total (made hb hi o (step s b i flag)) (run (toggled b hb) (toggled i hi) (outside_after hb hi b i flag) rs) stop)
behind_by false k x total hb hi o s b i flag rs h some e had is stay go =
    behind_pass k x total hb hi o s b i flag rs e had stay
    (go (stays_open k hb hi o s b i flag had stay)
    (is ∙ ended_later k total (made hb hi o (step s b i flag)) (run (toggled b hb) (toggled i hi) (outside_after hb hi b i flag) rs) stay))

all_behind : (k : Bool) (x : Style) (total low : ℕ) (hb hi o : Bool) (rs : List Step) → AreSteps low total rs → x.bold ≡ k → of_kind k hb hi ≡ true
    → x.to ≡ (ending k total (run hb hi o rs)).to → Every (IsOtherOrFar x) (styles_by total (run hb hi o rs))
all_behind k x total low hb hi o [] h e had is = tt
all_behind k x total low hb hi o (step s b i flag ∷ rs) h e had is =
    behind_by (stops (effect_of k (made hb hi o (step s b i flag)))) k x total hb hi o s b i flag rs h.2 (some_bytes b i h.1) e had is refl
    (λ a c. all_behind k x total (s + bytes_by b i) (toggled b hb) (toggled i hi) (outside_after hb hi b i flag) rs h.2 e a c)

-- each style and the later ones
abbrev KindPairs : List Style → Type 0
KindPairs [] = Unit {0}
KindPairs (u ∷ us) = Every (IsOtherOrFar u) us × KindPairs us

two_first : (b c : Bool) (x y : Style) (us : List Style) → y.bold ≡ not x.bold → (b ≡ true → Every (IsOtherOrFar x) us) → (c ≡ true → Every (IsOtherOrFar y) us)
    → KindPairs us → KindPairs (((if b then x ∷ [] else []) ++ (if c then y ∷ [] else [])) ++ us)
two_first true true x y us e f g h = ((inl e, f refl), (g refl, h))
two_first true false x y us e f g h = (f refl, h)
two_first false true x y us e f g h = (g refl, h)
two_first false false x y us e f g h = h

kind_pairs : (total low : ℕ) (hb hi o : Bool) (rs : List Step) → AreSteps low total rs → KindPairs (styles_by total (run hb hi o rs))
kind_pairs total low hb hi o [] h = tt
kind_pairs total low hb hi o (step s b i flag ∷ rs) h =
    let t : PlacedToggle = made hb hi o (step s b i flag) in
    let n : ℕ = s + bytes_by b i in
    let rest : List PlacedToggle = run (toggled b hb) (toggled i hi) (outside_after hb hi b i flag) rs in
    let k : Bool = t.bold_outside in
    let later : (j : Bool) → begins (effect_of j t) ≡ true → Every (IsOtherOrFar (style_from j t (ending j total rest))) (styles_by total rest) =
    λ j f. all_behind j (style_from j t (ending j total rest)) total n (toggled b hb) (toggled i hi) (outside_after hb hi b i flag) rs h.2 refl (opened j hb hi o s b i flag f) refl in
    two_first (begins (effect_of k t)) (begins (effect_of (not k) t)) (style_from k t (ending k total rest)) (style_from (not k) t (ending (not k) total rest))
    (styles_by total rest) refl (later k) (later (not k)) (kind_pairs total n (toggled b hb) (toggled i hi) (outside_after hb hi b i flag) rs h.2)

-- ---- in the forest

abbrev pub EachIn : (Style → Type 0) → Forest → Type 0
EachIn P bare = Unit {0}
EachIn P (grown u f g) = P u × EachIn P f × EachIn P g

pub each_of : (P : Style → Type 0) (f : Forest) → Every P (preorder f) → EachIn P f
each_of P bare h = tt
each_of P (grown u f g) h =
    (h.0, each_of P f (every_left P (preorder f) (preorder g) h.1), each_of P g (every_right P (preorder f) (preorder g) h.1))

each_with : (P Q R : Style → Type 0) → ((w : Style) → P w → Q w → R w) → (f : Forest) → EachIn P f → EachIn Q f → EachIn R f
each_with P Q R j bare h k = tt
each_with P Q R j (grown u f g) h k = (j u h.0 k.0, each_with P Q R j f h.1 k.1, each_with P Q R j g h.2 k.2)

each_as : (P R : Style → Type 0) → ((w : Style) → P w → R w) → (f : Forest) → EachIn P f → EachIn R f
each_as P R j f h = each_with P P R (λ w a b. j w a) f h h

-- what is in a style lies in it, and is of the other kind
abbrev IsRightIn : Style → Style → Type 0
IsRightIn s w = (lies_in w s ≡ true) × (w.bold ≡ not s.bold)

abbrev Sound : Forest → Type 0
Sound bare = Unit {0}
Sound (grown u f g) = EachIn (IsRightIn u) f × Sound f × Sound g

each_if : (P : Style → Type 0) (v : Bool) (f g : Forest) → EachIn P f → EachIn P g → EachIn P (if v then f else g)
each_if P true f g h k = h
each_if P false f g h k = k

inside_each : (P : Style → Type 0) (s : Style) (f : Forest) → EachIn P f → EachIn P (inside_of s f)
inside_each P s bare h = tt
inside_each P s (grown u f g) h = each_if P (lies_in u s) (grown u f (inside_of s g)) bare (h.0, h.1, inside_each P s g h.2) tt

sound_if : (v : Bool) (f g : Forest) → Sound f → Sound g → Sound (if v then f else g)
sound_if true f g h k = h
sound_if false f g h k = k

inside_sound : (s : Style) (f : Forest) → Sound f → Sound (inside_of s f)
inside_sound s bare h = tt
inside_sound s (grown u f g) h = sound_if (lies_in u s) (grown u f (inside_of s g)) bare (h.0, h.1, inside_sound s g h.2) tt

past_sound : (s : Style) (f : Forest) → Sound f → Sound (past s f)
past_sound s bare h = tt
past_sound s (grown u f g) h = sound_if (lies_in u s) (past s g) (grown u f g) (past_sound s g h.2) h

deeper : (u v w : Style) → lies_in v u ≡ true → lies_in w v ≡ true → lies_in w u ≡ true
deeper u v w e f = grind (arith, nat_tests, e)

lies_by : (s u : Style) (f g : Forest) (v : Bool) → lies_in u s ≡ v → EachIn (IsRightIn u) f → EachIn (λ w. lies_in w s ≡ true) g
    → EachIn (λ w. lies_in w s ≡ true) (if v then grown u f g else bare)
lies_by s u f g true e h k = (e, each_as (IsRightIn u) (λ w. lies_in w s ≡ true) (λ w q. deeper s u w e q.0) f h, k)
lies_by s u f g false e h k = tt

lies_inside : (s : Style) (f : Forest) → Sound f → EachIn (λ w. lies_in w s ≡ true) (inside_of s f)
lies_inside s bare h = tt
lies_inside s (grown u f g) h = lies_by s u f (inside_of s g) (lies_in u s) refl h.0 (lies_inside s g h.2)

within_end : (s w : Style) → lies_in w s ≡ true → w.to + s.close_w ≤ s.to
within_end s w e = grind (arith, nat_tests)

other_in : (s w : Style) → lies_in w s ≡ true → IsOtherOrFar s w → w.bold ≡ not s.bold
other_in s w e (inl other) = other
other_in s w e (inr far) = let le = within_end s w e in absurd (omega (arith, le, far))

sound_of : (ss : List Style) → KindPairs ss → Sound (forest_of ss)
sound_of [] h = tt
sound_of (s ∷ ss) h =
    let f : Forest = forest_of ss in
    let rest : Sound f = sound_of ss h.1 in
    let pairs : EachIn (IsOtherOrFar s) f = each_of (IsOtherOrFar s) f (subst (Every (IsOtherOrFar s)) (sym (preorder_of ss)) h.0) in (
      each_with (λ w. lies_in w s ≡ true) (IsOtherOrFar s) (IsRightIn s) (λ w e q. (e, other_in s w e q)) (inside_of s f) (lies_inside s f rest)
          (inside_each (IsOtherOrFar s) s f pairs),
      inside_sound s f rest,
      past_sound s f rest,
    )

-- in bold or italic or in neither: no style is in one of its kind
abbrev pub NestsIn : Bool → Bool → Forest → Type 0
NestsIn bold italic bare = Unit {0}
NestsIn bold italic (grown s f g) = (of_style s.bold bold italic ≡ false) × NestsIn (s.bold || bold) (not s.bold || italic) f × NestsIn bold italic g

free_of : (v bold italic : Bool) → (bold ≡ true → v ≡ false) → (italic ≡ true → v ≡ true) → of_style v bold italic ≡ false
free_of true true italic a b = let no : true ≡ false = a refl in cc
free_of true false italic a b = refl
free_of false bold true a b = let no : false ≡ true = b refl in cc
free_of false bold false a b = refl

in_bold : (s : Style) (bold : Bool) (f : Forest) → EachIn (IsRightIn s) f → (bold ≡ true → EachIn (λ w. w.bold ≡ false) f) → (s.bold || bold) ≡ true
    → EachIn (λ w. w.bold ≡ false) f
in_bold s bold f h a z = by s.bold refl z
  where
    by : (v : Bool) → s.bold ≡ v → (v || bold) ≡ true → EachIn (λ w. w.bold ≡ false) f
    by true e i = each_as (IsRightIn s) (λ w. w.bold ≡ false) (λ w q. q.1 ∙ ap not e) f h
    by false e i = a i

in_italic : (s : Style) (italic : Bool) (f : Forest) → EachIn (IsRightIn s) f → (italic ≡ true → EachIn (λ w. w.bold ≡ true) f) → (not s.bold || italic) ≡ true
    → EachIn (λ w. w.bold ≡ true) f
in_italic s italic f h a z = by s.bold refl z
  where
    by : (v : Bool) → s.bold ≡ v → (not v || italic) ≡ true → EachIn (λ w. w.bold ≡ true) f
    by true e i = a i
    by false e i = each_as (IsRightIn s) (λ w. w.bold ≡ true) (λ w q. q.1 ∙ ap not e) f h

nests_in : (bold italic : Bool) (f : Forest) → Sound f → (bold ≡ true → EachIn (λ w. w.bold ≡ false) f) → (italic ≡ true → EachIn (λ w. w.bold ≡ true) f)
    → NestsIn bold italic f
nests_in bold italic bare h a b = tt
nests_in bold italic (grown s f g) h a b = (
  free_of s.bold bold italic (λ e. (a e).0) (λ e. (b e).0),
  nests_in (s.bold || bold) (not s.bold || italic) f h.1 (in_bold s bold f h.0 (λ e. (a e).1)) (in_italic s italic f h.0 (λ e. (b e).1)),
  nests_in bold italic g h.2 (λ e. (a e).2) (λ e. (b e).2),
)

pub line_nests : (cs : List Chunk) → NestsIn false false (forest_of (style_tree_of cs))
line_nests cs =
    let rs : List Step = steps_of cs (toggles_of cs) in
    let us : List Style = styles_by (bytes_of cs) (run false false false rs) in
    subst (λ (ss : List Style). NestsIn false false (forest_of ss)) (sym (styles_read cs))
    (nests_in false false (forest_of us) (sound_of us (kind_pairs (bytes_of cs) 0 false false false rs (are_steps cs))) (λ e. absurd (cc)) (λ e. absurd (cc)))
