-- Forests of styles: those that lie in a style are the first of the list, as many as do.
use Rattle.std.proofs.Common.{◌≡◌, ℕ, ◌+◌, ◌-◌, ◌≤◌, Bool, true, false, List, [], ◌∷◌, take, drop, refl, sym, ap, ◌∙◌, cond, arith}
use Rattle.std.specs.Prelude.{if◌then◌else◌}
use Rattle.std.specs.List.{prefix_len}
use Rattle.std.proofs.Math.Numerals.{one-add}
use Rattle.std.proofs.lemmas.Bool.Decides.{nat_tests}
use Rattle.wt_quotes.specs.declared.style.Style.{Style}
use Rattle.wt_quotes.specs.Forest.{Forest, bare, grown, lies_in, inside_of, past, forest_of}
use Rattle.wt_quotes.proofs.Planting.{Fill as FillOf}
use Rattle.wt_context.specs.Styling.{Fill}

-- what lies in a style that lies in another one lies in that
deeper : (u v w : Style) → lies_in v u ≡ true → lies_in w v ≡ true → lies_in w u ≡ true
deeper u v w e f = grind (arith, nat_tests)

-- and what doesn't lie in that lies in none that does
apart_by : (a b : Bool) → (a ≡ true → b ≡ true) → b ≡ false → a ≡ false
apart_by false b h e = refl
apart_by true b h e = let t = h refl in cc

apart : (u v w : Style) → lies_in v u ≡ true → lies_in w u ≡ false → lies_in w v ≡ false
apart u v w e f = apart_by (lies_in w v) (lies_in w u) (λ h. deeper u v w e h) f

-- u lies in s

inside_inside_by : (s u v : Style) (f g : Forest) (t : Bool) → lies_in u s ≡ true → lies_in v s ≡ t → inside_of u (inside_of s g) ≡ inside_of u g
    → inside_of u (if t then grown v f (inside_of s g) else bare) ≡ inside_of u (grown v f g)
inside_inside_by s u v f g true e h i = ap (λ x. if lies_in v u then grown v f x else bare) i
inside_inside_by s u v f g false e h i = let n = apart s u v e h in rw n refl

inside_inside : (s u : Style) (f : Forest) → lies_in u s ≡ true → inside_of u (inside_of s f) ≡ inside_of u f
inside_inside s u bare e = refl
inside_inside s u (grown v f g) e = inside_inside_by s u v f g (lies_in v s) e refl (inside_inside s u g e)

past_inside_by : (s u v : Style) (f g : Forest) (t w : Bool) → lies_in u s ≡ true → lies_in v s ≡ t → lies_in v u ≡ w
    → past u (inside_of s g) ≡ inside_of s (past u g)
    → past u (if t then grown v f (inside_of s g) else bare) ≡ inside_of s (if w then past u g else grown v f g)
past_inside_by s u v f g true true e h k i = rw k i
past_inside_by s u v f g true false e h k i = rw (k, h) refl
past_inside_by s u v f g false true e h k i = let n = apart s u v e h in let m = sym k ∙ n in cc
past_inside_by s u v f g false false e h k i = rw h refl

past_inside : (s u : Style) (f : Forest) → lies_in u s ≡ true → past u (inside_of s f) ≡ inside_of s (past u f)
past_inside s u bare e = refl
past_inside s u (grown v f g) e = past_inside_by s u v f g (lies_in v s) (lies_in v u) e refl refl (past_inside s u g e)

past_past_by : (s u v : Style) (f g : Forest) (t : Bool) → lies_in u s ≡ true → lies_in v u ≡ t → past s (past u g) ≡ past s g
    → past s (if t then past u g else grown v f g) ≡ past s (grown v f g)
past_past_by s u v f g true e h i = let d = deeper s u v e h in rw d i
past_past_by s u v f g false e h i = refl

past_past : (s u : Style) (f : Forest) → lies_in u s ≡ true → past s (past u f) ≡ past s f
past_past s u bare e = refl
past_past s u (grown v f g) e = past_past_by s u v f g (lies_in v u) e refl (past_past s u g e)

-- how many of these styles lie in one
abbrev pub inner : Style → List Style → ℕ
inner s ss = prefix_len (λ u. lies_in u s) ss

inside_by : (s u : Style) (ss : List Style) (v : Bool) → lies_in u s ≡ v → inside_of s (forest_of ss) ≡ forest_of (take (inner s ss) ss)
    → (if v then grown u (inside_of u (forest_of ss)) (inside_of s (past u (forest_of ss))) else bare) ≡ forest_of (take (cond v (1 + inner s ss) 0) (u ∷ ss))
inside_by s u ss false e h = refl
inside_by s u ss true e h =
    let F = forest_of ss in
    let G = forest_of (take (inner s ss) ss) in
    let a : inside_of u F ≡ inside_of u G = sym (inside_inside s u F e) ∙ ap (inside_of u) h in
    let b : inside_of s (past u F) ≡ past u G = sym (past_inside s u F e) ∙ ap (past u) h in
    rw one-add (ap (λ x. grown u x (inside_of s (past u F))) a ∙ ap (λ x. grown u (inside_of u G) x) b)

pub inside_taken : (s : Style) (ss : List Style) → inside_of s (forest_of ss) ≡ forest_of (take (inner s ss) ss)
inside_taken s [] = refl
inside_taken s (u ∷ ss) = inside_by s u ss (lies_in u s) refl (inside_taken s ss)

past_by : (s u : Style) (ss : List Style) (v : Bool) → lies_in u s ≡ v → past s (forest_of ss) ≡ forest_of (drop (inner s ss) ss)
    → (if v then past s (past u (forest_of ss)) else grown u (inside_of u (forest_of ss)) (past u (forest_of ss)))
    ≡ forest_of (drop (cond v (1 + inner s ss) 0) (u ∷ ss))
past_by s u ss false e h = refl
past_by s u ss true e h = rw one-add (past_past s u (forest_of ss) e ∙ h)

pub past_dropped : (s : Style) (ss : List Style) → past s (forest_of ss) ≡ forest_of (drop (inner s ss) ss)
past_dropped s [] = refl
past_dropped s (u ∷ ss) = past_by s u ss (lies_in u s) refl (past_dropped s ss)

-- ---- what fills a place

pub same_fill : (low high : ℕ) (f : Forest) → FillOf low high f → Fill low high f
same_fill low high bare h = h
same_fill low high (grown s f g) h = (h.0, same_fill (s.from + s.open_w) (s.to - s.close_w) f h.1, h.2, same_fill s.to high g h.3)

pub fill_le : (low high : ℕ) (f : Forest) → Fill low high f → low ≤ high
fill_le low high bare h = h
fill_le low high (grown s f g) h = omega (arith, h.0, h.2, fill_le (s.from + s.open_w) (s.to - s.close_w) f h.1, fill_le s.to high g h.3)
