-- The steps of a context are its toggles: what the laws say of bytes.
use Rattle.std.proofs.Common.{◌≡◌, ℕ, ◌+◌, ◌%◌, ◌<◌, ◌≤◌, zero, suc, Bool, true, false, not, List, [], ◌∷◌, length, map, drop, get_or, refl, sym, ap, subst, ◌∙◌, arith, inl, inr, ◌⊎◌}
use Rattle.std.specs.Prelude.{◌==◌, ◌&&◌, ◌||◌, nat_lt, nat_le, count_by, slice_get, Some}
use Rattle.std.specs.List.{range_with_len, list_any}
use Rattle.std.specs.Option.{option_map_or}
use Rattle.std.proofs.Math.Seq.{drop-cons, drop-length}
use Rattle.std.proofs.lemmas.Bool.{cases_lt}
use Rattle.std.proofs.lemmas.List.Sums.{sum_by-cons}
use Rattle.std.proofs.lemmas.Option.{slice_get-get_or}
use Rattle.wt_quotes.specs.declared.chunk.Chunk.{Chunk}
use Rattle.wt_quotes.specs.declared.toggle.Toggle.{Toggle}
use Rattle.wt_quotes.specs.Runs.{bytes_of}
use Rattle.wt_quotes.specs.Toggles.{width_of, toggles_of}
use Rattle.wt_quotes.specs.Turns.{is_of, start_of}
use Rattle.wt_quotes.specs.Styles.{styles_by}
use Rattle.wt_quotes.specs.StyleLaws.{holds, delimits, is_switch_at, is_switch, switches_before, EachByteIsStyled, EachSwitchIsOneDelimiter}
use Rattle.wt_quotes.proofs.Since.{parity}
use Rattle.wt_quotes.proofs.SixStates.{Step, step, run, toggled, bytes_by}
use Rattle.wt_quotes.proofs.Reading.{step_at, steps_of, are_steps, styles_read}
use Rattle.wt_quotes.proofs.Delimiters.{is_in, cut}
use Rattle.wt_quotes.proofs.Counting.{one, pick, styled, IsFree, held, le_yes, lt_yes}

-- steps are those of toggles
abbrev AreOf : List Chunk → List Toggle → List Step → Type 0
AreOf chunks [] [] = Unit {0}
AreOf chunks [] (r ∷ rs) = ⊥
AreOf chunks (t ∷ ts) [] = ⊥
AreOf chunks (t ∷ ts) (step s b i flag ∷ rs) = (s ≡ start_of chunks t) × (b ≡ t.bold) × (i ≡ t.italic) × AreOf chunks ts rs

are_from : (chunks : List Chunk) (ts : List Toggle) (i m : ℕ) → i + m ≡ length ts → AreOf chunks (drop i ts) (map (step_at chunks ts) (range_with_len i m))
are_from chunks ts i zero e =
    let z : i ≡ length ts = omega arith in
    subst (λ us. AreOf chunks us []) (sym (ap (λ n. drop n ts) z ∙ drop-length ts)) tt
are_from chunks ts i (suc m) e =
    let d : Toggle = record { chunk = 0; plain = 0; italic = false; bold = false } in
    let h : i < length ts = omega arith in
    let is : slice_get ts i ≡ Some (get_or ts i d) = slice_get-get_or ts i d h in
    let z : i + 1 ≡ suc i = omega arith in
    subst (λ us. AreOf chunks us (map (step_at chunks ts) (range_with_len i (suc m)))) (sym (drop-cons ts i d h)) (
      ap (λ p. option_map_or (start_of chunks) p 0) is,
      ap (λ p. option_map_or (is_of true) p false) is,
      ap (λ p. option_map_or (is_of false) p false) is,
      subst (λ n. AreOf chunks (drop n ts) (map (step_at chunks ts) (range_with_len (i + 1) m))) z (are_from chunks ts (i + 1) m (omega arith)),
    )

drop_none : (ts : List Toggle) → drop 0 ts ≡ ts
drop_none [] = refl
drop_none (t ∷ ts) = refl

are_of : (chunks : List Chunk) (ts : List Toggle) → AreOf chunks ts (steps_of chunks ts)
are_of chunks ts = subst (λ us. AreOf chunks us (steps_of chunks ts)) (drop_none ts) (are_from chunks ts 0 (length ts) (omega arith))

bytes_is : (t : Toggle) (b i : Bool) → b ≡ t.bold → i ≡ t.italic → bytes_by b i ≡ width_of t
bytes_is t b i e f = ap (λ x. bytes_by x i) e ∙ ap (bytes_by t.bold) f ∙ (omega arith)

-- a style is open by the number of its toggles

odd_more : (x : Bool) (n : ℕ) (had : Bool) → toggled ((one x + n) % 2 == 1) had ≡ toggled (n % 2 == 1) (toggled x had)
odd_more true n had =
    let z : one true + n ≡ n + 1 = omega arith in
    ap (λ m. toggled (m % 2 == 1) had) z ∙ ap (λ b. toggled b had) (parity n) ∙ flip (n % 2 == 1) had
  where
    flip : (b had : Bool) → toggled (not b) had ≡ toggled b (not had)
    flip true true = refl
    flip true false = refl
    flip false had = refl
odd_more false n had = let z : one false + n ≡ n = omega arith in ap (λ m. toggled (m % 2 == 1) had) z

switch_is : (bold : Bool) (chunks : List Chunk) (p s : ℕ) (t : Toggle) (b i : Bool) → s ≡ start_of chunks t → b ≡ t.bold → i ≡ t.italic
    → (pick bold b i && nat_le (s + bytes_by b i) p) ≡ switches_before bold chunks p t
switch_is true chunks p s t b i e f g = ap (λ x. x && nat_le (s + bytes_by b i) p) f
    ∙ ap (λ x. t.bold && nat_le (x + bytes_by b i) p) e ∙ ap (λ x. t.bold && nat_le (start_of chunks t + x) p) (bytes_is t b i f g)
switch_is false chunks p s t b i e f g = ap (λ x. x && nat_le (s + bytes_by b i) p) g
    ∙ ap (λ x. t.italic && nat_le (x + bytes_by b i) p) e ∙ ap (λ x. t.italic && nat_le (start_of chunks t + x) p) (bytes_is t b i f g)

styled_is : (bold : Bool) (chunks : List Chunk) (p : ℕ) (had : Bool) (ts : List Toggle) (rs : List Step) → AreOf chunks ts rs
    → styled bold p had rs ≡ toggled (count_by (switches_before bold chunks p) ts % 2 == 1) had
styled_is bold chunks p had [] [] h = refl
styled_is bold chunks p had [] (r ∷ rs) h = absurd h
styled_is bold chunks p had (t ∷ ts) [] h = absurd h
styled_is bold chunks p had (t ∷ ts) (step s b i flag ∷ rs) h =
    let x : Bool = switches_before bold chunks p t in
    ap (λ y. styled bold p (toggled y had) rs) (switch_is bold chunks p s t b i h.0 h.1 h.2)
    ∙ styled_is bold chunks p (toggled x had) ts rs h.3
    ∙ sym (odd_more x (count_by (switches_before bold chunks p) ts) had)
    ∙ ap (λ n. toggled (n % 2 == 1) had) (sym (sum_by-cons (λ u. one (switches_before bold chunks p u)) t ts))

or_left : (x y : Bool) → (x || y) ≡ false → x ≡ false
or_left true y e = e
or_left false y e = refl

or_right : (x y : Bool) → (x || y) ≡ false → y ≡ false
or_right true y e = cc
or_right false y e = e

both_true : (x y : Bool) → x ≡ true → y ≡ true → (x && y) ≡ false → ⊥
both_true true true e f g = cc
both_true true false e f g = cc
both_true false y e f g = cc

free_by : (p s w : ℕ) → (nat_le s p && nat_lt p (s + w)) ≡ false → (p < s) ⊎ (s ≤ p) → (p < s + w) ⊎ (s + w ≤ p) → (p < s) ⊎ (s + w ≤ p)
free_by p s w e (inl l) m = inl l
free_by p s w e (inr l) (inr m) = inr m
free_by p s w e (inr l) (inl m) = absurd (both_true (nat_le s p) (nat_lt p (s + w)) (le_yes s p l) (lt_yes p (s + w) m) e)

free_is : (chunks : List Chunk) (p : ℕ) (ts : List Toggle) (rs : List Step) → AreOf chunks ts rs → list_any (is_switch_at chunks p) ts ≡ false → IsFree p rs
free_is chunks p [] [] h e = tt
free_is chunks p [] (r ∷ rs) h e = absurd h
free_is chunks p (t ∷ ts) [] h e = absurd h
free_is chunks p (t ∷ ts) (step s b i flag ∷ rs) h e =
    let w = bytes_is t b i h.1 h.2 in
    let here = or_left (is_switch_at chunks p t) (list_any (is_switch_at chunks p) ts) e in
    let is : (nat_le s p && nat_lt p (s + bytes_by b i)) ≡ false = ap (λ x. nat_le x p && nat_lt p (x + bytes_by b i)) h.0
    ∙ ap (λ x. nat_le (start_of chunks t) p && nat_lt p (start_of chunks t + x)) w ∙ here in (
      free_by p s (bytes_by b i) is (cases_lt p s) (cases_lt p (s + bytes_by b i)),
      free_is chunks p ts rs h.3 (or_right (is_switch_at chunks p t) (list_any (is_switch_at chunks p) ts) e),
    )

from_false : (b : Bool) → toggled b false ≡ b
from_false true = refl
from_false false = refl

styled_at : (bold : Bool) (chunks : List Chunk) (p : ℕ) → p < bytes_of chunks → is_switch chunks p ≡ false
    → count_by (holds bold p) (styles_by (bytes_of chunks) (run false false false (steps_of chunks (toggles_of chunks))))
    ≡ one (count_by (switches_before bold chunks p) (toggles_of chunks) % 2 == 1)
styled_at true chunks p l e =
    let ts : List Toggle = toggles_of chunks in
    let is = held true p (bytes_of chunks) 0 false false false (steps_of chunks ts) (are_steps chunks) l
    (free_is chunks p ts (steps_of chunks ts) (are_of chunks ts) e) in
    let by = ap one (styled_is true chunks p false ts (steps_of chunks ts) (are_of chunks ts)
    ∙ from_false (count_by (switches_before true chunks p) ts % 2 == 1)) in
    omega (arith, is, by)
styled_at false chunks p l e =
    let ts : List Toggle = toggles_of chunks in
    let is = held false p (bytes_of chunks) 0 false false false (steps_of chunks ts) (are_steps chunks) l
    (free_is chunks p ts (steps_of chunks ts) (are_of chunks ts) e) in
    let by = ap one (styled_is false chunks p false ts (steps_of chunks ts) (are_of chunks ts)
    ∙ from_false (count_by (switches_before false chunks p) ts % 2 == 1)) in
    omega (arith, is, by)

pub each_byte : (chunks : List Chunk) → EachByteIsStyled chunks
each_byte chunks bold p l e = ap (count_by (holds bold p)) (styles_read chunks) ∙ styled_at bold chunks p l e

in_is : (chunks : List Chunk) (p : ℕ) (ts : List Toggle) (rs : List Step) → AreOf chunks ts rs → is_in p rs ≡ list_any (is_switch_at chunks p) ts
in_is chunks p [] [] h = refl
in_is chunks p [] (r ∷ rs) h = absurd h
in_is chunks p (t ∷ ts) [] h = absurd h
in_is chunks p (t ∷ ts) (step s b i flag ∷ rs) h =
    ap (λ x. (nat_le x p && nat_lt p (x + bytes_by b i)) || is_in p rs) h.0
    ∙ ap (λ x. (nat_le (start_of chunks t) p && nat_lt p (start_of chunks t + x)) || is_in p rs) (bytes_is t b i h.1 h.2)
    ∙ ap (λ x. is_switch_at chunks p t || x) (in_is chunks p ts rs h.3)

pub each_switch : (chunks : List Chunk) → EachSwitchIsOneDelimiter chunks
each_switch chunks p l =
    let ts : List Toggle = toggles_of chunks in
    let is = cut p (bytes_of chunks) 0 false false false (steps_of chunks ts) (are_steps chunks) l in
    let by = ap one (in_is chunks p ts (steps_of chunks ts) (are_of chunks ts)) in
    let read = ap (count_by (delimits p)) (styles_read chunks) in
    omega (arith, is, by, read)
