-- That a target names a function exactly where it is blanks and line breaks, the function's word in any case, and anything.
use Rattle.std.proofs.Common.{◌≡◌, refl, sym, ◌∙◌, ap, subst, ℕ, zero, suc, ◌+◌, ◌<◌, ◌≤◌, Bool, true, false, cond, Option, Some, None, List, [], ◌∷◌, ◌++◌, length, take, drop, arith, take-append-drop, length-take, one-add, ◌⊎◌, inl, inr, ◌↔◌}
use Rattle.std.proofs.lemmas.List.{take-map, map-append, get_or-take}
use Rattle.std.proofs.lemmas.List.Folds.{length-prefix_len}
use Rattle.std.proofs.lemmas.List.Sums.{prefix_len_passes}
use Rattle.std.proofs.lemmas.Slice.Eq.{bytes_eq-Decides}
use Rattle.std.proofs.Math.Seq.{drop-append_seam}
use Rattle.std.proofs.lemmas.Bool.Decides.{nat_tests, eqb_tells}
use Rattle.std.specs.Char.{to_ascii_lowercase}
use Rattle.std.specs.List.{AllPass}
use Rattle.std.specs.Option.{option_map}
use Rattle.std.specs.Str.{bytes_eq}
use Rattle.wt_span.specs.Bytes.{lower}
use Rattle.wt_span.specs.declared.function.Function.{Function}
use Rattle.wt_span.specs.declared.function.Function.TheVariants.{If, IfEq, Switch}
use Rattle.wt_span.specs.Bytes.{is_white}
use Rattle.wt_span.specs.Functions.{space_len, word_of, begins_with, named, function_of}
use Rattle.wt_functions.specs.Laws.{NamesFunction}

-- ---- a function that is named has its word there

begins_word : (f : Function) (bs : List ℕ) → begins_with f bs ≡ true → lower (take (length (word_of f)) bs) ≡ word_of f
unfolding begins_with
begins_word f bs h = (bytes_eq-Decides (lower (take (length (word_of f)) bs)) (word_of f)).0 h

length_lower : (bs : List ℕ) → length (lower bs) ≡ length bs
length_lower [] = refl
length_lower (b ∷ bs) = ap suc (length_lower bs)

spaces : (target : List ℕ) → AllPass is_white (take (space_len target) target)
spaces target k d h =
    let n : length (take (space_len target) target) ≡ space_len target = length-prefix_len is_white target in
    let m : k < space_len target = omega arith in
    rw (get_or-take (space_len target) target k d m) (prefix_len_passes is_white target k d m)

-- the first test that holds
first_by : (P : Function → Type 0) (a b c : Bool) (f : Function) → (a ≡ true → P If) → (b ≡ true → P IfEq) → (c ≡ true → P Switch) → cond a (Some If) (cond b (Some IfEq) (cond c (Some Switch) None)) ≡ Some f → P f
first_by P true b c f p q r h = let e : If ≡ f = cc in subst P e (p refl)
first_by P false true c f p q r h = let e : IfEq ≡ f = cc in subst P e (q refl)
first_by P false false true f p q r h = let e : Switch ≡ f = cc in subst P e (r refl)
first_by P false false false f p q r h = cc

named_word : (bs : List ℕ) (f : Function) → named bs ≡ Some f → lower (take (length (word_of f)) bs) ≡ word_of f
named_word bs f h = first_by (λ g. lower (take (length (word_of g)) bs) ≡ word_of g) (begins_with If bs) (begins_with IfEq bs) (begins_with Switch bs) f (begins_word If bs) (begins_word IfEq bs) (begins_word Switch bs) h

-- the word lies in the text
pub named_fits : (bs : List ℕ) (f : Function) → named bs ≡ Some f → length (word_of f) ≤ length bs
named_fits bs f h =
    let e : length (take (length (word_of f)) bs) ≡ length (word_of f) =
    sym (length_lower (take (length (word_of f)) bs)) ∙ ap length (named_word bs f h) in
    omega (arith, length-take (length (word_of f)) bs)

abbrev pair_at : List ℕ → Function → Function × ℕ
pair_at target g = (g, space_len target + length (word_of g))

names_by : (target : List ℕ) (f : Function) (n : ℕ) (o : Option Function) → named (drop (space_len target) target) ≡ o → option_map (pair_at target) o ≡ Some (f, n) → NamesFunction f n target
names_by target f n None e h = cc
names_by target f n (Some g) e h =
    let rest : List ℕ = drop (space_len target) target in
    let w : lower (take (length (word_of g)) rest) ≡ word_of g = named_word rest g e in
    let pair : pair_at target g ≡ (f, n) = cc in
    let same : g ≡ f = ap (λ (p : Function × ℕ). p.0) pair in
    let place : space_len target + length (word_of g) ≡ n = ap (λ (p : Function × ℕ). p.1) pair in
    let long : length (take (length (word_of g)) rest) ≡ length (word_of g) = sym (length_lower (take (length (word_of g)) rest)) ∙ ap length w in
    let short : length (take (space_len target) target) ≡ space_len target = length-prefix_len is_white target in
    subst (λ x. NamesFunction x n target) same (record {
      space = take (space_len target) target;
      word = take (length (word_of g)) rest;
      rest = drop (length (word_of g)) rest;
      all = sym (ap (λ x. take (space_len target) target ++ x) (take-append-drop (length (word_of g)) rest) ∙ take-append-drop (space_len target) target);
      is_white = spaces target;
      is_word = w;
      behind = omega arith;
    })

-- ---- and where the word stands it is named

lowered : (g f : Function) (bs tail : List ℕ) → lower bs ≡ word_of f ++ tail → begins_with g bs ≡ bytes_eq (take (length (word_of g)) (word_of f ++ tail)) (word_of g)
unfolding begins_with
lowered g f bs tail e = ap (λ x. bytes_eq x (word_of g)) (sym (take-map to_ascii_lowercase (length (word_of g)) bs) ∙ ap (take (length (word_of g))) e)

word_named : (f : Function) (bs tail : List ℕ) → lower bs ≡ word_of f ++ tail → named bs ≡ Some f
word_named If bs tail e = rw (lowered If If bs tail e)
word_named IfEq bs tail e = rw (lowered If IfEq bs tail e, lowered IfEq IfEq bs tail e)
word_named Switch bs tail e = rw (lowered If Switch bs tail e, lowered IfEq Switch bs tail e, lowered Switch Switch bs tail e)

space_tells : (b : ℕ) → (b ≤ 32) ⊎ (is_white b ≡ false)
space_tells b =
    elim (eqb_tells b 32) [
      | inl s ↦ inl (omega arith)
      | inr s ↦ elim (eqb_tells b 9) [
        | inl t ↦ inl (omega arith)
        | inr t ↦ elim (eqb_tells b 10) [ inl u ↦ inl (omega arith) | inr u ↦ inr (rw (s.0, t.0, u.0)) ]
      ]
    ]

-- a byte that is `#` without case is no blank or line break
sign_stands : (b : ℕ) → to_ascii_lowercase b ≡ 35 → is_white b ≡ false
sign_stands b h = elim (space_tells b) [ inl s ↦ absurd (grind (arith, nat_tests)) | inr s ↦ s ]

past_space : (space : List ℕ) (b : ℕ) (rest : List ℕ) → AllPass is_white space → is_white b ≡ false → space_len (space ++ b ∷ rest) ≡ length space
past_space [] b rest all h = rw h
past_space (s ∷ ss) b rest all h = rw (all zero 0 (omega arith), past_space ss b rest (λ k d l. all (suc k) d (omega arith)) h) (one-add (length ss))

first_sign : (f : Function) (b : ℕ) (word : List ℕ) → lower (b ∷ word) ≡ word_of f → to_ascii_lowercase b ≡ 35
first_sign If b word h = cc
first_sign IfEq b word h = cc
first_sign Switch b word h = cc

no_word : (f : Function) → lower [] ≡ word_of f → ⊥
no_word If h = cc
no_word IfEq h = cc
no_word Switch h = cc

named_behind : (f : Function) (space word rest : List ℕ) → AllPass is_white space → lower word ≡ word_of f → function_of (space ++ (word ++ rest)) ≡ Some (f, length space + length (word_of f))
unfolding function_of
named_behind f space [] rest all w = absurd (no_word f w)
named_behind f space (b ∷ bs) rest all w =
    let len : space_len (space ++ ((b ∷ bs) ++ rest)) ≡ length space = past_space space b (bs ++ rest) all (sign_stands b (first_sign f b bs w)) in
    let n : named ((b ∷ bs) ++ rest) ≡ Some f = word_named f ((b ∷ bs) ++ rest) (lower rest) (map-append to_ascii_lowercase (b ∷ bs) rest ∙ ap (λ x. x ++ lower rest) w) in
    rw (len, drop-append_seam space ((b ∷ bs) ++ rest), n)

named_from : (f : Function) (n : ℕ) (target : List ℕ) → NamesFunction f n target → function_of target ≡ Some (f, n)
named_from f n target names =
    let long : length names.word ≡ length (word_of f) = sym (length_lower names.word) ∙ ap length names.is_word in
    let place : length names.space + length (word_of f) ≡ n = omega arith in
    rw (names.all, named_behind f names.space names.word names.rest names.is_white names.is_word, place)

names_of : (f : Function) (n : ℕ) (target : List ℕ) → function_of target ≡ Some (f, n) → NamesFunction f n target
unfolding function_of
names_of f n target h = names_by target f n (named (drop (space_len target) target)) refl h

pub naming : (target : List ℕ) (f : Function) (n : ℕ) → (function_of target ≡ Some (f, n)) ↔ NamesFunction f n target
naming target f n = (names_of f n target, named_from f n target)
