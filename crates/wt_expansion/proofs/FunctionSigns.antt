-- A target that names a function by text begins with `#`; so a call whose target doesn't names none.
use Rattle.std.proofs.Common.{◌≡◌, ◌∙◌, ℕ, zero, suc, ◌+◌, ◌<◌, Bool, true, false, Option, Some, None, List, [], ◌∷◌, ◌++◌, length, drop, one-add, refl, sym, ap, subst, arith}
use Rattle.std.specs.Prelude.{◌==◌, ◌||◌, is_some, slice_index}
use Rattle.std.specs.List.{AllPass, prefix_len}
use Rattle.std.specs.Char.{to_ascii_lowercase}
use Rattle.std.proofs.Math.Seq.{drop-append_seam}
use Rattle.std.proofs.lemmas.Bool.Decides.{nat_tests}
use Rattle.wt_span.specs.Bytes.{is_white, lower}
use Rattle.wt_span.specs.declared.function.Function.{Function}
use Rattle.wt_span.specs.declared.function.Function.TheVariants.{If, IfEq, Switch}
use Rattle.wt_span.specs.Functions.{word_of, function_of}
use Rattle.wt_functions.specs.Laws.{NamesFunction}
use Rattle.wt_functions.proofs.Naming.{naming}
use Rattle.wt_expand.specs.Texts.{is_space, without_front}
use Rattle.wt_expand.specs.Targets.{is_function}

space_is : (b : ℕ) → is_white b ≡ true → is_space b ≡ true
space_is b h = by_tests (b == 32) (b == 9) (b == 10) h
  where
    by_tests : (x y z : Bool) → ((x || y) || z) ≡ true → (x || (y || z)) ≡ true
    by_tests true y z e = refl
    by_tests false y z e = e

behind_space : (space : List ℕ) (rest : List ℕ) → AllPass is_white space → prefix_len is_space (space ++ 35 ∷ rest) ≡ length space
behind_space [] rest all = refl
behind_space (s ∷ ss) rest all =
    rw (space_is s (all zero 0 (omega arith)), behind_space ss rest (λ k d l. all (suc k) d (omega arith))) (one-add (length ss))

sign_is : (b : ℕ) → to_ascii_lowercase b ≡ 35 → b ≡ 35
sign_is b h = grind (arith, nat_tests)

first_sign : (f : Function) (b : ℕ) (word : List ℕ) → lower (b ∷ word) ≡ word_of f → to_ascii_lowercase b ≡ 35
first_sign If b word h = cc
first_sign IfEq b word h = cc
first_sign Switch b word h = cc

no_word : (f : Function) → lower [] ≡ word_of f → ⊥
no_word If h = cc
no_word IfEq h = cc
no_word Switch h = cc

begins_so : (f : Function) (space word rest : List ℕ) → AllPass is_white space → lower word ≡ word_of f
    → slice_index (without_front is_space (space ++ (word ++ rest))) 0 ≡ 35
begins_so f space [] rest all w = absurd (no_word f w)
begins_so f space (b ∷ bs) rest all w =
    let sign : b ≡ 35 = sign_is b (first_sign f b bs w) in
    let left : without_front is_space (space ++ 35 ∷ (bs ++ rest)) ≡ 35 ∷ (bs ++ rest) =
    ap (λ n. drop n (space ++ 35 ∷ (bs ++ rest))) (behind_space space (bs ++ rest) all) ∙ drop-append_seam space (35 ∷ (bs ++ rest)) in
    subst (λ c. slice_index (without_front is_space (space ++ c ∷ (bs ++ rest))) 0 ≡ 35) (sym sign) (ap (λ xs. slice_index xs 0) left)

named_begins : (f : Function) (n : ℕ) (target : List ℕ) → NamesFunction f n target → slice_index (without_front is_space target) 0 ≡ 35
named_begins f n target h =
    subst (λ t. slice_index (without_front is_space t) 0 ≡ 35) (sym h.all) (begins_so f h.space h.word h.rest h.is_white h.is_word)

pub named_is_function : (source : List ℕ) (f : Function) (n : ℕ) → function_of (drop 2 source) ≡ Some (f, n) → is_function source ≡ true
unfolding is_function
named_is_function source f n h = ap (λ b. b == 35) (named_begins f n (drop 2 source) ((naming (drop 2 source) f n).0 h))

pub names_none : (source : List ℕ) → is_function source ≡ false → is_some (function_of (drop 2 source)) ≡ false
names_none source h = by_name (function_of (drop 2 source)) refl
  where
    by_name : (o : Option (Function × ℕ)) → function_of (drop 2 source) ≡ o → is_some o ≡ false
    by_name None e = refl
    by_name (Some (f, n)) e = let z : true ≡ false = sym (named_is_function source f n e) ∙ h in cc
