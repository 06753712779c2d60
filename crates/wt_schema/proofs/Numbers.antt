-- The number of a node is read as it was written.
use Rattle.std.proofs.Common.{◌≡◌, ℕ, ◌+◌, ◌-◌, ◌*◌, ◌<◌, ◌≤◌, ◌^◌, true, false, nat_le, Some, List, [], ◌∷◌, decimal, sym, ap, ◌∙◌, refl, arith, get_or}
use Rattle.std.specs.Prelude.{◌==◌, ◌&&◌}
use Rattle.std.specs.Char.{digit_value}
use Rattle.std.specs.Str.Parse.{AllDigits, digits_value_after}
use Rattle.std.proofs.lemmas.Bool.Decides.{nat_tests}
use Rattle.std.proofs.lemmas.Fmt.{decimal_is_IsNumeral, first_decimal}
use Rattle.std.proofs.lemmas.Str.{digit_value_digit}
use Rattle.std.proofs.lemmas.Str.Parse.{digit_from_value}
use Rattle.wt_html_grammar.specs.Signs.{is_digit}
use Rattle.wt_html_grammar.proofs.Steps.{if_true, if_false}
use Rattle.wt_html_grammar.proofs.Reading.{and_true}
use Rattle.wt_schema.specs.Attributes.{decimal_from, decimal_of}

value_le : (ds : List ℕ) (n : ℕ) → n ≤ digits_value_after 10 n ds
value_le [] n = omega arith
value_le (d ∷ ds) n = omega (arith, value_le ds (n * 10 + digit_value d))

value_of_digit : (d : ℕ) → digit_value d < 10 → digit_value d ≡ d - 48
value_of_digit d h = omega (arith, digit_value_digit d (digit_from_value d h))

is_digit_is : (d : ℕ) → 48 ≤ d → d ≤ 57 → is_digit d ≡ true
is_digit_is d l h = grind (arith, nat_tests)

le_test : (m n : ℕ) → m ≤ n → nat_le m n ≡ true
le_test m n h = grind (arith, nat_tests)

digits_told : (ds : List ℕ) (n : ℕ) → AllDigits 10 ds → digits_value_after 10 n ds ≤ 4294967295 → decimal_from n ds ≡ Some (digits_value_after 10 n ds)
digits_told [] n h l = refl
digits_told (d ∷ ds) n h l =
    let q = digit_from_value d h.0 in
    let e : digit_value d ≡ d - 48 = value_of_digit d h.0 in
    let m : n * 10 + digit_value d ≤ 4294967295 = omega (arith, value_le ds (n * 10 + digit_value d)) in
    if_true (is_digit d && nat_le (n * 10 + (d - 48)) 4294967295) _ _
    (and_true _ _ (is_digit_is d (omega arith) (omega arith)) (le_test _ _ (omega arith)))
    ∙ ap (λ x. decimal_from (n * 10 + x) ds) (sym e) ∙ digits_told ds (n * 10 + digit_value d) h.1 l

not_zero : (ds : List ℕ) → 48 < get_or ds 0 0 → decimal_of ds ≡ decimal_from 0 ds
not_zero [] h = absurd (omega arith)
not_zero (d ∷ ds) h = if_false (d == 48) _ _ (differ d h)
  where
    differ : (d : ℕ) → 48 < d → (d == 48) ≡ false
    differ d h = grind (arith, nat_tests)

pub number_told : (n : ℕ) → 0 < n → n < 2 ^ 32 → decimal_of (decimal n) ≡ Some n
number_told n some small =
    let q = decimal_is_IsNumeral n (omega arith) in
    not_zero (decimal n) (first_decimal n some (omega arith)) ∙ digits_told (decimal n) 0 q.0.1 (omega (arith, q.1)) ∙ ap Some q.1
