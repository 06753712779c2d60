-- Of two styles that one toggle opened, the one that the next toggle switches ends first.
use Rattle.std.proofs.Common.{◌≡◌, ℕ, ◌+◌, ◌<◌, zero, suc, Bool, true, false, not, cond, List, [], ◌∷◌, length, drop, refl, ap, ◌∙◌, arith, length-drop}
use Rattle.std.specs.Prelude.{◌==◌, ◌&&◌, ◌||◌, All, nat_lt, slice_get}
use Rattle.std.specs.List.{position_or_len}
use Rattle.std.specs.Option.{option_map_or}
use Rattle.std.proofs.lemmas.Bool.Decides.{nat_tests}
use Rattle.std.proofs.lemmas.List.Elements.{All-head, All-drop}
use Rattle.wt_quotes.specs.declared.toggle.Toggle.{Toggle}
use Rattle.wt_quotes.specs.Toggles.{Switches}
use Rattle.wt_quotes.specs.Turns.{is_of, toggles_at, next, bold_ends_later}

-- of two places, the first lies before the second, or both are the end
abbrev is_sooner : ℕ → ℕ → ℕ → Bool
is_sooner italic bold len = nat_lt italic bold || ((italic == bold) && not (nat_lt bold len))

first_is : (b i : Bool) (n len p q : ℕ) → (b || i) ≡ true → n < len → is_sooner (n + cond (not i) (1 + q) 0) (n + cond (not b) (1 + p) 0) len ≡ not b
first_is true true n len p q s h = grind (arith, nat_tests)
first_is true false n len p q s h = grind (arith, nat_tests)
first_is false true n len p q s h = grind (arith, nat_tests)
first_is false false n len p q s h = grind (arith, nat_tests)

none_is : (n len : ℕ) → n ≡ len → is_sooner (n + 0) (n + 0) len ≡ true
none_is n len e = grind (arith, nat_tests)

sooner_is : (n len : ℕ) (ts : List Toggle) → n + length ts ≡ len → All Switches ts
    → is_sooner (n + position_or_len (is_of false) ts) (n + position_or_len (is_of true) ts) len ≡ not (toggles_at true ts 0)
sooner_is n len [] e s = none_is n len (omega arith)
sooner_is n len (t ∷ ts) e s =
    first_is t.bold t.italic n len (position_or_len (is_of true) ts) (position_or_len (is_of false) ts) (All-head Switches t ts s) (omega arith)

slice_get-drop : (ts : List Toggle) (n : ℕ) → slice_get (drop n ts) 0 ≡ slice_get ts n
slice_get-drop [] zero = refl
slice_get-drop [] (suc n) = refl
slice_get-drop (t ∷ ts) zero = refl
slice_get-drop (t ∷ ts) (suc n) = slice_get-drop ts n

pub ends_later : (ts : List Toggle) (i : ℕ) → All Switches ts → i < length ts → bold_ends_later ts i ≡ not (toggles_at true ts (i + 1))
unfolding bold_ends_later next
ends_later ts i s h =
    sooner_is (i + 1) (length ts) (drop (i + 1) ts) (omega (arith, length-drop (i + 1) ts)) (All-drop Switches (i + 1) ts s)
    ∙ ap (λ o. not (option_map_or (is_of true) o false)) (slice_get-drop ts (i + 1))
