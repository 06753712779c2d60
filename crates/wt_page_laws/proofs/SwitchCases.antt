-- Worked cases of `#switch`.
use Rattle.std.proofs.Common.{◌≡◌, refl, true, false, Some, None, [], ◌∷◌}
use Rattle.std.specs.Prelude.{codes}
use Rattle.wt_span.specs.declared.function.Function.TheVariants.{Switch}
use Rattle.wt_functions.specs.Choice.{equal_part, last_whole, chosen}

-- {{#switch: b | a = 1 | b | c = 2 | d }}: the first `=` from the equal part on
falls_through : chosen Switch (true ∷ false ∷ true ∷ false ∷ []) (codes "b" ∷ codes "a" ∷ codes "b" ∷ codes "c" ∷ codes "d" ∷ []) ≡ Some 3
unfolding chosen equal_part last_whole
falls_through = refl

-- {{#switch: x | a = 1 | #default = 2 | d }}: the last part without a `=` comes before `#default`
whole_end : chosen Switch (true ∷ true ∷ false ∷ []) (codes "x" ∷ codes "a" ∷ codes "#default" ∷ codes "d" ∷ []) ≡ Some 3
unfolding chosen equal_part last_whole
whole_end = refl

-- {{#switch: x | #default = 1 | a = 2 | #default = 3 | b = 4 }}: the last `#default`
last_default_counts : chosen Switch (true ∷ true ∷ true ∷ true ∷ [])
    (codes "x" ∷ codes "#default" ∷ codes "a" ∷ codes "#default" ∷ codes "b" ∷ []) ≡ Some 3
unfolding chosen equal_part last_whole
last_default_counts = refl

-- {{#switch: x | a = 1 }}
none_fits : chosen Switch (true ∷ []) (codes "x" ∷ codes "a" ∷ []) ≡ None
unfolding chosen equal_part last_whole
none_fits = refl

-- {{#switch: b | b = 1 | b = 2 }}: the first of two equal ones
first_counts : chosen Switch (true ∷ true ∷ []) (codes "b" ∷ codes "b" ∷ codes "b" ∷ []) ≡ Some 1
unfolding chosen equal_part last_whole
first_counts = refl
