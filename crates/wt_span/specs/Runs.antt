-- A list, cut into its longest runs: two neighbours are in one run where they join.
use Rattle.std.specs.Prelude.{◌≡◌, Bool, true, false, List, [], ◌∷◌, ◌++◌, if◌then◌else◌}

-- one more before the runs
abbrev pub put : {A : Type 0} → (A → A → Bool) → A → List (List A) → List (List A)
put joins x [] = (x ∷ []) ∷ []
put joins x ([] ∷ rs) = (x ∷ []) ∷ rs
put joins x ((y ∷ ys) ∷ rs) = if joins x y then (x ∷ y ∷ ys) ∷ rs else (x ∷ []) ∷ (y ∷ ys) ∷ rs

abbrev pub runs : {A : Type 0} → (A → A → Bool) → List A → List (List A)
runs joins [] = []
runs joins (x ∷ xs) = put joins x (runs joins xs)

-- ---- the same as a relation, by cuts that exist

-- neighbours within it join, and its last doesn't join the first of the others
abbrev pub IsRun : {A : Type 0} → (A → A → Bool) → List A → List A → Type 0
IsRun joins [] others = ⊥
IsRun joins (x ∷ []) [] = Unit {0}
IsRun joins (x ∷ []) (y ∷ others) = joins x y ≡ false
IsRun joins (x ∷ y ∷ ys) others = (joins x y ≡ true) × IsRun joins (y ∷ ys) others

-- the list is a run and the runs of the others
abbrev pub AreRuns : {A : Type 0} → (A → A → Bool) → List (List A) → List A → Type 0
AreRuns joins [] xs = xs ≡ []
AreRuns {A} joins (r ∷ rs) xs = (others : List A) × (xs ≡ r ++ others) × IsRun joins r others × AreRuns joins rs others
