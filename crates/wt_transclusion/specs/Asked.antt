-- What a folder was asked for between two moments.
use Rattle.std.specs.Prelude.{◌≡◌, ℕ, ◌+◌, ◌≤◌, max, List, ◌++◌, Option, Some, None, option_map, Result, Ok, Err, ⊤}
use Rattle.wt_span.specs.declared.limits.TheConstants.{PAGE_BYTES}

-- where a folder tells the most bytes that a call asked for, they are those of before or at most these
abbrev pub AsksAtMost : ℕ → Option ℕ → Option ℕ → Type 0
AsksAtMost most None after = ⊤
AsksAtMost most (Some before) None = ⊥
AsksAtMost most (Some before) (Some after) = after ≤ max before most

-- these names are the first of all names, or all of them, where they are known
abbrev pub AreFirst : Option (List (List ℕ)) → Option (List (List ℕ)) → Type 0
AreFirst names all = (more : List (List ℕ)) × (all ≡ option_map (λ ns. ns ++ more) names)

-- the names answered are all of these where something was found, and else the first of them
abbrev pub AnswersNames : {T R : Type 0} → Option (List (List ℕ)) → Option (List (List ℕ)) → Result T R → Type 0
AnswersNames all names (Ok x) = names ≡ all
AnswersNames all names (Err e) = AreFirst names all

-- The folder answered some names more, each for at most one byte more than a page may have.
pub record Asks (names_before names_after : Option (List (List ℕ))) (most_before most_after : Option ℕ) : Type 0 where
  pub names : AreFirst names_before names_after
  pub most : AsksAtMost (PAGE_BYTES + 1) most_before most_after
