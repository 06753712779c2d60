-- What is written of a node that may be kept.
use Rattle.std.specs.Prelude.{◌≡◌, Bool, true, false, List, ◌++◌}
use Rattle.wt_guards.specs.Content.{ContentSign}

-- A kept node was written as it was, or there is nothing yet and what is new is wanted.
abbrev pub Leaves : Bool → List ContentSign → List ContentSign → (List ContentSign → List ContentSign) → Type 0
Leaves true old new by = (signs : List ContentSign) → new ≡ old ++ by signs
Leaves false old new by = (new ≡ old) × ((signs : List ContentSign) → by signs ≡ signs)
