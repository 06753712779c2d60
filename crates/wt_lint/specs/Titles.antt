-- The titles of categories that the code has met.
use Rattle.std.specs.Prelude.{ℕ, List, map}
use Rattle.wt_lint.specs.declared.met.Titles.{Titles}

abbrev pub names : Titles → List (List ℕ)
names t = map (λ v. v.items) t.met.keys
