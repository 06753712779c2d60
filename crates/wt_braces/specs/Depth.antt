-- How many calls lie round each call of members, by how they are nested, in order of their first bytes.
use Rattle.std.specs.Prelude.{ℕ, ◌+◌, List, [], ◌∷◌, ◌++◌}
use Rattle.wt_span.specs.Braces.{Member, Members, lexeme, call, none, more}

-- `depth` lie round the members themselves
abbrev mutual
  pub depths_of : ℕ → Member → List ℕ
  depths_of depth (lexeme w) = []
  depths_of depth (call k ms) = depth ∷ depths_of_all (depth + 1) ms

  pub depths_of_all : ℕ → Members → List ℕ
  depths_of_all depth none = []
  depths_of_all depth (more m ms) = depths_of depth m ++ depths_of_all depth ms
