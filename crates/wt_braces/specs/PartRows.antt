-- Parts that are read from the left.
use Rattle.std.specs.Prelude.{◌≡◌, ℕ, ◌+◌, ◌≤◌, Bool, true, false, Option, Some, None, List, [], ◌∷◌, ◌++◌, length, nat_lt}
use Rattle.wt_span.specs.Braces.{PartAt, PartSign, pipe, equals, with_name, parts_between}

-- the signs follow one another between two places
abbrev pub Fit : ℕ → ℕ → List PartSign → Type 0
Fit from to [] = from ≤ to
Fit from to (pipe at n ∷ ss) = (from ≤ at) × Fit (at + n) to ss
Fit from to (equals at n ∷ ss) = (from ≤ at) × Fit (at + n) to ss

-- the parts that are read, and of the next one the place where it begins and the `=` that ends its name
pub record Row : Type 0 where
  pub parts : List PartAt
  pub start : ℕ
  pub name : Option ℕ

abbrev pub with_part : ℕ → Row → List PartAt
with_part to r = r.parts ++ record { from = r.start; to = to; equals_at = r.name } ∷ []

-- a `=` names its part where it is a later one that has no name yet
abbrev pub name_with : Bool → Option ℕ → ℕ → Option ℕ
name_with true None at = Some at
name_with true (Some e) at = Some e
name_with false e at = e

abbrev pub place_of : PartSign → ℕ
place_of (pipe at n) = at
place_of (equals at n) = at

abbrev pub with_sign : PartSign → Row → Row
with_sign (pipe at n) r = record { parts = with_part at r; start = at + n; name = None }
with_sign (equals at n) r = record { parts = r.parts; start = r.start; name = name_with (nat_lt 0 (length r.parts)) r.name at }

-- the first of the parts has this name, where one is known
abbrev pub named : Option ℕ → List PartAt → List PartAt
named None ps = ps
named (Some at) ps = with_name true at ps

-- so much is read that with these signs it gives all parts
pub record Reads (r : Row) (to : ℕ) (all : List PartAt) (ss : List PartSign) : Type 0 where
  pub fit : Fit r.start to ss
  pub parts : r.parts ++ named r.name (parts_between (nat_lt 0 (length r.parts)) r.start to ss) ≡ all
