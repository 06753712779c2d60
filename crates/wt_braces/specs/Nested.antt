-- Calls from the order of their last bytes into that of their first.
use Rattle.std.specs.Prelude.{◌≡◌, ◌≤◌, ℕ, ◌+◌, ◌^◌, Option, Some, None, List, [], ◌∷◌, Result, Ok, Err, length, map, nat_le, if◌then◌else◌}
use Rattle.wt_span.specs.Braces.{CallAt}
use Rattle.wt_span.specs.declared.list.List.{List as Listed}
use Rattle.wt_braces.specs.declared.call.Call.{Call}
use Rattle.wt_braces.specs.declared.matching.Closed.{Closed}
use Rattle.wt_braces.specs.declared.call.BraceRefusal.{BraceRefusal}
use Rattle.wt_braces.specs.declared.call.BraceRefusal.TheVariants as refusal
use Rattle.wt_braces.specs.declared.nesting.TheConstants.{NESTED_BRACES}
use Rattle.wt_braces.specs.Views.{ClosedAt, closed_at, call_of}

-- The calls that are begun, the innermost first; those that are written, in the order of their first bytes; and the first
-- byte of the leftmost of these that has too many round it.
pub record Nested : Type 0 where
  pub begun : List ClosedAt
  pub written : List CallAt
  pub deep : Option ℕ

-- the first call of those that lie in the innermost one, or its own number
abbrev pub first_of : List ClosedAt → Option ℕ
first_of [] = None
first_of (c ∷ cs) = Some c.first

-- the number of the innermost call that is begun
abbrev pub innermost : List ClosedAt → Option ℕ
innermost [] = None
innermost (c ∷ cs) = Some (c.first + length cs)

-- the first member is taken, where there is one
abbrev pub TakesFirst : Option Closed → List ClosedAt → List ClosedAt → Type 0
TakesFirst None old new = old ≡ []
TakesFirst (Some c) old new = old ≡ closed_at c ∷ new

-- a call of the innermost one that is begun
abbrev pub call_in : ClosedAt → List ClosedAt → CallAt
call_in c cs = record { argument = c.argument; from = c.from; to = c.to; parts = c.parts; parent = innermost cs }

-- a hundred calls are begun round it
abbrev pub deep_in : ClosedAt → List ClosedAt → Option ℕ → Option ℕ
deep_in c cs deep = if nat_le NESTED_BRACES (length cs) then Some c.from else deep

abbrev pub with_call : ClosedAt → Nested → Nested
with_call c s = record { begun = s.begun; written = call_in c s.begun ∷ s.written; deep = deep_in c s.begun s.deep }

-- those in which nothing is left of the first calls are written, the innermost first
abbrev pub settled : ℕ → List ClosedAt → List CallAt → Option ℕ → Nested
settled left [] written deep = record { begun = []; written = written; deep = deep }
settled left (c ∷ cs) written deep = if nat_le left c.first
    then settled left cs (call_in c cs ∷ written) (deep_in c cs deep)
    else record { begun = c ∷ cs; written = written; deep = deep }

abbrev pub with_closed : ℕ → ClosedAt → Nested → Nested
with_closed left c s = settled left (c ∷ s.begun) s.written s.deep

-- the calls, read from the last one on
abbrev pub ordered : List ClosedAt → Nested → Nested
ordered [] s = s
ordered (c ∷ cs) s = ordered cs (with_closed (length cs) c s)

-- so few that their numbers fit
abbrev pub AreFew : List ClosedAt → Type 0
AreFew [] = Unit {0}
AreFew (c ∷ cs) = (c.first ≤ 2 ^ 30) × AreFew cs

abbrev pub OrderedAnswer : Nested → Result (Listed Call) BraceRefusal → Type 0
OrderedAnswer s (Ok calls) = (map call_of calls ≡ s.written) × (s.deep ≡ None)
OrderedAnswer s (Err (refusal.BracesTooDeep place)) = s.deep ≡ Some place
OrderedAnswer s (Err refusal.NoMemory) = Unit {0}
