-- A stretch of a text: the members that are between two places, with what their bytes belong to and the calls that begin there.
use Rattle.std.specs.Prelude.{◌≡◌, ℕ, ◌+◌, ◌≤◌, Option, List, [], ◌∷◌, ◌++◌, take, drop, nat_lt}
use Rattle.std.specs.List.{prefix_len}
use Rattle.wt_span.specs.Braces.{Member, Members, lexeme, call, none, more, members, width_of_all, CallAt, calls_of_all}
use Rattle.wt_transclusion.specs.Marks.{Mark, marks_of_all}

-- lexemes have some bytes, and calls two braces or more at each end
abbrev mutual
  pub IsFull : Member → Type 0
  IsFull (lexeme (kind, n)) = 1 ≤ n
  IsFull (call k ms) = (2 ≤ k) × AreFull ms

  pub AreFull : Members → Type 0
  AreFull none = Unit {0}
  AreFull (more m ms) = IsFull m × AreFull ms

abbrev pub AllFull : List Member → Type 0
AllFull [] = Unit {0}
AllFull (x ∷ xs) = IsFull x × AllFull xs

-- how many calls begin in front of a place
abbrev pub calls_before : ℕ → List CallAt → ℕ
calls_before p cs = prefix_len (λ c. nat_lt c.from p) cs

-- the first of the calls begins at a place or after it
abbrev pub BeginBehind : ℕ → List CallAt → Type 0
BeginBehind p [] = Unit {0}
BeginBehind p (c ∷ cs) = p ≤ c.from

-- These calls are those of the members from a place on, and then others.
pub record HasCalls (cs : List CallAt) (from to n : ℕ) (xs : List Member) : Type 0 where
  pub parent : Option ℕ
  pub after : List CallAt
  pub is : cs ≡ calls_of_all from parent n (members xs) ++ after
  pub behind : BeginBehind to after

-- The members are between two places of a text that has these calls, and whose bytes belong to these.
pub record IsStretch (marks : List Mark) (cs : List CallAt) (from to : ℕ) (xs : List Member) : Type 0 where
  pub full : AllFull xs
  pub width : from + width_of_all (members xs) ≡ to
  pub bytes : take (width_of_all (members xs)) (drop from marks) ≡ marks_of_all (members xs)
  pub calls : HasCalls (drop (calls_before from cs) cs) from to (calls_before from cs) xs

-- the place of the next call, or the end where none begins in front of it
pub record IsLimit (cs : List CallAt) (e g : ℕ) : Type 0 where
  pub within : g ≤ e
  pub behind : BeginBehind g cs
  pub most : (b : ℕ) → b ≤ e → BeginBehind b cs → b ≤ g
