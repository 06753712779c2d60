-- Which part a `#switch` gives, by what is so of its parts. Part 0 is what is looked for; the others are numbered from 1.
use Rattle.std.specs.Prelude.{◌≡◌, ℕ, ◌-◌, ◌<◌, ◌≤◌, Bool, true, false, Some, List, length, codes, slice_get}

-- a part after part 0 has a `=` or has none, as the list says of the parts from 1 on
abbrev pub Has : Bool → List Bool → ℕ → Type 0
Has sign equals part = (0 < part) × (slice_get equals (part - 1) ≡ Some sign)

-- a part after part 0 has the text of part 0
pub record IsEqual (texts : List (List ℕ)) (part : ℕ) : Type 0 where
  pub text : List ℕ
  pub behind : 0 < part
  pub first : slice_get texts 0 ≡ Some text
  pub same : slice_get texts part ≡ Some text

-- a part with a `=` that is equal to part 0, or comes after a part that is
pub record IsValue (equals : List Bool) (texts : List (List ℕ)) (part : ℕ) : Type 0 where
  pub has_sign : Has true equals part
  pub equal : ℕ
  pub is_equal : IsEqual texts equal
  pub reached : equal ≤ part

-- the last part, where it has no `=`
pub record IsWholeEnd (equals : List Bool) (part : ℕ) : Type 0 where
  pub last : part ≡ length equals
  pub whole : Has false equals part

-- a part whose `=` comes after the name `#default`
pub record IsDefault (equals : List Bool) (texts : List (List ℕ)) (part : ℕ) : Type 0 where
  pub has_sign : Has true equals part
  pub named : slice_get texts part ≡ Some (codes "#default")
