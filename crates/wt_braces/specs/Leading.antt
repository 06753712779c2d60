-- How far a closing run has taken.
use Rattle.std.specs.Prelude.{◌≡◌, ℕ, List}
use Rattle.wt_span.specs.Braces.{Member, rewritten, again}
use Rattle.wt_braces.specs.Matched.{Matched, Stands}

-- Members that are read up to a place, to which a closing run with so many braces left does what it did to `goal`.
pub record Leads (at : ℕ) (goal : ℕ × List Member) (m : Matched) (place left : ℕ) : Type 0 where
  pub before : List Member
  pub stands : Stands at before m place
  pub same : again left rewritten (left, before) ≡ goal

-- some members are read, and end here
pub record IsRead (m : Matched) (place : ℕ) : Type 0 where
  pub at : ℕ
  pub before : List Member
  pub stands : Stands at before m place
