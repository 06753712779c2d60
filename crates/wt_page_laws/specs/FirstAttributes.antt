-- The attributes that a text gives: of each name that counts the first one that is read in it.
use Rattle.std.specs.Prelude.{◌≡◌, ◌≢◌, ◌⊎◌, ◌≤◌, ℕ, suc, List, [], ◌∷◌}
use Rattle.wt_tree.specs.Kinds.{order}
use Rattle.wt_attributes.specs.Attributes.{Named}

-- it is one of these
abbrev pub IsAmong : Named → List Named → Type 0
IsAmong a [] = ⊥
IsAmong a (b ∷ bs) = (a ≡ b) ⊎ IsAmong a bs

-- it is one of these, and none before it has its name
abbrev pub IsFirstOf : Named → List Named → Type 0
IsFirstOf a [] = ⊥
IsFirstOf a (b ∷ bs) = (a ≡ b) ⊎ ((a.0 ≢ b.0) × IsFirstOf a bs)

-- their names come in the order in which they are written, each once, from this place on
abbrev pub AreInOrder : ℕ → List Named → Type 0
AreInOrder n [] = Unit {0}
AreInOrder n (a ∷ others) = (n ≤ order a.0) × AreInOrder (suc (order a.0)) others

-- Of the attributes that were read just the first of each name are given.
pub record AreFirstOfNames (read given : List Named) : Type 0 where
  pub each : (a : Named) → IsAmong a given → IsFirstOf a read
  pub all : (a : Named) → IsFirstOf a read → IsAmong a given
  pub ordered : AreInOrder 0 given
