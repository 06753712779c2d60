-- The signs of a line, of which those in a form are seen as those of atoms.
use Rattle.std.specs.Prelude.{ℕ, Bool, List, map, if◌then◌else◌}

-- the sign of an item; of one in a form as that of an atom
abbrev pub seen_sign : Bool → ℕ → ℕ
seen_sign bare s = if bare then s else 256

abbrev pub seen_by : Bool → List ℕ → List ℕ
seen_by bare ss = map (seen_sign bare) ss
