-- What the parts of a call give, by their places.
use Rattle.std.specs.Prelude.{ℕ, ◌+◌, Bool, Option, Some, None, List, [], ◌∷◌}
use Rattle.wt_span.specs.Braces.{Member, members, width_of_all}
use Rattle.wt_braces.specs.PartMembers.{PartMembers, joined, width_of}
use Rattle.wt_expand.specs.Expansion.{Reading, PartOutput}
use Rattle.wt_transclusion.specs.Cursors.{starts}
use Rattle.wt_transclusion.specs.Steps.{given_from}

-- whether what follows members is at the start of a line
abbrev pub start_after : Bool → List ℕ → ℕ → List Member → Bool
start_after s t at [] = s
start_after s t at (x ∷ xs) = starts t (at + width_of_all (members (x ∷ xs)))

-- a part that begins at a place: its name and its value, or its value alone
abbrev pub part_given : Reading → Bool → List ℕ → ℕ → Option (List Member × ℕ) → List Member → PartOutput
part_given r s t at None value = record { name = None; value = given_from r s t at value; all = given_from r s t at value }
part_given r s t at (Some (xs, n)) value =
    record {
      name = Some (given_from r s t at xs);
      value = given_from r (starts t (at + width_of xs + n)) t
          (at + width_of xs + n) value;
      all = given_from r s t at (joined (Some (xs, n)) value);
    }

-- parts that follow one another, with their bars between them
abbrev pub parts_given : Reading → Bool → List ℕ → ℕ → List PartMembers → List PartOutput
parts_given r s t at [] = []
parts_given r s t at (p ∷ ps) = part_given r s t at p.name p.value ∷ parts_given r (starts t (at + width_of (joined p.name p.value) + p.bar)) t
    (at + width_of (joined p.name p.value) + p.bar) ps
