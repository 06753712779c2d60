-- Worked cases of what is told.
use Rattle.std.proofs.Common.{◌≡◌, [], ◌∷◌, refl}
use Rattle.std.specs.Prelude.{codes}
use Rattle.wt_rooms.specs.Rooms.{Told, told_by}

abbrev all_there : Told
all_there = record { status = 0; out = codes "x"; line = []; missing = [] }

told_as_ended : told_by 0 (codes "x") [] [] ≡ all_there
told_as_ended = refl

abbrev names_alone : Told
names_alone = record { status = 101; out = []; line = []; missing = 68 ∷ 0 ∷ [] }

told_missing : told_by 2 [] (codes "wtround: no such page") (68 ∷ 0 ∷ []) ≡ names_alone
told_missing = refl
