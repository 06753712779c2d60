-- Worked cases of devices and of the line of `gen`.
use Rattle.std.proofs.Common.{◌≡◌, Some, refl}
use Rattle.std.specs.Prelude.{codes}
use Rattle.wt_commands.specs.Devices.{SinkUse, Took}
use Rattle.std.specs.Fmt.{digits}
use Rattle.wt_commands.specs.Gen.{line}
use Rattle.wt_call_laws.specs.Uses.{both}

-- a sink that had `a` and took `bc`, and then `d`
abbrev first : SinkUse
first = record { taken_before = Some (codes "a"); taken_after = Some (codes "abc"); faults_before = 3; faults_after = 3 }

abbrev second : SinkUse
second = record { taken_before = Some (codes "abc"); taken_after = Some (codes "abcd"); faults_before = 3; faults_after = 3 }

took_two : Took first (codes "bc")
took_two = record { taken = refl; count = refl }

took_three : Took (both first second) (codes "bcd")
took_three = record { taken = refl; count = refl }

-- the line of a page of twelve bytes with five nodes, of which one is a group
line_of_gen : line 12 5 1 12 ≡ codes "bytes 12 nodes 5 groups 1 back 12\n"
unfolding line digits
line_of_gen = refl
