use Rattle.std.proofs.Common.{◌≡◌, ◌++◌, string_bytes}
use Rattle.wt_names.specs.Reading.{squeezed}
use Rattle.wt_names.proofs.Spaces.{left_after}
use Rattle.wt_names.proofs.reading.squeezed.Given as goal

abbrev pub invariant-loop-c : goal.invariant-loop-c
invariant-loop-c l = string_bytes l.out ++ squeezed (left_after l.after_space l.c-iterator.rest.now) ≡ squeezed l.text
