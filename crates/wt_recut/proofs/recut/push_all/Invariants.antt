use Rattle.std.proofs.Common.{◌≡◌, ◌++◌, take}
use Rattle.wt_recut.proofs.recut.push_all.Given as goal

abbrev pub invariant-loop-text : goal.invariant-loop-text
invariant-loop-text l = l.out ≡ l.initial.out ++ take l.text-index l.texts
