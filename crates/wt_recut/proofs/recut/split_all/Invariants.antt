use Rattle.std.proofs.Common.{take}
use Rattle.wt_tree.specs.View.{texts_of}
use Rattle.wt_recut.proofs.Recuts.{IsHalved}
use Rattle.wt_recut.proofs.recut.split_all.Given as goal

abbrev pub invariant-loop-text : goal.invariant-loop-text
invariant-loop-text l = IsHalved l.halves l.found (texts_of (take l.text-index l.text-items))
