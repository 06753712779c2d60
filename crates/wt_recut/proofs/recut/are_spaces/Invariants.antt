use Rattle.std.proofs.Common.{◌≡◌, drop}
use Rattle.wt_tree.specs.View.{texts_of}
use Rattle.wt_recut.specs.Recut.{are_spaces}
use Rattle.wt_recut.proofs.recut.are_spaces.Given as goal

abbrev pub invariant-loop-text : goal.invariant-loop-text
invariant-loop-text l = are_spaces (texts_of (drop l.text-index l.texts)) ≡ are_spaces (texts_of l.texts)
