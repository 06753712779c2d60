use Rattle.std.proofs.Common.{◌≡◌, drop}
use Rattle.wt_tree.specs.View.{texts_of}
use Rattle.wt_recut.specs.Recut.{has_break}
use Rattle.wt_recut.proofs.recut.has_break.Given as goal

abbrev pub invariant-loop-text : goal.invariant-loop-text
invariant-loop-text l = has_break (texts_of (drop l.text-index l.texts)) ≡ has_break (texts_of l.texts)
