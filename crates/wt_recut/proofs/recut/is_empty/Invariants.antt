use Rattle.std.proofs.Common.{◌≡◌, drop}
use Rattle.wt_tree.specs.View.{texts_of}
use Rattle.wt_recut.specs.Recutting.{is_empty}
use Rattle.wt_recut.proofs.recut.is_empty.Given as goal

abbrev pub invariant-loop-text : goal.invariant-loop-text
invariant-loop-text l = is_empty (texts_of (drop l.text-index l.texts)) ≡ is_empty (texts_of l.texts)
