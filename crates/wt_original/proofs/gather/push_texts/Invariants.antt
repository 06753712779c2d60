use Rattle.std.proofs.Common.{◌≡◌, ◌++◌, take}
use Rattle.wt_tree.specs.View.{texts_of}
use Rattle.wt_original.specs.Kept.{characters}
use Rattle.wt_original.specs.Gathered.{items_seen}
use Rattle.wt_original.proofs.gather.push_texts.Given as goal

abbrev pub invariant-loop-text : goal.invariant-loop-text
invariant-loop-text l = items_seen l.out.items ≡ items_seen l.fn.out.items ++ characters (texts_of (take l.text-index l.texts))
