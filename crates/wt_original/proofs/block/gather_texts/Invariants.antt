use Rattle.std.proofs.Common.{[], take}
use Rattle.wt_tree.specs.View.{texts_of}
use Rattle.wt_original.specs.Kept.{characters}
use Rattle.wt_original.specs.Gathered.{Adds}
use Rattle.wt_original.proofs.block.gather_texts.Given as goal

abbrev pub invariant-loop-text : goal.invariant-loop-text
invariant-loop-text l = Adds l.fn.out l.out (texts_of (take l.text-index l.texts)) (characters (texts_of (take l.text-index l.texts))) []
