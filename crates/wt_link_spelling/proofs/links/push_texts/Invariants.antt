use Rattle.std.proofs.Common.{◌≡◌, ◌++◌, take}
use Rattle.wt_tree.specs.View.{texts_of}
use Rattle.wt_link_spelling.proofs.links.push_texts.Given as goal

abbrev pub invariant-loop-text : goal.invariant-loop-text
invariant-loop-text l = l.out ≡ l.fn.out ++ texts_of (take l.text-index l.texts)
