use Rattle.std.proofs.Common.{◌≡◌, take, string_bytes}
use Rattle.wt_tree.specs.View.{texts_of}
use Rattle.wt_original.proofs.kept.text_of.Given as goal

abbrev pub invariant-loop-text : goal.invariant-loop-text
invariant-loop-text l = string_bytes l.out ≡ texts_of (take l.text-index l.texts)
