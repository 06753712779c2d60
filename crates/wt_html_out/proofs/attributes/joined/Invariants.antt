use Rattle.std.proofs.Common.{◌≡◌, take}
use Rattle.wt_tree.specs.View.{texts_of}
use Rattle.wt_html_out.proofs.attributes.joined.Given as goal

abbrev pub invariant-loop-text : goal.invariant-loop-text
invariant-loop-text l = l.all ≡ texts_of (take l.text-index l.texts)
