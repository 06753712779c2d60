use Rattle.std.proofs.Common.{◌≡◌, ◌++◌, take}
use Rattle.wt_schema.specs.Escapes.{escaped}
use Rattle.wt_tree.specs.View.{texts_of}
use Rattle.wt_html_out.proofs.nodes.push_source.Given as goal

abbrev pub invariant-loop-text : goal.invariant-loop-text
invariant-loop-text l = l.out.items ≡ l.initial.out.items ++ escaped (texts_of (take l.text-index l.texts))
