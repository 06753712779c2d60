use Rattle.std.proofs.Common.{◌≡◌, ◌++◌, length}
use Rattle.wt_tree.specs.View.{texts_of}
use denote.Shadow.{shadow}
use denote.Text.{Utf8}
use Rattle.wt_html_in.proofs.texts.cut.Given as goal

abbrev pub invariant-loop-rest : goal.invariant-loop-rest
invariant-loop-rest l = record {
  joined : texts_of l.texts ++ l.rest ≡ l.fn.text;
  text : shadow (Utf8 l.rest);
}

abbrev pub decreases-loop-rest : goal.decreases-loop-rest
decreases-loop-rest l = length l.rest
