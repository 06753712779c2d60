use Rattle.std.proofs.Common.{◌≡◌, ◌++◌, length}
use denote.Shadow.{shadow}
use denote.Text.{Utf8}
use Rattle.wt_span.specs.Items.{items}
use Rattle.wt_expand.specs.Expansion.{chars}
use Rattle.wt_transclusion.proofs.templates.pieces_of.Given as goal

abbrev pub invariant-loop-rest : goal.invariant-loop-rest
invariant-loop-rest l = record {
  joined : items l.pieces ++ chars l.rest ≡ chars l.fn.text;
  text : shadow (Utf8 l.rest);
}

abbrev pub decreases-loop-rest : goal.decreases-loop-rest
decreases-loop-rest l = length l.rest
