use Rattle.std.proofs.Common.{◌≡◌, ◌++◌, false, length}
use denote.Text.{Utf8}
use denote.Shadow.{shadow}
use Rattle.wt_expand.specs.Templates.{insides}
use Rattle.wt_transclusion.proofs.only.insides.Given as goal

-- says that each `&str` the loop changes is text
abbrev pub invariant-loop-inside : goal.invariant-loop-inside
invariant-loop-inside l = record {
  text : shadow (Utf8 l.left);
  taken : l.taken ++ insides 0 false l.left ≡ insides 0 false l.text;
}

abbrev pub decreases-loop-inside : goal.decreases-loop-inside
decreases-loop-inside l = length l.left
