use Rattle.std.proofs.Common.{◌≡◌, drop, length}
use Rattle.wt_tree.specs.View.{attrs_of}
use Rattle.wt_checks.specs.Alike.{same_attrs}
use Rattle.wt_checks.proofs.alike.same_attrs.Given as goal

abbrev pub invariant-loop-at : goal.invariant-loop-at
invariant-loop-at l = record {
  long : length l.a ≡ length l.b;
  left : same_attrs (attrs_of l.a) (attrs_of l.b) ≡ same_attrs (attrs_of (drop l.at l.a)) (attrs_of (drop l.at l.b));
}
