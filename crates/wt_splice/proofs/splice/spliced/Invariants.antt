use Rattle.std.proofs.Common.{◌≡◌, ◌++◌, drop}
use Rattle.std.specs.Str.{IsCharBoundary}
use Rattle.wt_splice.specs.Splice.{spliced_from}
use Rattle.wt_splice.specs.Views.{changes_view}
use Rattle.wt_splice.proofs.splice.spliced.Given as goal

abbrev pub invariant-loop-change : goal.invariant-loop-change
invariant-loop-change l = record {
  made : l.out ++ spliced_from l.page l.at (changes_view (drop l.change-index l.changes)) ≡ spliced_from l.page 0 (changes_view l.changes);
  border : IsCharBoundary l.page l.at;
}
