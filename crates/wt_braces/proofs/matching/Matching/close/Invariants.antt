use Rattle.std.proofs.Common.{ℕ, ◌-◌, ◌≤◌, List}
use Rattle.wt_span.specs.Braces.{Member, rewritten, again}
use Rattle.wt_braces.specs.Matched.{Stands}
use Rattle.wt_braces.specs.Leading.{Leads}
use Rattle.wt_braces.proofs.matching.Matching.close.Given as goal

abbrev pub invariant-loop-place : goal.invariant-loop-place
invariant-loop-place l = record {
  order : l.place ≤ l.at.end;
  leads : (from : ℕ) (before : List Member) → Stands from before l.fn.self l.fn.at.start
      → Leads from (again (l.at.end - l.fn.at.start) rewritten (l.at.end - l.fn.at.start, before)) l.self l.place (l.at.end - l.place);
}

abbrev pub decreases-loop-place : goal.decreases-loop-place
decreases-loop-place l = l.at.end - l.place
