use Rattle.std.proofs.Common.{◌≢◌, ◌<◌, ℕ, slice_index_or}
use Rattle.wt_span.specs.declared.str.Str.{Str}
use Rattle.wt_span.specs.declared.list.List as list
use Rattle.wtround_cases.proofs.case.has_name.Given as goal

-- no entry so far has the name
abbrev pub invariant-loop-taken : goal.invariant-loop-taken
invariant-loop-taken l = (k : ℕ) → (d : Str × list.List ℕ) → k < l.taken-index → (slice_index_or l.entries k d).0 ≢ l.name
