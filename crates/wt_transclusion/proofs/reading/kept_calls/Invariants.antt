use Rattle.std.proofs.Common.{◌≡◌, map, take}
use Rattle.wt_braces.specs.Views.{call_of}
use Rattle.wt_transclusion.specs.Reads.{braces_of}
use Rattle.wt_transclusion.proofs.reading.kept_calls.Given as goal

abbrev pub invariant-loop-call : goal.invariant-loop-call
invariant-loop-call l = map braces_of l.kept ≡ map call_of (take l.call-index l.calls)
