use Rattle.std.proofs.Common.{◌≡◌, ◌++◌, List, length, map}
use Rattle.wt_span.specs.Slice.{bytes_of}
use Rattle.wt_span.specs.Items.{Item, char, call_of_origin}
use Rattle.wt_context.specs.Loosened.{loosened}
use Rattle.wt_context.proofs.loose.Loosening.with_text.Given as goal

abbrev pub invariant-loop-rest : goal.invariant-loop-rest
invariant-loop-rest l =
    (xs : List Item) → loosened l.now (map (char (call_of_origin l.origin)) (bytes_of l.rest) ++ xs)
    ≡ loosened l.fn.self (map (char (call_of_origin l.origin)) (bytes_of l.text) ++ xs)

abbrev pub decreases-loop-rest : goal.decreases-loop-rest
decreases-loop-rest l = length (bytes_of l.rest)
