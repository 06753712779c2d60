use Rattle.std.proofs.Common.{[]}
use Rattle.wt_span.specs.Items.{items}
use Rattle.wt_context.specs.Tokens.{rest_segments}
use Rattle.wt_context.proofs.Resting.{AreCut}
use Rattle.wt_context.proofs.rest.Rest.pieces.Given as goal

abbrev pub invariant-loop-left : goal.invariant-loop-left
invariant-loop-left l = AreCut [] (rest_segments l.fn.self) l.n (items l.pieces) (rest_segments l.rest) l.left

abbrev pub decreases-loop-left : goal.decreases-loop-left
decreases-loop-left l = l.left
