use Rattle.wt_inline.specs.Grown.{growth}
use Rattle.wt_context.specs.Tokens.{rest_segments}
use Rattle.wt_context.proofs.Resting.{AreTaken}
use Rattle.wt_context.proofs.rest.Rest.onto.Given as goal

abbrev pub invariant-loop-left : goal.invariant-loop-left
invariant-loop-left l = AreTaken (growth l.fn.children) (rest_segments l.fn.self) l.n (growth l.children) (rest_segments l.rest) l.left

abbrev pub decreases-loop-left : goal.decreases-loop-left
decreases-loop-left l = l.left
