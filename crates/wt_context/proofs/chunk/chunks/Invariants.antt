use Rattle.wt_context.proofs.TokenLaws.{AreChunked}
use Rattle.wt_context.proofs.chunk.chunks.Given as goal

abbrev pub invariant-loop-token : goal.invariant-loop-token
invariant-loop-token l = AreChunked l.now l.tokens l.token-index
