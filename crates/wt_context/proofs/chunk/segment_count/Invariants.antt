use Rattle.std.proofs.Common.{◌≡◌, take, length}
use Rattle.wt_context.specs.Tokens.{segments_of}
use Rattle.wt_context.proofs.chunk.segment_count.Given as goal

abbrev pub invariant-loop-token : goal.invariant-loop-token
invariant-loop-token l = l.count ≡ length (segments_of (take l.token-index l.tokens))
