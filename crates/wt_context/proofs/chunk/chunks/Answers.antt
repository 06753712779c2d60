use Rattle.std.proofs.Common.{arith}
use Rattle.wt_context.proofs.TokenLaws.{chunk_room, chunk_step, chunk_done}
use Rattle.wt_context.proofs.chunk.chunks.Goals as goal

pub with_token-requires : goal.with_token-requires
with_token-requires c = chunk_room c.loop-token.now c.args.tokens.now c.loop-token.token-index 4294967296 c.token-item.result c.loop-token-test.true
    c.token-item.is c.requires c.loop-token.invariant

pub loop-token-preserved : goal.loop-token-preserved
loop-token-preserved c = chunk_step c.loop-token.now c.in_ok-now.now c.args.tokens.now c.loop-token.token-index c.token-item.result c.loop-token-test.true
    c.token-item.is c.in_ok-now.ensures.value c.in_ok-now.ensures.few c.loop-token.invariant

pub returns : goal.returns
returns c = chunk_done c.loop-token.now c.in_ok-chunks.field-0 c.args.tokens.now c.loop-token.token-index
    (omega (arith, c.loop-token-test.false)) c.in_ok-chunks.ensures c.loop-token.invariant
