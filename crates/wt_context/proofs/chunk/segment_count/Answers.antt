use Rattle.std.proofs.Common.{◌+◌, ◌<◌, arith}
use Rattle.wt_context.proofs.TokenLaws.{count_room}
use Rattle.wt_context.proofs.chunk.segment_count.Goals as goal

pub overflow_add-count : goal.overflow_add-count
overflow_add-count c =
    let few : c.loop-token.count + c.len.result < 4294967296 =
    count_room c.args.tokens.now c.loop-token.token-index c.loop-token.count c.len.result 4294967296 c.token-item.result
    c.loop-token-test.true c.token-item.is c.requires c.loop-token.invariant c.len.ensures.value in
    omega (arith, few)
