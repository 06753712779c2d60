use Rattle.std.proofs.Common.{◌<◌, ◌≤◌, ◌+◌, length, refl, arith}
use Rattle.std.proofs.lemmas.List.{drop_all}
use Rattle.wt_inline.specs.Grown.{growth}
use Rattle.wt_page.specs.Stretches.{stretches_parts}
use Rattle.wt_page.specs.Body.{within}
use Rattle.wt_rows.specs.Views.{rows_view}
use Rattle.wt_build.proofs.BlockNodes.{some_left, within_left, ready_drop, ready_take, front_block}
use Rattle.wt_build.proofs.GrowingBlocks.{blocks_grow, blocks_grown}
use Rattle.wt_build.proofs.block.with_blocks.Goals as goal

pub block_len-n-requires : goal.block_len-n-requires
block_len-n-requires c = some_left c.args.rows.now c.rest_of-rest.result.now c.loop-at.at c.loop-at-test.true c.rest_of-rest.ensures

pub with_block-requires-clause-ready : goal.with_block-requires-clause-ready
with_block-requires-clause-ready c =
    ready_take c.args.pieces.now c.rest_of-rest.result.now c.front_of.result.now c.block_len-n.result
    (ready_drop c.args.pieces.now c.args.rows.now c.rest_of-rest.result.now c.loop-at.at c.requires c.rest_of-rest.ensures) c.front_of.ensures

pub with_block-requires-clause-block : goal.with_block-requires-clause-block
with_block-requires-clause-block c =
    front_block c.rest_of-rest.result.now c.front_of.result.now _ c.block_len-n.result
    (some_left c.args.rows.now c.rest_of-rest.result.now c.loop-at.at c.loop-at-test.true c.rest_of-rest.ensures)
    c.front_of.ensures c.block_len-n.ensures.block

pub loop-at-init : goal.loop-at-init
loop-at-init c = record { place = omega arith; rest = λ qs. refl }

pub loop-at-smaller : goal.loop-at-smaller
loop-at-smaller c =
    let n : 0 < c.block_len-n.result = c.block_len-n.ensures.some in
    let w : c.loop-at.at + c.block_len-n.result ≤ length c.args.rows.now = within_left c.args.rows.now c.rest_of-rest.result.now
    c.loop-at.at c.block_len-n.result c.loop-at-test.true c.rest_of-rest.ensures c.block_len-n.ensures.within in
    omega (arith, n, w)

pub loop-at-preserved : goal.loop-at-preserved
loop-at-preserved c =
    let ps = c.args.pieces.now in
    let rows = c.args.rows.now in
    let rest = c.rest_of-rest.result.now in
    let front = c.front_of.result.now in
    let at = c.loop-at.at in
    let n = c.block_len-n.result in
    let some = some_left rows rest at c.loop-at-test.true c.rest_of-rest.ensures in
    record {
      place = within_left rows rest at n c.loop-at-test.true c.rest_of-rest.ensures c.block_len-n.ensures.within;
      rest = blocks_grow c.args.depth ps rows rest front at n _ (growth c.args.children) (growth c.loop-at.children) (growth c.in_ok-children.children)
          c.rest_of-rest.ensures c.front_of.ensures c.block_len-n.ensures.cut (front_block rest front _ n some c.front_of.ensures c.block_len-n.ensures.block)
          c.in_ok-children.ensures c.loop-at.invariant.rest;
    }

pub returns : goal.returns
returns c =
    let rows = c.args.rows.now in
    blocks_grown c.args.depth c.args.pieces.now _ (stretches_parts (within c.args.depth (rows_view c.args.pieces.now rows))) (growth c.args.children)
    (growth c.loop-at.children) (drop_all c.loop-at.at rows c.loop-at-test.false) c.loop-at.invariant.rest
