use Rattle.std.proofs.Common.{◌≡◌, length, sym, ◌∙◌}
use Rattle.std.specs.Vec.Iter.{into_iter_items}
use Rattle.wt_inline.specs.Grown.{growth}
use Rattle.wt_rows.proofs.Growing.{stretches_step, stretches_done}
use Rattle.wt_rows.proofs.stretch.with_stretches.Goals as goal

pub loop-stretch-preserved : goal.loop-stretch-preserved
loop-stretch-preserved c =
    let before = into_iter_items c.loop-stretch.stretch-iterator in
    let rest = into_iter_items c.next.new.self in
    stretches_step c.args.pieces.now _ (growth c.loop-stretch.children) (growth c.in_ok-children.children) _ before rest c.in-Some.stretch
    c.in-Some.ensures.steps.0 c.in_ok-children.ensures c.loop-stretch.invariant

pub returns : goal.returns
returns c =
    let rs = into_iter_items c.loop-stretch.stretch-iterator in
    let ys = into_iter_items c.into_iter-stretch-iterator.result in
    let given : ys ≡ c.into_vec-stretch-items.result.items = c.into_iter-stretch-iterator.ensures.into_iter_gives.0 in
    let len : length rs ≡ 0 = sym c.loop-stretch.stretch-iterator.rest.ok.0 ∙ c.in-None.ensures.steps.0 in
    stretches_done c.args.pieces.now (growth c.args.children) (growth c.loop-stretch.children) rs ys c.args.stretches c.loop-stretch.invariant len
    (given ∙ c.into_vec-stretch-items.ensures)
