use Rattle.std.proofs.Common.{map}
use Rattle.std.proofs.lemmas.Result.{IfOk-weaker}
use Rattle.wt_span.specs.Slice.{bytes_of}
use Rattle.wt_span.specs.Items.{items_of, call_of_origin}
use Rattle.wt_inline.specs.Inside.{inside_items}
use Rattle.wt_inline.specs.Parts.{inside_part}
use Rattle.wt_inline.specs.View.{item_trees}
use Rattle.wt_inline.specs.Grown.{growth}
use Rattle.wt_inline.proofs.Trees.{inside_step, inside_done, no_bytes}
use Rattle.wt_inline.proofs.nowiki.inside.Goals as goal

pub loop-rest-preserved : goal.loop-rest-preserved
loop-rest-preserved c =
    let o = call_of_origin c.args.origin in
    inside_step (growth c.loop-rest.children) (growth c.in_ok-children.children) (items_of c.split_inside.result.0)
    (inside_items o 0 (bytes_of c.split_inside.result.1)) (inside_items o 0 (bytes_of c.loop-rest.rest))
    (map inside_part (inside_items o 0 (bytes_of c.args.text))) c.in_ok-children.ensures c.split_inside.ensures.items
    c.loop-rest.invariant

pub returns : goal.returns
returns c =
    let o = call_of_origin c.args.origin in
    IfOk-weaker c.finish.result _ _ (λ l e. inside_done (growth c.loop-rest.children) o (bytes_of c.loop-rest.rest)
    (map inside_part (inside_items o 0 (bytes_of c.args.text))) (item_trees l)
    (no_bytes (bytes_of c.loop-rest.rest) c.as_str.result.now c.is_empty.result c.as_str.ensures c.is_empty.ensures
    c.loop-rest-test.false) c.loop-rest.invariant e) c.finish.ensures
