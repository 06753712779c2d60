use Rattle.std.proofs.Common.{ap, ◌∙◌, arith}
use Rattle.wt_span.specs.Items.{items}
use Rattle.wt_annotated.specs.Pieces.{outer_calls}
use Rattle.wt_annotated.specs.Seams.{first_of}
use Rattle.wt_ranges.proofs.KeptNodes.{frame_is, parts_fit}
use Rattle.wt_ranges.proofs.kept.inner_frame.Goals as goal

pub inner_ranges-ranges-requires : goal.inner_ranges-ranges-requires
inner_ranges-ranges-requires c = record {
  fits = omega (arith, c.walk_through-walk.ensures.widths.whole, c.requires);
  order = omega (arith, c.walk_through-walk.ensures.widths.closing);
}

pub overflow_add-result : goal.overflow_add-result
overflow_add-result c =
    let child = c.args.child.now in
    omega (arith, c.walk_through-walk.ensures.widths.opening, parts_fit (outer_calls c.args.calls.now) child.before child.tree, c.requires)

pub returns : goal.returns
returns c =
    let child = c.args.child.now in
    frame_is (outer_calls c.args.calls.now) child c.walk_through-walk.result c.inner_ranges-ranges.result c.in_ok-sources.sources c.first_call.result
    c.walk_through-walk.ensures.lasts c.walk_through-walk.ensures.widths c.inner_ranges-ranges.ensures c.in_ok-sources.ensures.opening
    c.in_ok-sources.ensures.closing c.in_ok-sources.ensures.own
    (c.first_call.ensures ∙ ap (λ ps. first_of (items ps) child.after) c.as_slice.ensures)
