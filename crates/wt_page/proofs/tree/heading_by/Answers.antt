use Rattle.std.proofs.Common.{length, drop, ap, ◌∙◌, arith, length-drop}
use Rattle.std.proofs.lemmas.List.{length-take}
use Rattle.wt_span.specs.Items.{items}
use Rattle.wt_page.proofs.PieceWidths.{items_within}
use Rattle.wt_page.proofs.tree.heading_by.Goals as goal

pub line_children-requires-clause-few : goal.line_children-requires-clause-few
line_children-requires-clause-few c =
    let xs = items c.args.line.now in
    let ys = items c.as_slice.result.now in
    let rest = ap items (c.as_slice.ensures ∙ c.in_ok-rest.ensures) ∙ c.in_ok-opening.ensures.back
    ∙ ap (λ qs. drop c.args.cuts.open_len (items qs)) c.of.ensures in
    let inside = ap items c.as_slice-2.ensures ∙ c.in_ok-inside.ensures.front in
    omega (
      arith,
      ap length rest,
      length-drop c.args.cuts.open_len xs,
      ap length inside,
      length-take c.args.cuts.inside_len ys,
      items_within c.args.line.now c.requires.ready.sound,
      c.requires.ready.few,
    )
