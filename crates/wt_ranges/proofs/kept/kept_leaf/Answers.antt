use Rattle.std.proofs.Common.{ap, ◌∙◌, arith}
use Rattle.std.proofs.lemmas.Result.{IfOk-weaker}
use Rattle.std.specs.Prelude.{length}
use Rattle.wt_span.specs.Items.{items}
use Rattle.wt_tree.specs.View.{view}
use Rattle.wt_annotated.specs.Pieces.{outer_calls}
use Rattle.wt_annotated.specs.Seams.{text_from}
use Rattle.wt_ranges.proofs.KeptNodes.{leaf_kept}
use Rattle.wt_annotated.proofs.PassPieces.{own_held}
use Rattle.wt_ranges.proofs.kept.kept_leaf.Goals as goal

pub page_width-width-requires : goal.page_width-width-requires
page_width-width-requires c =
    let calls = outer_calls c.args.calls.now in
    let o = c.args.child.before in
    let all = own_held c.args.child.tree c.in_ok-held.held c.in_ok-held.ensures in
    omega (arith, ap (λ ps. length (text_from calls o (items ps))) c.as_slice.ensures, ap (λ xs. length (text_from calls o xs)) all, c.requires.fits)

pub leaf_ranges-ranges-requires : goal.leaf_ranges-ranges-requires
leaf_ranges-ranges-requires c =
    let calls = outer_calls c.args.calls.now in
    let o = c.args.child.before in
    let all = own_held c.args.child.tree c.in_ok-held.held c.in_ok-held.ensures in
    omega (
      arith,
      c.page_width-width.ensures,
      ap (λ ps. length (text_from calls o (items ps))) c.as_slice.ensures,
      ap (λ xs. length (text_from calls o xs)) all,
      c.requires.fits,
    )

pub returns : goal.returns
returns c =
    let calls = outer_calls c.args.calls.now in
    let o = c.args.child.before in
    let all = own_held c.args.child.tree c.in_ok-held.held c.in_ok-held.ensures in
    IfOk-weaker c.unnumbered_node.result _ _
    (λ n e. leaf_kept calls c.args.child (view n) c.leaf_sources.result c.in_ok-own.own c.in_ok-held.held c.as_slice-2.result.now c.new.result
    c.leaf_ranges-ranges.result c.page_width-width.result c.requires.leaf e c.leaf_sources.ensures c.new.ensures
    c.in_ok-own.ensures (ap items c.as_slice-2.ensures) all
    (c.page_width-width.ensures ∙ ap (λ ps. length (text_from calls o (items ps))) c.as_slice.ensures ∙ ap (λ xs. length (text_from calls o xs)) all)
    c.leaf_ranges-ranges.ensures)
    c.unnumbered_node.ensures
