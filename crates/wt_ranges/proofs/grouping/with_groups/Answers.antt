use Rattle.std.proofs.Common.{length, ap, sym, ◌∙◌, arith}
use Rattle.wt_annotated.specs.Numbering.{with_numbers}
use Rattle.wt_inline.specs.ItemTree.{tree_items}
use Rattle.wt_inline.specs.View.{item_tree}
use Rattle.wt_annotated.specs.Annotated.{annotated}
use Rattle.wt_annotated.specs.CutTexts.{cut_texts}
use Rattle.wt_annotated.specs.GroupData.{group_data}
use Rattle.wt_annotated.specs.Pieces.{outer_calls}
use Rattle.wt_annotated.proofs.AnnotatedTree.{numbers_first}
use Rattle.wt_annotated.proofs.Seams.{page_is}
use Rattle.wt_annotated.proofs.Walks.{walk_all}
use Rattle.wt_ranges.proofs.grouping.with_groups.Goals as goal

pub kept_node-requires-clause-fits : goal.kept_node-requires-clause-fits
kept_node-requires-clause-fits c =
    let calls = outer_calls c.args.calls.now in
    omega (arith, ap length (page_is calls (tree_items (item_tree c.args.tree))), c.requires.bytes)

pub returns : goal.returns
returns c =
    let calls = outer_calls c.args.calls.now in
    let t = item_tree c.args.tree in
    c.in_ok-made.ensures.tree_is
    ∙ ap (λ u. cut_texts (with_numbers 1 u)) (walk_all calls (group_data calls) t)
    ∙ numbers_first calls (group_data calls) t
