use Rattle.std.proofs.Common.{◌≡◌, sym, ap, ◌∙◌, length, arith}
use Rattle.std.specs.Vec.Iter.{into_iter_items}
use Rattle.wt_inline.specs.View.{item_trees}
use Rattle.wt_inline.specs.declared.tree.PieceTree.{out-PieceTree}
use Rattle.wt_annotated.specs.Numbering.{next_after}
use Rattle.wt_annotated.specs.Pieces.{outer_calls}
use Rattle.wt_ranges.proofs.Finishing.{head_room, inner_room, runs_end}
use Rattle.wt_ranges.proofs.Groupings.{fewer, all_fit, inside_fits}
use Rattle.wt_ranges.proofs.grouping.+grouping.Goals as goal

pub kept_node-run_nodes-requires : goal.kept_node-run_nodes-requires
kept_node-run_nodes-requires t c =
    let calls = outer_calls c.args.calls.now in
    let n = c.args.child.tree in
    let opened = c.in_ok-frame.ensures in
    let f = c.in_ok-frame.field-0.frame in
    let runs = c.in_ok-frame.field-0.runs in (
      omega (arith, fewer calls n f.before f.byte f.after opened.children runs opened.nears opened.runs),
      (
        c.requires.sound,
        (
          all_fit calls f.before f.byte f.after (item_trees (out-PieceTree n).children) opened.children runs opened.nears
              (inside_fits calls c.args.child f c.requires.fits opened.frame) opened.runs,
          inner_room calls c.args.child f runs opened.children c.args.next c.next_after-first.result (sym c.is_leaf.ensures ∙ c.if-is_leaf.false)
              opened.frame opened.runs opened.nears (c.next_after-first.ensures ∙ ap (λ h. next_after h.kind c.args.next) opened.head) c.requires.number,
        ),
      ),
    )

pub kept_node-next_after-first-requires : goal.kept_node-next_after-first-requires
kept_node-next_after-first-requires t c =
    head_room (outer_calls c.args.calls.now) c.args.child c.in_ok-frame.field-0.head c.args.next c.in_ok-frame.ensures.head c.requires.number

pub run_nodes-returns : goal.run_nodes-returns
run_nodes-returns t c =
    let rs = into_iter_items c.loop-run.run-iterator in
    let len : length rs ≡ 0 = sym c.loop-run.run-iterator.rest.ok.0 ∙ c.in-None.ensures.steps.0 in
    runs_end (outer_calls c.args.calls.now) c.loop-run.nodes c.loop-run.behind c.args.next rs c.args.runs c.loop-run.invariant len
