use Rattle.std.proofs.Common.{◌-◌, get_or, arith}
use Rattle.wt_lines.specs.declared.kind.LineKind.TheVariants as line
use Rattle.wt_inline.specs.Grown.{growth}
use Rattle.wt_rows.specs.declared.row.RowAt.{RowAt}
use Rattle.wt_rows.specs.Views.{rows_view}
use Rattle.wt_build.specs.Blocks.{later_from}
use Rattle.wt_rows.proofs.FewItems.{few_at}
use Rattle.wt_build.proofs.TextRuns.{ready_at, same_at, later_step, later_done}
use Rattle.wt_build.proofs.text.with_later_rows.Goals as goal

abbrev none : RowAt
none = record { kind = line.Blank; start = 0; from = 0; to = 0; end = 0 }

pub with_next-requires-clause-ready : goal.with_next-requires-clause-ready
with_next-requires-clause-ready c = ready_at c.args.pieces.now c.args.rows.now c.loop-at.at none c.requires.ready.rows c.loop-at-test.true

pub with_next-requires-clause-few : goal.with_next-requires-clause-few
with_next-requires-clause-few c = few_at c.args.pieces.now c.args.rows.now c.loop-at.at none c.requires.ready c.loop-at-test.true

pub loop-at-preserved : goal.loop-at-preserved
loop-at-preserved c =
    let rs = c.args.rows.now in
    let at = c.loop-at.at in
    record {
      some = omega arith;
      within = omega arith;
      rest = later_step c.args.kind c.args.pieces.now rs at (get_or rs (at - 1) none) (get_or rs at none) (growth c.args.children)
          (growth c.loop-at.children) (growth c.in_ok-children.children) (later_from c.args.kind (rows_view c.args.pieces.now rs))
          c.loop-at.invariant.some c.loop-at-test.true
          (same_at rs (at - 1) none (get_or rs (at - 1) none) (omega arith)) (same_at rs at none (get_or rs at none) c.loop-at-test.true)
          c.in_ok-children.ensures c.loop-at.invariant.rest;
    }

pub returns : goal.returns
returns c =
    later_done c.args.kind c.args.pieces.now c.args.rows.now c.loop-at.at (growth c.args.children) (growth c.loop-at.children)
    (later_from c.args.kind (rows_view c.args.pieces.now c.args.rows.now)) c.loop-at.invariant.some (omega arith) c.loop-at.invariant.rest
