use Rattle.wt_rows.proofs.Straying.{gaps_are}
use Rattle.wt_rows.proofs.delimiter.gaps.Goals as goal

pub returns : goal.returns
returns c = gaps_are c.args.pieces.now c.args.rows.now c.loop-row.row-index c.loop-row.out.items c.requires.rows c.loop-row-test.false c.loop-row.invariant
