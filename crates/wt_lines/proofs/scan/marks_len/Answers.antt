use Rattle.wt_lines.proofs.PieceRuns.{leading_marks}
use Rattle.wt_lines.proofs.scan.marks_len.Goals as goal

pub returns-clause-cut : goal.returns-clause-cut
returns-clause-cut c = leading_marks c.args.pieces.now c.front_marks.result c.requires c.front_marks.ensures.value
