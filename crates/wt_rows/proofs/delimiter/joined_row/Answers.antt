use Rattle.std.proofs.Common.{◌<◌, ◌-◌, length, get_or, refl, arith}
use Rattle.std.proofs.lemmas.Bool.Decides.{nat_tests}
use Rattle.wt_lines.specs.declared.kind.LineKind.TheVariants as line
use Rattle.wt_rows.specs.declared.row.RowAt.{RowAt}
use Rattle.wt_rows.proofs.JoinedRows.{joined_some}
use Rattle.wt_rows.proofs.delimiter.joined_row.Goals as goal

none : RowAt
none = record { kind = line.Blank; start = 0; from = 0; to = 0; end = 0 }

pub returns : goal.returns
unfolding none
returns c =
    let rows = c.args.rows.now in
    let some : 0 < length rows = grind (arith, nat_tests, c.is_empty.ensures, c.if-is_empty.false) in
    joined_some c.args.pieces.now c.between.result.now rows (get_or rows 0 none)
    (get_or rows (length rows - 1) none) none none c.content_len-n.result some refl refl
    c.requires.rows c.between.ensures c.content_len-n.ensures.within c.content_len-n.ensures.content c.content_len-n.ensures.ending
