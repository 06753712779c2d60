use Rattle.std.proofs.Common.{get_or, sym}
use Rattle.wt_lines.specs.declared.kind.LineKind.TheVariants as line
use Rattle.wt_rows.specs.declared.row.RowAt.{RowAt}
use Rattle.wt_build.proofs.TextRuns.{same_at}
use Rattle.wt_build.proofs.BlockRuns.{table_first, lone_first}
use Rattle.wt_build.proofs.block.block_len.Goals as goal

abbrev none : RowAt
none = record { kind = line.Blank; start = 0; from = 0; to = 0; end = 0 }

pub returns-then-opens_table-clause-cut : goal.returns-then-opens_table-clause-cut
returns-then-opens_table-clause-cut c =
    let rs = c.args.rows.now in
    (table_first rs (get_or rs 0 none) c.unit_len.result c.requires (same_at rs 0 none (get_or rs 0 none) c.requires) (sym c.if-opens_table.ensures)
    c.unit_len.ensures.value).cut

pub returns-then-opens_table-clause-block : goal.returns-then-opens_table-clause-block
returns-then-opens_table-clause-block c =
    let rs = c.args.rows.now in
    (table_first rs (get_or rs 0 none) c.unit_len.result c.requires (same_at rs 0 none (get_or rs 0 none) c.requires) (sym c.if-opens_table.ensures)
    c.unit_len.ensures.value).block

pub returns-clause-cut : goal.returns-clause-cut
returns-clause-cut c =
    let rs = c.args.rows.now in
    (lone_first rs c.rest_of.result.now (get_or rs 0 none) c.joined_len.result c.requires (same_at rs 0 none (get_or rs 0 none) c.requires)
    (sym c.if-opens_table.ensures) c.rest_of.ensures c.joined_len.ensures.value).cut

pub returns-clause-block : goal.returns-clause-block
returns-clause-block c =
    let rs = c.args.rows.now in
    (lone_first rs c.rest_of.result.now (get_or rs 0 none) c.joined_len.result c.requires (same_at rs 0 none (get_or rs 0 none) c.requires)
    (sym c.if-opens_table.ensures) c.rest_of.ensures c.joined_len.ensures.value).block
