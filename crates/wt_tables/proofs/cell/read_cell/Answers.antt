use Rattle.wt_span.specs.Items.{items}
use Rattle.wt_tables.proofs.CellReads.{low_opening}
use Rattle.wt_tables.specs.Views.{numbers, waiting}
use Rattle.wt_tables.proofs.cell.read_cell.Goals as goal

pub take-requires-clause-low : goal.take-requires-clause-low
take-requires-clause-low c =
    low_opening c.args.n _ _ (items c.args.part.now) (waiting c.of.result) (numbers c.args.signs.now) c.of.ensures.items
    c.requires.signs_are c.requires.sign c.in_ok-from.ensures.len c.blanks_from.ensures.value
