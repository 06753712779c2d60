use Rattle.std.proofs.Common.{List, sym, ap, ◌∙◌, subst}
use Rattle.std.specs.Prelude.{All}
use Rattle.wt_tables.specs.declared.cell.CellAt.{CellAt}
use Rattle.wt_rows.specs.Ready.{IsReadyCell}
use Rattle.wt_rows.specs.Views.{stretches_view}
use Rattle.wt_rows.proofs.Celling.{last_ready, cells_end}
use Rattle.wt_rows.proofs.cell.cells_by.Goals as goal

pub cell_by-requires : goal.cell_by-requires
cell_by-requires c =
    last_ready c.pop.new.self.items c.in-Some.last
    (subst (λ (cs : List CellAt). All IsReadyCell cs) (sym c.into_vec-others.ensures ∙ c.in-Some.ensures.items) c.requires)

pub returns : goal.returns
returns c =
    cells_end c.args.pieces.now c.args.caption c.args.cells c.pop.new.self.items c.in-Some.last c.in_ok-out.out.items c.into_vec-more.result.items
    c.append.new.self.items c.from_vec.result c.args.after (sym c.into_vec-others.ensures ∙ c.in-Some.ensures.items) c.in_ok-out.ensures
    (ap (stretches_view c.args.pieces.now) c.into_vec-more.ensures ∙ c.in_ok-made.ensures) c.in_ok-append.ensures.items c.from_vec.ensures
