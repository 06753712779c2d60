use Rattle.std.proofs.Common.{List, [], ap, ◌∙◌, subst}
use Rattle.std.specs.Prelude.{All}
use Rattle.std.specs.Vec.Iter.{into_iter_items}
use Rattle.std.proofs.lemmas.List.Elements.{All-head, All-tail}
use Rattle.wt_tables.specs.declared.cell.CellAt.{CellAt}
use Rattle.wt_tables.specs.CellViews.{cell_view}
use Rattle.wt_page.specs.Tables.{cell_by}
use Rattle.wt_rows.specs.Ready.{IsReadyCell}
use Rattle.wt_rows.specs.Views.{stretches_view}
use Rattle.wt_rows.proofs.Celling.{made_added}
use Rattle.wt_rows.proofs.cell.first_cells.Goals as goal

pub cell_by-requires : goal.cell_by-requires
cell_by-requires c =
    All-head IsReadyCell c.in-Some.cell (into_iter_items c.next.new.self)
    (subst (λ (cs : List CellAt). All IsReadyCell cs) c.in-Some.ensures.steps.0 c.loop-cell.invariant.sound)

pub loop-cell-preserved : goal.loop-cell-preserved
loop-cell-preserved c =
    let ps = c.args.pieces.now in
    let before = into_iter_items c.loop-cell.cell-iterator in
    let rest = into_iter_items c.next.new.self in
    let steps = c.in-Some.ensures.steps.0 in
    let cell = c.in-Some.cell in
    record {
      sound = All-tail IsReadyCell cell rest (subst (λ (cs : List CellAt). All IsReadyCell cs) steps c.loop-cell.invariant.sound);
      rest = made_added ps (λ d. cell_by c.args.caption (cell_view d) []) c.loop-cell.out.items c.into_vec-more.result.items c.append.new.self.items cell
          before rest _ steps
          (ap (stretches_view ps) c.into_vec-more.ensures ∙ c.in_ok-made.ensures
          ∙ ap (λ ss. cell_by c.args.caption (cell_view cell) (stretches_view ps ss)) c.new.ensures)
          c.in_ok-append.ensures.items c.loop-cell.invariant.rest;
    }
