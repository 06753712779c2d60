use Rattle.std.proofs.Common.{length, ap, ◌∙◌, arith, length-drop}
use Rattle.std.proofs.lemmas.Result.{IfOk-weaker}
use Rattle.wt_span.specs.Items.{items}
use Rattle.wt_tables.specs.Cells.{lead_len, cells}
use Rattle.wt_page.specs.Tables.{cells_by}
use Rattle.wt_rows.specs.Views.{stretches_view}
use Rattle.wt_rows.proofs.Celling.{cells_ready, cells_are}
use Rattle.wt_rows.proofs.cell.line_cells.Goals as goal

pub cells_by-requires : goal.cells_by-requires
cells_by-requires c =
    let line = c.from_vec.ensures ∙ c.in_ok-own.ensures.items in
    let joined = ap length c.in_ok-cells.ensures.joined in
    let whole = items c.from_vec.result in
    cells_ready c.in_ok-cells.cells c.in_ok-cells.ensures.sound_cells
    (omega (arith, joined, length-drop (lead_len whole) whole, ap (λ ps. length (items ps)) line, c.requires.few))

pub returns : goal.returns
returns c =
    let ss = stretches_view c.args.pieces.now c.args.after in
    let xs = items c.args.line.now in
    IfOk-weaker c.cells_by.result _ _ (λ l e. e ∙ ap (λ cs. cells_by c.args.caption cs ss) (c.in_ok-cells.ensures.value
    ∙ ap (λ ps. cells c.args.caption (items ps)) (c.from_vec.ensures ∙ c.in_ok-own.ensures.items)
    ∙ cells_are c.args.caption xs c.requires.sign)) c.cells_by.ensures
