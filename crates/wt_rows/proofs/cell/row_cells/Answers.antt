use Rattle.std.proofs.Common.{List, length, sym, ap, subst, arith}
use Rattle.std.specs.Prelude.{All}
use Rattle.std.proofs.lemmas.List.Elements.{All-drop, All-take}
use Rattle.wt_span.specs.declared.form.Piece.{Piece}
use Rattle.wt_span.specs.Items.{Item, items}
use Rattle.wt_span.specs.Origins.{IsSoundPiece}
use Rattle.wt_page.specs.Rows.{signs}
use Rattle.wt_rows.specs.Ready.{BeginsCell}
use Rattle.wt_rows.proofs.cell.row_cells.Goals as goal

pub line_cells-requires-clause-sound : goal.line_cells-requires-clause-sound
line_cells-requires-clause-sound c =
    subst (λ (qs : List Piece). All IsSoundPiece qs) (sym c.between-line.ensures) (All-take IsSoundPiece _ _ (All-drop IsSoundPiece _ _ c.requires.sound))

pub line_cells-requires-clause-few : goal.line_cells-requires-clause-few
line_cells-requires-clause-few c = omega (arith, ap (λ qs. length (items qs)) c.between-line.ensures, c.requires.few)

pub line_cells-requires-clause-sign : goal.line_cells-requires-clause-sign
line_cells-requires-clause-sign c =
    subst (λ (xs : List Item). BeginsCell c.args.caption (signs xs)) (sym (ap items c.between-line.ensures)) c.requires.sign
