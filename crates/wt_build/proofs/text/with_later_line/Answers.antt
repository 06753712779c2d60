use Rattle.std.proofs.Common.{List, ◌++◌, length, sym, ap, subst, arith, length-append}
use Rattle.std.specs.Prelude.{All}
use Rattle.std.proofs.lemmas.Result.{IfOk-weaker}
use Rattle.std.proofs.lemmas.List.Elements.{All-drop, All-take}
use Rattle.wt_span.specs.declared.form.Piece.{Piece}
use Rattle.wt_span.specs.Origins.{IsSoundPiece}
use Rattle.wt_inline.specs.Parts.{Part}
use Rattle.wt_inline.specs.Grown.{growth, Grows}
use Rattle.wt_context.specs.Line.{line_parts}
use Rattle.wt_rows.specs.Views.{row_view}
use Rattle.wt_build.proofs.LaterLines.{whole_line}
use Rattle.wt_build.proofs.text.with_later_line.Goals as goal

pub with_line-requires-clause-sound : goal.with_line-requires-clause-sound
with_line-requires-clause-sound c =
    subst (λ (qs : List Piece). All IsSoundPiece qs) (sym c.between.ensures) (All-take IsSoundPiece _ _ (All-drop IsSoundPiece _ _ c.requires.sound))

pub with_line-requires-clause-few : goal.with_line-requires-clause-few
with_line-requires-clause-few c =
    let row = c.args.row.now in
    let r = row_view c.args.pieces.now row in
    let whole = whole_line c.args.pieces.now c.between.result.now row.start row.from row.to c.requires.order.lead c.requires.order.items c.between.ensures in
    omega
    (arith, ap length whole, length-append r.lead r.items, length-append r.lead (r.items ++ r.ending), length-append r.items r.ending, c.requires.few)

pub returns : goal.returns
returns c =
    let row = c.args.row.now in
    let whole = whole_line c.args.pieces.now c.between.result.now row.start row.from row.to c.requires.order.lead c.requires.order.items c.between.ensures in
    let same = ap line_parts whole in
    IfOk-weaker c.with_line.result _ _ (λ d e. subst (λ (ps : List Part). Grows (growth c.args.children) ps (growth d)) same e) c.with_line.ensures
