use Rattle.std.proofs.Common.{◌≡◌, true, List, sym, ap, ◌∙◌, subst}
use Rattle.std.specs.Prelude.{All, codes}
use Rattle.std.proofs.lemmas.List.Elements.{All-drop, All-take}
use Rattle.wt_span.specs.Bytes.{begins}
use Rattle.wt_span.specs.declared.form.Piece.{Piece}
use Rattle.wt_span.specs.Items.{Item, items}
use Rattle.wt_span.specs.Origins.{IsSoundPiece}
use Rattle.wt_inline.specs.Grown.{growth}
use Rattle.wt_inline.specs.View.{head_of}
use Rattle.wt_tree.specs.declared.kind.Kind.TheVariants as kind
use Rattle.wt_tables.specs.Cells.{row_attributes}
use Rattle.wt_page.specs.Tables.{with_attrs}
use Rattle.std.proofs.lemmas.Result.{IfOk-weaker}
use Rattle.wt_page.specs.Rows.{signs}
use Rattle.wt_rows.proofs.Straying.{ready_front, ready_rest}
use Rattle.wt_rows.proofs.OpenedParts.{first_of, is_delimiter, opened_row_is}
use Rattle.wt_rows.proofs.part.opened_row.Goals as goal

pub joined_row-delimiter-requires : goal.joined_row-delimiter-requires
joined_row-delimiter-requires c = ready_front c.args.pieces.now c.args.rows.now c.front_of.result.now c.stray_len-n.result c.requires.ready c.front_of.ensures

pub behind_delimiter-requires : goal.behind_delimiter-requires
behind_delimiter-requires c = ready_rest c.args.pieces.now c.args.rows.now c.rest_of.result.now c.stray_len-n.result c.requires.ready c.rest_of.ensures

pub row_attrs-requires-clause-sound : goal.row_attrs-requires-clause-sound
row_attrs-requires-clause-sound c =
    subst (λ (qs : List Piece). All IsSoundPiece qs) (sym c.between.ensures) (All-take IsSoundPiece _ _ (All-drop IsSoundPiece _ _ c.requires.ready.sound))

pub row_attrs-requires-clause-sign : goal.row_attrs-requires-clause-sign
row_attrs-requires-clause-sign c =
    subst (λ (xs : List Item). begins (codes "|-") (signs xs) ≡ true)
    (sym (ap items c.between.ensures ∙ first_of c.args.pieces.now c.args.rows.now _ c.requires.some)) c.requires.opens

pub returns : goal.returns
returns c =
    let ps = c.args.pieces.now in
    let rows = c.args.rows.now in
    let d = c.joined_row-delimiter.result in
    let first = ap items c.between.ensures ∙ first_of ps rows _ c.requires.some in
    let is = is_delimiter ps rows c.front_of.result.now c.rest_of.result.now d c.stray_len-n.result c.stray_len-n.ensures.value c.front_of.ensures
    c.rest_of.ensures
    c.joined_row-delimiter.ensures in
    let head = c.in_ok-head.ensures ∙ ap (with_attrs kind.Tr) (c.in_ok-attrs.ensures ∙ ap row_attributes first) in
    IfOk-weaker c.before-2.result _ _ (λ l e.
    opened_row_is ps rows c.rest_of.result.now d (head_of c.in_ok-head.head) (items c.from_vec-opening.result)
    (growth c.new.result)
    c.in_ok-after.after c.in_ok-node.node l c.args.cells c.requires.some is c.in_ok-after.ensures head
    (ap items (c.from_vec-opening.ensures ∙ c.in_ok-own.ensures.items ∙ c.between-2.ensures)) c.new.ensures c.in_ok-node.ensures e) c.before-2.ensures
