use Rattle.std.proofs.Common.{◌≡◌, true, List, sym, ap, ◌∙◌, subst}
use Rattle.std.specs.Prelude.{All, codes}
use Rattle.std.proofs.lemmas.List.Elements.{All-drop, All-take}
use Rattle.std.proofs.lemmas.Result.{IfOk-weaker}
use Rattle.wt_span.specs.Bytes.{begins}
use Rattle.wt_span.specs.declared.form.Piece.{Piece}
use Rattle.wt_span.specs.Items.{Item, items}
use Rattle.wt_span.specs.Origins.{IsSoundPiece}
use Rattle.wt_inline.specs.View.{item_tree, item_trees}
use Rattle.wt_tree.specs.View.{attrs_of}
use Rattle.wt_tree.specs.declared.kind.Kind.TheVariants as kind
use Rattle.wt_tables.specs.Cells.{table_attributes}
use Rattle.wt_page.specs.Tables.{with_attrs}
use Rattle.wt_page.specs.Rows.{signs}
use Rattle.wt_rows.proofs.Straying.{ready_front, ready_rest}
use Rattle.wt_rows.proofs.OpenedParts.{first_of, is_delimiter, table_is}
use Rattle.wt_rows.proofs.part.whole_table.Goals as goal

pub joined_row-delimiter-requires : goal.joined_row-delimiter-requires
joined_row-delimiter-requires c = ready_front c.args.pieces.now c.args.rows.now c.front_of.result.now c.stray_len-n.result c.requires.ready c.front_of.ensures

pub table_children-requires : goal.table_children-requires
table_children-requires c = ready_rest c.args.pieces.now c.args.rows.now c.rest_of.result.now c.stray_len-n.result c.requires.ready c.rest_of.ensures

pub table_attrs-requires-clause-sound : goal.table_attrs-requires-clause-sound
table_attrs-requires-clause-sound c =
    subst (λ (qs : List Piece). All IsSoundPiece qs) (sym c.between.ensures) (All-take IsSoundPiece _ _ (All-drop IsSoundPiece _ _ c.requires.ready.sound))

pub table_attrs-requires-clause-sign : goal.table_attrs-requires-clause-sign
table_attrs-requires-clause-sign c =
    subst (λ (xs : List Item). begins (codes "{|") (signs xs) ≡ true)
    (sym (ap items c.between.ensures ∙ first_of c.args.pieces.now c.args.rows.now _ c.requires.some)) c.requires.opens

pub returns : goal.returns
returns c =
    let ps = c.args.pieces.now in
    let rows = c.args.rows.now in
    let d = c.joined_row-delimiter.result in
    let end = c.args.end in
    let first = ap items c.between.ensures ∙ first_of ps rows _ c.requires.some in
    let is = is_delimiter ps rows c.front_of.result.now c.rest_of.result.now d c.stray_len-n.result c.stray_len-n.ensures.value c.front_of.ensures
    c.rest_of.ensures
    c.joined_row-delimiter.ensures in
    IfOk-weaker c.with_separators.result _ _
    (λ l b. table_is ps rows c.rest_of.result.now d end (with_attrs kind.Table (attrs_of c.in_ok-attrs.attrs)) (items c.between-opening.result.now)
    (items c.between-closing.result.now) (item_trees c.in_ok-children.children) (item_tree c.in_ok-tree.tree) c.args.inside l
    is c.in_ok-children.ensures c.in_ok-tree.ensures (ap (with_attrs kind.Table) (c.in_ok-attrs.ensures ∙ ap table_attributes first))
    (ap items c.between-opening.ensures) (ap items c.between-closing.ensures) b) c.with_separators.ensures
