use Rattle.std.proofs.Common.{List, length, take, drop, sym, ap, refl, ◌∙◌, subst, arith}
use Rattle.std.specs.Prelude.{All}
use Rattle.std.proofs.lemmas.List.Elements.{All-drop, All-take}
use Rattle.wt_span.specs.declared.form.Piece.{Piece}
use Rattle.wt_span.specs.Items.{items}
use Rattle.wt_span.specs.Origins.{IsSoundPiece}
use Rattle.std.proofs.lemmas.Result.{IfOk-weaker}
use Rattle.wt_page.specs.Lists.{item_opening_len, line_item}
use Rattle.wt_rows.specs.Views.{row_view, stretches_view}
use Rattle.wt_rows.proofs.FewItems.{few_rest_items}
use Rattle.wt_build.proofs.Items.{plain_line}
use Rattle.wt_build.proofs.item.line_item.Goals as goal

pub cut_opening-requires : goal.cut_opening-requires
cut_opening-requires c =
    subst (λ (qs : List Piece). All IsSoundPiece qs) (sym c.between-line.ensures) (All-take IsSoundPiece _ _ (All-drop IsSoundPiece _ _ c.requires.sound))

pub plain_item-requires-clause-few : goal.plain_item-requires-clause-few
plain_item-requires-clause-few c =
    let xs = items c.between-line.result.now in
    let ys = items c.as_slice-then-is_plain.result.now in
    few_rest_items (item_opening_len xs) xs ys (ap items c.as_slice-then-is_plain.ensures ∙ c.in_ok-opening.ensures.back)
    (omega (arith, ap (λ qs. length (items qs)) c.between-line.ensures, c.requires.few))

pub item_by-requires-clause-few : goal.item_by-requires-clause-few
item_by-requires-clause-few c =
    let xs = items c.between-line.result.now in
    let ys = items c.as_slice-2.result.now in
    few_rest_items (item_opening_len xs) xs ys (ap items c.as_slice-2.ensures ∙ c.in_ok-opening.ensures.back)
    (omega (arith, ap (λ qs. length (items qs)) c.between-line.ensures, c.requires.few))

pub returns-then-is_plain : goal.returns-then-is_plain
returns-then-is_plain c =
    let ps = c.args.pieces.now in
    let r = row_view ps c.args.row in
    let line = c.between-line.ensures in
    let xs = items c.between-line.result.now in
    let n = item_opening_len xs in
    IfOk-weaker c.plain_item.result _ _
    (λ l b. b ps
    ∙ plain_line c.args.sign r n (items c.in_ok-opening.opening) (items c.as_slice-then-is_plain.result.now) (c.is_plain.ensures.no_term c.if-is_plain.true)
    (ap (λ qs. item_opening_len (items qs)) line)
    (c.in_ok-opening.ensures.front ∙ ap (λ qs. take n (items qs)) line)
    (ap items c.as_slice-then-is_plain.ensures ∙ c.in_ok-opening.ensures.back ∙ ap (λ qs. drop n (items qs)) line)
    ∙ ap (λ ss. line_item c.args.sign r (stretches_view ps ss)) (sym (c.is_plain.ensures.none c.if-is_plain.true) ∙ c.as_slice.ensures))
    c.plain_item.ensures
