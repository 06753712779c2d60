use Rattle.std.proofs.Common.{List, ap, ◌∙◌, subst}
use Rattle.std.specs.List.{prefix_len}
use Rattle.std.proofs.lemmas.Result.{IfOk-weaker}
use Rattle.wt_span.specs.declared.form.Piece.{Piece}
use Rattle.wt_span.specs.Items.{items}
use Rattle.wt_inline.specs.View.{head_of}
use Rattle.wt_inline.specs.Grown.{growth}
use Rattle.wt_rows.specs.Views.{is_gap_at, stretches_view, IsOpenedBy}
use Rattle.wt_rows.proofs.Stretching.{enclosed_is}
use Rattle.wt_rows.proofs.stretch.enclosed.Goals as goal

pub returns : goal.returns
returns c =
    let ps = c.args.pieces.now in
    let h = head_of c.args.head in
    let g = growth c.new-2.result in
    let rest = c.in_ok-front.rest in
    let node = c.in_ok-node.node in
    let opened = subst (λ (qs : List Piece). IsOpenedBy h (items qs) g (stretches_view ps rest) (stretches_view ps node)) c.new.ensures c.in_ok-node.ensures in
    IfOk-weaker c.joined.result _ _
    (λ l e. enclosed_is ps h g c.args.stretches c.in_ok-front.front rest node l c.front_len-n.result c.new-2.ensures
    (c.front_len-n.ensures.value ∙ ap (prefix_len is_gap_at) c.as_slice.ensures) c.in_ok-front.ensures.front c.in_ok-front.ensures.back opened e)
    c.joined.ensures
