use Rattle.std.proofs.Common.{arith, ◌∙◌, subst, ap, ◌++◌}
use Rattle.wt_span.specs.Items.{items, items_of}
use Rattle.wt_tables.specs.Views.{waiting, IsLowCut}
use Rattle.wt_tables.proofs.Cutting.{count_is, low_within, cut_joined}
use Rattle.wt_tables.proofs.cursor.Cursor.next_piece.Goals as goal

pub cut_piece-requires-clause-low : goal.cut_piece-requires-clause-low
cut_piece-requires-clause-low c =
    let p = c.in_ok-piece.piece in
    low_within (items_of p) (waiting c.in_ok-piece.rest) c.args.most
    (omega (arith, count_is p, c.item_count.ensures, c.if-item_count-most.false))
    (subst (IsLowCut c.args.most) c.in_ok-piece.ensures.items c.requires.low)

pub returns-clause-items : goal.returns-clause-items
returns-clause-items c =
    let p = c.in_ok-piece.piece in
    let rest = c.in_ok-piece.rest in
    cut_joined (items_of p) (items rest.pieces.now) _ _ _ c.args.most
    (c.in_ok-piece.ensures.items ∙ ap (λ ys. items_of p ++ ys) c.in_ok-piece.ensures.alone) c.cut_piece.ensures.front
    c.cut_piece.ensures.back
