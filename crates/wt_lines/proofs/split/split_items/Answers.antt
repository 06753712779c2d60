use Rattle.std.proofs.Common.{◌-◌, ◌++◌, ◌<◌, sym, ap, ◌∙◌, subst, take, drop}
use Rattle.std.specs.Str.{IsCharBoundary}
use Rattle.wt_span.specs.declared.form.Piece.{Piece}
use Rattle.wt_span.specs.Slice.{bytes_of}
use Rattle.wt_span.specs.Items.{items, items_of}
use Rattle.wt_lines.specs.Pieces.{item_count}
use Rattle.wt_lines.proofs.Splits.{front_next, back_next, border_next, border_here}
use Rattle.wt_lines.proofs.split.split_items.Goals as goal

pub push_split-requires-clause-border : goal.push_split-requires-clause-border
push_split-requires-clause-border c =
    let l = c.loop-piece in
    let p = c.piece-item.result in
    let P : Piece → Type 0 = λ q. 0 < l.left → l.left < item_count q → IsCharBoundary (bytes_of q.text) l.left in
    subst P (sym c.piece-item.is) (border_here c.args.pieces.now l.piece-index l.left p c.loop-piece-test.true l.invariant.border)

pub loop-piece-preserved : goal.loop-piece-preserved
loop-piece-preserved c =
    let l = c.loop-piece in
    let ps = c.args.pieces.now in
    let p = c.piece-item.result in
    let less = c.in_ok-left.ensures.left ∙ ap (λ q. l.left - item_count q) c.piece-item.is in
    record {
      front = front_next l.front c.push_split.new.front ps l.piece-index l.left c.in_ok-left.left p (take c.args.n (items ps)) c.loop-piece-test.true
          (c.in_ok-left.ensures.front ∙ ap (λ q. items l.front ++ take l.left (items_of q)) c.piece-item.is) less l.invariant.front;
      back = back_next l.back c.push_split.new.back ps l.piece-index l.left c.in_ok-left.left p (drop c.args.n (items ps)) c.loop-piece-test.true
          (c.in_ok-left.ensures.back ∙ ap (λ q. items l.back ++ drop l.left (items_of q)) c.piece-item.is) less l.invariant.back;
      border = border_next ps l.piece-index l.left c.in_ok-left.left p c.loop-piece-test.true l.invariant.border less;
      sound_front = c.in_ok-left.ensures.sound_front l.invariant.sound_front;
      sound_back = c.in_ok-left.ensures.sound_back l.invariant.sound_back;
    }
