use Rattle.std.proofs.Common.{◌≤◌, ◌∙◌, sym, subst}
use Rattle.std.specs.List.{All}
use Rattle.std.proofs.lemmas.List.Elements.{All-push}
use Rattle.wt_span.specs.Items.{items, items_of}
use Rattle.wt_span.specs.Origins.{IsSoundPiece}
use Rattle.wt_tables.specs.Views.{waiting}
use Rattle.wt_tables.proofs.Cutting.{count_is, taken_more, dropped_more, low_more, pushed_items}
use Rattle.wt_tables.proofs.cursor.Cursor.take.Goals as goal

pub loop-left-preserved : goal.loop-left-preserved
loop-left-preserved c =
    let l = c.loop-left in
    let p = c.in-Some.piece in
    let k = c.item_count-left.ensures ∙ count_is p in
    let w = subst (λ n. n ≤ l.left) (sym c.item_count-left.ensures) c.in-Some.ensures.within in
    let ys = waiting c.in-Some.rest in
    record {
      front = taken_more (items l.out) _ (items_of p) ys (waiting l.cursor) _ l.left c.item_count-left.result
          c.in-Some.ensures.items k w (pushed_items l.out c.push_tight.new.self p c.in_ok-push_tight-in-Some.ensures.ok) l.invariant.front;
      back = dropped_more (items_of p) ys (waiting l.cursor) _ l.left c.item_count-left.result c.in-Some.ensures.items k w l.invariant.back;
      low = low_more (items_of p) ys (waiting l.cursor) l.left c.item_count-left.result c.in-Some.ensures.items k w l.invariant.low;
      sound_out = subst (All IsSoundPiece) (sym c.in_ok-push_tight-in-Some.ensures.ok)
          (All-push IsSoundPiece l.out p l.invariant.sound_out c.in-Some.ensures.sound_piece);
      sound = c.in-Some.ensures.sound_rest;
    }
