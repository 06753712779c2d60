use Rattle.std.proofs.Common.{◌≤◌, ◌∙◌, sym, subst}
use Rattle.wt_span.specs.Items.{items_of}
use Rattle.wt_tables.specs.Views.{waiting}
use Rattle.wt_tables.proofs.Cutting.{count_is, dropped_more, low_more}
use Rattle.wt_tables.proofs.cursor.Cursor.skip.Goals as goal

pub loop-left-preserved : goal.loop-left-preserved
loop-left-preserved c =
    let l = c.loop-left in
    let p = c.in-Some.piece in
    let k = c.item_count-left.ensures ∙ count_is p in
    let w = subst (λ n. n ≤ l.left) (sym c.item_count-left.ensures) c.in-Some.ensures.within in
    let ys = waiting c.in-Some.rest in
    record {
      back = dropped_more (items_of p) ys (waiting l.cursor) _ l.left c.item_count-left.result c.in-Some.ensures.items k w l.invariant.back;
      low = low_more (items_of p) ys (waiting l.cursor) l.left c.item_count-left.result c.in-Some.ensures.items k w l.invariant.low;
      sound = c.in-Some.ensures.sound_rest;
    }
