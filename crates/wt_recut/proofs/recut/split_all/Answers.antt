use Rattle.std.proofs.Common.{sym, subst}
use Rattle.wt_tree.specs.View.{texts_of}
use Rattle.wt_span.specs.Slice.{bytes_of}
use Rattle.std.proofs.Common.{take}
use Rattle.wt_recut.proofs.Recuts.{IsHalved, halved_more, texts_more}
use Rattle.wt_recut.proofs.recut.split_all.Goals as goal

pub loop-text-preserved : goal.loop-text-preserved
loop-text-preserved c =
    subst (IsHalved c.push_half.new.halves c.in_ok-found.found)
    (sym (texts_more c.as_slice-text-items.result.now c.loop-text.text-index c.text-item.result c.loop-text-test.true c.text-item.is))
    (halved_more c.loop-text.halves c.push_half.new.halves c.loop-text.found c.in_ok-found.found
    (texts_of (take c.loop-text.text-index c.as_slice-text-items.result.now)) (bytes_of c.text-item.result)
    c.loop-text.invariant c.in_ok-found.ensures)
