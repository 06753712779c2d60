use Rattle.std.proofs.Common.{◌∷◌, ◌∙◌, ap, drop}
use Rattle.std.proofs.lemmas.Result.{IfOk-weaker}
use Rattle.wt_span.specs.Items.{items}
use Rattle.wt_transclusion.proofs.Behind.{behind_on, ascii_on, ascii_there, behind_there}
use Rattle.wt_transclusion.proofs.trim.behind_items.Goals as goal

pub loop-i-preserved : goal.loop-i-preserved
loop-i-preserved c = (
  behind_on c.args.pieces.now c.loop-i.i c.loop-i.left c.item_count-len.result c.index-pieces-i.result
      (drop c.args.count (items c.args.pieces.now)) c.loop-i-test.true c.index-pieces-i.is c.item_count-len.ensures c.if-left-len.false
      c.loop-i.invariant.0,
  λ ascii. ascii_on c.args.pieces.now c.loop-i.i c.loop-i.left c.item_count-len.result c.index-pieces-i.result c.loop-i-test.true c.index-pieces-i.is
      c.item_count-len.ensures c.if-left-len.false (c.loop-i.invariant.1 ascii),
)

pub returns-then-left-len : goal.returns-then-left-len
returns-then-left-len c =
    let ps = c.args.pieces.now in
    IfOk-weaker c.with_first.result _ _ (λ out is ascii. ap items is ∙ ap (λ rest. items (c.behind_bytes-first.result ∷ rest)) c.rest_of.ensures
    ∙ behind_there ps c.loop-i.i c.loop-i.left c.item_count-len.result c.index-pieces-i.result c.behind_bytes-first.result (drop c.args.count (items ps))
    c.loop-i-test.true c.index-pieces-i.is c.item_count-len.ensures c.if-left-len.true
    (c.behind_bytes-first.ensures (ascii_there ps c.loop-i.i c.loop-i.left c.item_count-len.result c.index-pieces-i.result
    c.loop-i-test.true c.index-pieces-i.is c.item_count-len.ensures c.if-left-len.true (c.loop-i.invariant.1 ascii)))
    c.loop-i.invariant.0) c.with_first.ensures
