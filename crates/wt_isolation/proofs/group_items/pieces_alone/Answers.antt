use Rattle.std.proofs.Common.{◌≡◌, List, map, sym, ap, ◌∙◌, subst}
use Rattle.std.specs.Prelude.{IfOk}
use Rattle.std.proofs.lemmas.Result.{IfOk-weaker}
use Rattle.wt_span.specs.Items.{Item, AreFew, items}
use Rattle.wt_span.specs.Origins.{outer_call}
use Rattle.wt_isolation.proofs.PieceTexts.{cut_whole}
use Rattle.wt_isolation.proofs.SlicedBytes.{alone_few}
use Rattle.wt_isolation.proofs.SlicedPieces.{orderly, alone_are}
use Rattle.wt_isolation.proofs.group_items.pieces_alone.Goals as goal

pub pieces_in-requires-clause-whole : goal.pieces_in-requires-clause-whole
pieces_in-requires-clause-whole c =
    cut_whole c.pieces.result.now c.args.page.now.outer c.args.page.now.text_calls c.args.ranges c.args.page.now.items c.pieces.ensures.sound
    (sym c.pieces.ensures.items) c.requires.start c.requires.end

pub returns-clause-items : goal.returns-clause-items
returns-clause-items c =
    let cs = c.args.page.now.outer in
    let ds = map outer_call c.outer-outer.result.now in
    let ps = c.pieces.result.now in
    subst (λ (ys : List Item). IfOk c.behind_nowiki.result (λ qs. items qs ≡ ys))
    (alone_are cs ds c.args.ranges ps (items c.as_slice.result.now) c.args.page.now.items c.outer-outer.ensures c.pieces.ensures.items
    (orderly cs ds ps c.args.page.now.text_calls c.pieces.ensures.sound c.outer-outer.ensures)
    (ap items c.as_slice.ensures ∙ c.in_ok-found.ensures.items))
    c.behind_nowiki.ensures.items

pub returns-clause-few : goal.returns-clause-few
returns-clause-few c =
    let cs = c.args.page.now.outer in
    let ds = map outer_call c.outer-outer.result.now in
    let ps = c.pieces.result.now in
    let few : AreFew c.args.page.now.items = subst (λ (ys : List Item). AreFew ys) c.pieces.ensures.items c.pieces.ensures.few in
    let alone = alone_are cs ds c.args.ranges ps (items c.as_slice.result.now) c.args.page.now.items c.outer-outer.ensures c.pieces.ensures.items
    (orderly cs ds ps c.args.page.now.text_calls c.pieces.ensures.sound c.outer-outer.ensures)
    (ap items c.as_slice.ensures ∙ c.in_ok-found.ensures.items) in
    IfOk-weaker c.behind_nowiki.result _ _ (λ qs e. alone_few cs c.args.page.now.items c.args.ranges (items qs) few (e ∙ alone)) c.behind_nowiki.ensures.items
