use Rattle.std.proofs.Common.{◌<◌, ◌++◌, map, sym, ap, ◌∙◌, subst, append-nil}
use Rattle.wt_span.specs.declared.form.Piece.{Piece}
use Rattle.wt_span.specs.Items.{items}
use Rattle.wt_span.specs.Origins.{Span, IsAmong, outer_call}
use Rattle.wt_isolation.specs.PieceParts.{IsPieceCutWhole, span_of_piece}
use Rattle.wt_isolation.proofs.SlicedPieces.{named_at, nothing_after}
use Rattle.wt_isolation.proofs.group_items.pieces_in.Goals as goal

pub returns-then-place_of-ranges-clause-items : goal.returns-then-place_of-ranges-clause-items
returns-then-place_of-ranges-clause-items c =
    let cs = map outer_call c.args.outer.now in
    let r = c.args.ranges in
    let found = items c.loop-at.found in
    sym (append-nil found)
    ∙ ap (λ xs. found ++ xs) (sym (nothing_after cs r c.args.pieces.now c.loop-at.at c.index-pieces-at.result c.requires.orderly c.loop-at-test.true
    (subst (λ (q : Piece). r.end < (span_of_piece cs q).0) c.index-pieces-at.is
    (subst (λ (s : Span). r.end < s.0) c.place_of.ensures c.if-place_of-ranges.true))))
    ∙ c.loop-at.invariant.0

pub place_of-requires : goal.place_of-requires
place_of-requires c =
    let cs = map outer_call c.args.outer.now in
    subst (λ (q : Piece). IsAmong cs q.origin) (sym c.index-pieces-at.is)
    (named_at cs c.args.pieces.now c.loop-at.at c.index-pieces-at.result c.requires.orderly c.loop-at-test.true)

pub push_part-requires-clause-named : goal.push_part-requires-clause-named
push_part-requires-clause-named c =
    let cs = map outer_call c.args.outer.now in
    subst (λ (q : Piece). IsAmong cs q.origin) (sym c.index-pieces-at.is)
    (named_at cs c.args.pieces.now c.loop-at.at c.index-pieces-at.result c.requires.orderly c.loop-at-test.true)

pub push_part-requires-clause-whole : goal.push_part-requires-clause-whole
push_part-requires-clause-whole c =
    subst (λ (q : Piece). IsPieceCutWhole c.args.ranges q) (sym c.index-pieces-at.is)
    (c.requires.whole c.loop-at.at c.index-pieces-at.result c.loop-at-test.true)
