use Rattle.std.proofs.Common.{ap, length, map, ◌∙◌, arith}
use Rattle.wt_span.specs.Items.{sources}
use Rattle.wt_span.specs.Origins.{outer_call, span_of}
use Rattle.wt_expand.proofs.PageLaws.{page_is_sound, page_is_whole, page_sources}
use Rattle.wt_expand.proofs.page.page_items.Goals as goal

pub new-requires-3-clause-few : goal.new-requires-3-clause-few
new-requires-3-clause-few c =
    let whole = page_is_whole c.args.page.now c.in_ok-pieces.pieces c.in_ok-lexemes.lexemes c.as_slice.result.now c.as_slice.ensures
    c.in_ok-pieces.ensures c.in_ok-lexemes.ensures.follow c.in_ok-lexemes.ensures.words in
    omega (arith, ap length (ap sources whole ∙ page_sources c.args.page.now), c.requires)

pub new-requires-3-clause-sound : goal.new-requires-3-clause-sound
new-requires-3-clause-sound c =
    page_is_sound c.args.page.now c.in_ok-pieces.pieces c.in_ok-lexemes.lexemes c.as_slice.result.now _ _ c.as_slice.ensures
    c.in_ok-pieces.ensures c.in_ok-lexemes.ensures.follow c.in_ok-lexemes.ensures.words
    (ap (map outer_call) c.new.ensures) (ap (map span_of) c.new-2.ensures)

pub returns-clause-items : goal.returns-clause-items
returns-clause-items c =
    c.new-3.ensures.items
    ∙ page_is_whole c.args.page.now c.in_ok-pieces.pieces c.in_ok-lexemes.lexemes c.as_slice.result.now c.as_slice.ensures
    c.in_ok-pieces.ensures c.in_ok-lexemes.ensures.follow c.in_ok-lexemes.ensures.words
