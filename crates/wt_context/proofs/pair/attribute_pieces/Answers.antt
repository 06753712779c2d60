use Rattle.std.proofs.Common.{◌∙◌, map}
use Rattle.wt_span.specs.Items.{items}
use Rattle.wt_tiles.specs.Glyphs.{glyph_of}
use Rattle.wt_tiles.specs.Cutting.{rest_pieces}
use Rattle.wt_context.proofs.AttributeCuts.{name_edge, tag_edge, same_glyphs, later_glyphs}
use Rattle.wt_context.proofs.pair.attribute_pieces.Goals as goal

pub take_some-requires-clause-edge : goal.take_some-requires-clause-edge
take_some-requires-clause-edge c = λ some.
    name_edge c.as_slice.result.now (map glyph_of (items (rest_pieces c.of.result))) c.name_end-n.result
    (same_glyphs (rest_pieces c.of.result) c.args.opening.now c.as_slice.result.now c.of.ensures
    (c.as_slice.ensures ∙ c.in_ok-glyphs.ensures)) c.name_end-n.ensures.value some

pub take_some-requires-2-clause-edge : goal.take_some-requires-2-clause-edge
take_some-requires-2-clause-edge c = λ some.
    tag_edge c.rest_of.result.now (map glyph_of (items (rest_pieces c.in_ok-rest.rest))) c.run_len-k.result
    (later_glyphs (rest_pieces c.of.result) c.args.opening.now
    (rest_pieces c.in_ok-rest.rest) c.as_slice-2.result.now c.rest_of.result.now c.name_end-n.result c.in_ok-rest.ensures.back c.of.ensures
    (c.as_slice-2.ensures ∙ c.in_ok-glyphs.ensures) c.rest_of.ensures)
    c.run_len-k.ensures.value
