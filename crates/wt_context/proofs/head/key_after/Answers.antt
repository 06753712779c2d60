use Rattle.std.proofs.Common.{◌+◌, sym, map, arith}
use Rattle.wt_span.specs.Items.{items}
use Rattle.wt_tiles.specs.Glyphs.{glyph_of}
use Rattle.wt_tiles.specs.Cutting.{rest_pieces}
use Rattle.wt_context.proofs.AttributeCuts.{pipe_edge, close_edge, same_glyphs, later_glyphs}
use Rattle.wt_context.proofs.head.key_after.Goals as goal

pub take_items-requires-clause-edge : goal.take_items-requires-clause-edge
take_items-requires-clause-edge c =
    pipe_edge c.args.glyphs.now (map glyph_of (items (rest_pieces c.of.result))) c.args.n (c.args.n + 1)
    (same_glyphs (rest_pieces c.of.result) c.args.pieces.now c.args.glyphs.now c.of.ensures c.requires.signs) (omega arith) c.requires.pipe

pub take_items-requires-2-clause-edge : goal.take_items-requires-2-clause-edge
take_items-requires-2-clause-edge c =
    close_edge c.behind.result.now (map glyph_of (items (rest_pieces c.in_ok-rest.rest))) c.in-Some.k
    (later_glyphs (rest_pieces c.of.result) c.args.pieces.now (rest_pieces c.in_ok-rest.rest) c.args.glyphs.now c.behind.result.now
    (c.args.n + 1) c.in_ok-rest.ensures.back c.of.ensures c.requires.signs c.behind.ensures)
    (sym c.in-Some.ensures.value)
