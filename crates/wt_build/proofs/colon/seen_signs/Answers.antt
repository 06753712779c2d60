use Rattle.std.proofs.Common.{ap, ◌∙◌}
use Rattle.wt_span.specs.Items.{items}
use Rattle.wt_tables.specs.Views.{numbers}
use Rattle.wt_tiles.specs.Tiles.{tiles}
use Rattle.wt_build.proofs.Colons.{signs_read}
use Rattle.wt_build.proofs.colon.seen_signs.Goals as goal

pub returns : goal.returns
returns c =
    signs_read c.in_ok-tiles.tiles c.as_slice-tile-items.result.now c.loop-tile.tile-index (numbers c.loop-tile.out) _ c.loop-tile.invariant
    c.loop-tile-test.false c.as_slice-tile-items.ensures
    (c.in_ok-tiles.ensures.value ∙ ap (λ cx. tiles cx (items c.args.line.now)) c.line.ensures)
