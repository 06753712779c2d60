use Rattle.std.proofs.Common.{sym, ap, ◌∙◌}
use Rattle.wt_tiles.specs.Searches.{stops, bars}
use Rattle.wt_tiles.proofs.LinkFits.{place_more}
use Rattle.wt_tiles.proofs.link.Search.place.Goals as goal

pub loop-at-preserved : goal.loop-at-preserved
loop-at-preserved c =
    let s = c.args.self in
    place_more (stops s) (bars s) c.args.glyphs.now c.loop-at.at _ c.loop-at-test.true
    (ap (stops s) (sym c.rest_of-rest.ensures) ∙ sym c.if-stops.ensures)
    (ap (bars s) (sym c.rest_of-rest.ensures) ∙ sym c.if-is_barred.ensures) c.loop-at.invariant
