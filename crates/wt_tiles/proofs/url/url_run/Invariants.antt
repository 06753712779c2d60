use Rattle.std.proofs.Common.{◌≡◌, ◌+◌, drop}
use Rattle.wt_tiles.specs.Urls.{url_run}
use Rattle.wt_tiles.proofs.url.url_run.Given as goal

abbrev pub invariant-loop-at : goal.invariant-loop-at
invariant-loop-at l = l.at + url_run (drop l.at l.glyphs) ≡ url_run l.glyphs
