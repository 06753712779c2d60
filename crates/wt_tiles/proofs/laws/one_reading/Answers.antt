use Rattle.wt_tiles.proofs.Readings.{shapes_are, shapes_only}
use Rattle.wt_tiles.proofs.laws.one_reading.Goals as goal

pub returns-clause-are : goal.returns-clause-are
returns-clause-are c = shapes_are

pub returns-clause-only : goal.returns-clause-only
returns-clause-only c = shapes_only
