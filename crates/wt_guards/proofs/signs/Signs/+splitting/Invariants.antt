use Rattle.std.proofs.Common.{◌+◌, ◌*◌, length}
use Rattle.wt_guards.proofs.signs.Signs.+splitting.Given as goal

abbrev pub decreases-split_first : goal.decreases-split_first
decreases-split_first l = 2 * length l.self.units.now + 1

abbrev pub decreases-split_unit : goal.decreases-split_unit
decreases-split_unit l = 2 * length l.self.units.now
