use Rattle.wt_checks.proofs.Known.{all_known}
use Rattle.std.proofs.Common.{sym, ◌∙◌}
use Rattle.wt_checks.proofs.checking.check_visits.Goals as goal

pub first_repeated-requires : goal.first_repeated-requires
first_repeated-requires c = all_known c.args.index.now c.args.edited.now c.requires.some (sym c.in_default.is ∙ c.first_unknown.ensures)

pub first_moved-requires : goal.first_moved-requires
first_moved-requires c = c.requires.parents (all_known c.args.index.now c.args.edited.now c.requires.some (sym c.in_default.is ∙ c.first_unknown.ensures))
