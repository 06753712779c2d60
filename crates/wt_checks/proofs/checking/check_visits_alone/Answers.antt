use Rattle.wt_checks.proofs.Known.{all_known}
use Rattle.std.proofs.Common.{sym, ◌∙◌}
use Rattle.wt_checks.proofs.checking.check_visits_alone.Goals as goal

pub first_repeated-requires : goal.first_repeated-requires
first_repeated-requires c = all_known c.args.index.now c.args.edited.now c.requires (sym c.in_default.is ∙ c.first_unknown.ensures)
