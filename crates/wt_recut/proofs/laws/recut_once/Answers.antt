use Rattle.wt_recut.proofs.Cut.{recut_joins, recut_again, recut_source}
use Rattle.wt_recut.proofs.CutIs.{recut_is}
use Rattle.wt_recut.proofs.CutOnly.{cut_alone}
use Rattle.wt_recut.proofs.laws.recut_once.Goals as goal

pub returns : goal.returns
returns c = record { joins = recut_joins; again = recut_again; source = recut_source; cut = recut_is; only = cut_alone }
