use Rattle.std.proofs.Common.{refl}
use Rattle.wt_visible.proofs.Tallies.{start_aside}
use Rattle.wt_visible.proofs.kept_marks.stand_among.Goals as goal

pub returns : goal.returns
returns c =
    start_aside c.in_ok-among.among c.args.texts.now c.args.others.now _ _ c.same_at_start-same.result refl refl c.same_at_start-same.ensures.same
    c.in_ok-among.ensures
