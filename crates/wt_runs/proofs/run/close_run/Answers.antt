use Rattle.std.proofs.Common.{◌<◌, length, arith}
use Rattle.wt_runs.proofs.RunCuts.{ended}
use Rattle.wt_runs.proofs.run.close_run.Goals as goal

pub returns-in_ok-push : goal.returns-in_ok-push
returns-in_ok-push c = λ all s.
    let l : 0 < length c.args.run = omega arith in
    ended c.args.runs.now c.push.new.self c.run_of.result c.args.run all s c.in_ok-push.ensures.ok c.run_of.ensures l
