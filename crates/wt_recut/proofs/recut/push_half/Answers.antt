use Rattle.wt_recut.proofs.Recuts.{half_whole}
use Rattle.wt_recut.proofs.recut.push_half.Goals as goal

pub returns-in_ok-push-in-None : goal.returns-in_ok-push-in-None
returns-in_ok-push-in-None c = half_whole c.args.halves.now c.push-in-None.new.self c.args.text c.args.found c.if-found.false
    c.in-None.ensures c.in_ok-push-in-None.ensures.ok
