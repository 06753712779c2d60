use Rattle.std.proofs.Common.{arith}
use Rattle.wt_slices.proofs.BodyWalk.{ends_known, parted_at}
use Rattle.wt_slices.proofs.body.is_parted.Goals as goal

pub bounds-ends-steps : goal.bounds-ends-steps
bounds-ends-steps c =
    let n = ends_known c.args.steps.now c.args.ends.now c.requires.known in
    omega (arith, n, c.requires.fits)

pub returns : goal.returns
returns c = parted_at c.args.steps.now c.args.ends.now c.args.from _ c.requires.known c.requires.fits
