use Rattle.wt_slices.proofs.BodyWalk.{front_made}
use Rattle.wt_slices.proofs.body.past_node.Goals as goal

pub returns : goal.returns
returns c =
    front_made c.args.front c.args.node.now c.end_of.result c.in_ok-is_parted.is_parted c.end_of.ensures c.in_ok-is_parted.ensures
