use Rattle.std.proofs.Common.{ap, sym}
use Rattle.wt_slices.specs.BodySlices.{past}
use Rattle.wt_slices.specs.Views.{step_view}
use Rattle.wt_slices.proofs.BodyWalk.{past_by}
use Rattle.wt_slices.proofs.body.past.Goals as goal

pub returns-in-Stays : goal.returns-in-Stays
returns-in-Stays c =
    past_by c.args.front c.in-Stays.node.now c.args.step c.past_node.result (ap (λ s. past c.args.front (step_view s)) (sym c.in-Stays.is)) c.past_node.ensures

pub returns-in-Goes : goal.returns-in-Goes
returns-in-Goes c =
    past_by c.args.front c.in-Goes.node.now c.args.step c.past_node-in-Goes.result (ap (λ s. past c.args.front (step_view s)) (sym c.in-Goes.is)) c.past_node-in-Goes.ensures

pub returns-in-Kept : goal.returns-in-Kept
returns-in-Kept c =
    past_by c.args.front c.in-Kept.node.now c.args.step c.past_node-in-Kept.result (ap (λ s. past c.args.front (step_view s)) (sym c.in-Kept.is)) c.past_node-in-Kept.ensures

pub returns-in-Comes : goal.returns-in-Comes
returns-in-Comes c = ap (λ s. past c.args.front (step_view s)) (sym c.in-Comes.is)
