use Rattle.wt_recut.proofs.Recuts.{AreLeads}
use Rattle.wt_recut.proofs.recut.leads.Given as goal

abbrev pub decreases-loop-at : goal.decreases-loop-at
decreases-loop-at l = l.at

abbrev pub invariant-loop-at : goal.invariant-loop-at
invariant-loop-at l = AreLeads l.nodes l.at l.flags.items l.leads
