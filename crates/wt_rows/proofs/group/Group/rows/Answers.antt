use Rattle.wt_rows.proofs.Straying.{ready_front, ready_rest}
use Rattle.wt_rows.proofs.group.Group.rows.Goals as goal

pub returns-clause-ready : goal.returns-clause-ready
returns-clause-ready c =
    λ ps h. ready_front ps c.rest_of.result.now c.front_of.result.now _
    (ready_rest ps c.args.rows.now c.rest_of.result.now _ h c.rest_of.ensures) c.front_of.ensures
