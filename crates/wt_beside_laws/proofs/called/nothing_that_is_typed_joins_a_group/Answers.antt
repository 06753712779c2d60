-- Nothing that is typed joins a form of a group.
use Rattle.wt_beside_laws.proofs.Groups.GivenMeets.{behind_group, before_group}
use Rattle.wt_beside_laws.proofs.called.nothing_that_is_typed_joins_a_group.Goals as goal

pub returns-clause-behind : goal.returns-clause-behind
returns-clause-behind c = behind_group

pub returns-clause-before : goal.returns-clause-before
returns-clause-before c = before_group
