use Rattle.wt_page_laws.proofs.GroupTexts.{parts_joined, its_calls, are_parted}
use Rattle.wt_page_laws.proofs.group.parts_of_groups.Goals as goal

pub returns-clause-joined : goal.returns-clause-joined
returns-clause-joined c = parts_joined

pub returns-clause-calls : goal.returns-clause-calls
returns-clause-calls c = its_calls

pub returns-clause-parted : goal.returns-clause-parted
returns-clause-parted c = are_parted
