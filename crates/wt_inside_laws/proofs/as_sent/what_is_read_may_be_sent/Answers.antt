use Rattle.wt_inside_laws.proofs.as_sent.what_is_read_may_be_sent.Goals as goal
use Rattle.wt_inside_laws.proofs.ReadSent.{read_for, read_blocks}

pub returns-clause-page : goal.returns-clause-page
returns-clause-page c = read_for

pub returns-clause-blocks : goal.returns-clause-blocks
returns-clause-blocks c = read_blocks
