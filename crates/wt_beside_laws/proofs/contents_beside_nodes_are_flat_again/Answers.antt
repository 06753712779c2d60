use Rattle.wt_beside_laws.proofs.Styled.Plain.{again_flat, again_unstyled, again_kept, again_shut}
use Rattle.wt_beside_laws.proofs.contents_beside_nodes_are_flat_again.Goals as goal

pub returns-clause-lines : goal.returns-clause-lines
returns-clause-lines c = again_flat

pub returns-clause-unstyled : goal.returns-clause-unstyled
returns-clause-unstyled c = again_unstyled

pub returns-clause-kept : goal.returns-clause-kept
returns-clause-kept c = again_kept

pub returns-clause-shut : goal.returns-clause-shut
returns-clause-shut c = again_shut
