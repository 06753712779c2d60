use Rattle.wt_page_laws.proofs.NodeFields.{leaf_source, round_source}
use Rattle.wt_page_laws.proofs.nodes.sources_are_of_two_forms.Goals as goal

pub returns-clause-leaf : goal.returns-clause-leaf
returns-clause-leaf c = leaf_source

pub returns-clause-round : goal.returns-clause-round
returns-clause-round c = round_source
