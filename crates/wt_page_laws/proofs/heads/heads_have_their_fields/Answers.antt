use Rattle.wt_page_laws.proofs.OneHead.{kind_of_head, id_of_head, attributes_of_head, mark_of_head, data_of_head, sourced_head, unsourced_head}
use Rattle.wt_page_laws.proofs.heads.heads_have_their_fields.Goals as goal

pub returns-clause-kind : goal.returns-clause-kind
returns-clause-kind c = kind_of_head

pub returns-clause-id : goal.returns-clause-id
returns-clause-id c = id_of_head

pub returns-clause-attributes : goal.returns-clause-attributes
returns-clause-attributes c = attributes_of_head

pub returns-clause-mark : goal.returns-clause-mark
returns-clause-mark c = mark_of_head

pub returns-clause-data : goal.returns-clause-data
returns-clause-data c = data_of_head

pub returns-clause-sourced : goal.returns-clause-sourced
returns-clause-sourced c = sourced_head

pub returns-clause-unsourced : goal.returns-clause-unsourced
returns-clause-unsourced c = unsourced_head
