use Rattle.wt_page_laws.proofs.Deep.{refused_first, found_where_none}
use Rattle.wt_page_laws.proofs.calls.the_first_deep_call_is_told.Goals as goal

pub returns-clause-refused : goal.returns-clause-refused
returns-clause-refused c = refused_first

pub returns-clause-found : goal.returns-clause-found
returns-clause-found c = found_where_none
