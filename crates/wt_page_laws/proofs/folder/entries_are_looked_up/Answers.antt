use Rattle.wt_page_laws.proofs.Entries.{first_named, none_named, one_folder}
use Rattle.wt_page_laws.proofs.folder.entries_are_looked_up.Goals as goal

pub returns-clause-first : goal.returns-clause-first
returns-clause-first c = first_named

pub returns-clause-absent : goal.returns-clause-absent
returns-clause-absent c = none_named

pub returns-clause-only : goal.returns-clause-only
returns-clause-only c = one_folder
