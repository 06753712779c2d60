use Rattle.wt_page_laws.proofs.Refusing.{refused_first, refused_never}
use Rattle.wt_page_laws.proofs.work.first_refused_entry_decides.Goals as goal

pub returns-clause-refused : goal.returns-clause-refused
returns-clause-refused c = refused_first

pub returns-clause-allowed : goal.returns-clause-allowed
returns-clause-allowed c = refused_never
