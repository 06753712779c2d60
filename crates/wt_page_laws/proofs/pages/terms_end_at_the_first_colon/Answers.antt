use Rattle.wt_page_laws.proofs.TermEnds.{term_first, term_none, term_others}
use Rattle.wt_page_laws.proofs.pages.terms_end_at_the_first_colon.Goals as goal

pub returns-clause-first : goal.returns-clause-first
returns-clause-first c = term_first

pub returns-clause-none : goal.returns-clause-none
returns-clause-none c = term_none

pub returns-clause-others : goal.returns-clause-others
returns-clause-others c = term_others
