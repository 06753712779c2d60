use Rattle.wt_page_laws.proofs.OnePage.{one_page, no_refusal, one_way}
use Rattle.wt_page_laws.proofs.html_pages.page_answers_are_one.Goals as goal

pub returns-clause-page : goal.returns-clause-page
returns-clause-page c = one_page

pub returns-clause-refused : goal.returns-clause-refused
returns-clause-refused c = no_refusal

pub returns-clause-one : goal.returns-clause-one
returns-clause-one c = one_way
