use Rattle.wt_page_laws.proofs.OnePage.{by_grammar, ill_for_good}
use Rattle.wt_page_laws.proofs.html_pages.page_answers_are_in_the_grammar.Goals as goal

pub returns-clause-page : goal.returns-clause-page
returns-clause-page c = by_grammar

pub returns-clause-ill : goal.returns-clause-ill
returns-clause-ill c = ill_for_good
