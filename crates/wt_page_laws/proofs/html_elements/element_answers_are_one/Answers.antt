use Rattle.wt_page_laws.proofs.OneAnswer.{one_content, not_refused, one_refusal}
use Rattle.wt_page_laws.proofs.html_elements.element_answers_are_one.Goals as goal

pub returns-clause-tree : goal.returns-clause-tree
returns-clause-tree c = one_content

pub returns-clause-refused : goal.returns-clause-refused
returns-clause-refused c = not_refused

pub returns-clause-place : goal.returns-clause-place
returns-clause-place c = one_refusal
