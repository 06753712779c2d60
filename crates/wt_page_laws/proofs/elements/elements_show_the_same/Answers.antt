use Rattle.wt_page_laws.proofs.Shown.{are_elements, show_same, as_many, all_stay, some_stands}
use Rattle.wt_page_laws.proofs.elements.elements_show_the_same.Goals as goal

pub returns-clause-elements : goal.returns-clause-elements
returns-clause-elements c = are_elements

pub returns-clause-characters : goal.returns-clause-characters
returns-clause-characters c = show_same

pub returns-clause-count : goal.returns-clause-count
returns-clause-count c = as_many

pub returns-clause-stay : goal.returns-clause-stay
returns-clause-stay c = all_stay

pub returns-clause-some : goal.returns-clause-some
returns-clause-some c = some_stands
