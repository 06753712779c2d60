use Rattle.wt_page_laws.proofs.Switching.{gives_value, gives_end, gives_default, gives_nothing}
use Rattle.wt_page_laws.proofs.switch.part_of_switch.Goals as goal

pub returns-clause-value : goal.returns-clause-value
returns-clause-value c = gives_value

pub returns-clause-end : goal.returns-clause-end
returns-clause-end c = gives_end

pub returns-clause-default : goal.returns-clause-default
returns-clause-default c = gives_default

pub returns-clause-nothing : goal.returns-clause-nothing
returns-clause-nothing c = gives_nothing
