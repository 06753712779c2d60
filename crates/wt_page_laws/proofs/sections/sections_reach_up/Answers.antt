use Rattle.wt_page_laws.proofs.Levels.{body_reach, reach_up}
use Rattle.wt_page_laws.proofs.sections.sections_reach_up.Goals as goal

pub returns-clause-body : goal.returns-clause-body
returns-clause-body c = body_reach

pub returns-clause-sections : goal.returns-clause-sections
returns-clause-sections c = reach_up
