use Rattle.wt_page_laws.proofs.Levels.{body_sections, headed}
use Rattle.wt_page_laws.proofs.sections.sections_begin_with_headings.Goals as goal

pub returns-clause-body : goal.returns-clause-body
returns-clause-body c = body_sections

pub returns-clause-sections : goal.returns-clause-sections
returns-clause-sections c = headed
