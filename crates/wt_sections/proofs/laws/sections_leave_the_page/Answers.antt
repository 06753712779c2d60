use Rattle.wt_sections.proofs.Kept.{source, shown, preorder}
use Rattle.wt_sections.proofs.laws.sections_leave_the_page.Goals as goal

pub returns : goal.returns
returns c = record { source = source; shown = shown; numbers = preorder }
