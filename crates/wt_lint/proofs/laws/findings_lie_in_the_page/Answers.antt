use Rattle.wt_lint.proofs.InPage.{found_lie_in}
use Rattle.wt_lint.proofs.Shaped.{found_shaped}
use Rattle.wt_lint.proofs.laws.findings_lie_in_the_page.Goals as goal

pub returns : goal.returns
returns c = record { shape = found_shaped; slices = found_lie_in }
