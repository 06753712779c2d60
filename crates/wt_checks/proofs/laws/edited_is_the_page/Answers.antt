use Rattle.wt_checks.proofs.EditedIsPage.{same_gist, same_view}
use Rattle.wt_checks.proofs.laws.edited_is_the_page.Goals as goal

pub returns : goal.returns
returns c = record { compared = same_gist; shown = same_view }
