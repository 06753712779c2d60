use Rattle.wt_page_round_trip.proofs.HeldPages.{its_page}
use Rattle.wt_page_round_trip.proofs.laws.items_are_the_page.Goals as goal

pub returns : goal.returns
returns c = its_page
