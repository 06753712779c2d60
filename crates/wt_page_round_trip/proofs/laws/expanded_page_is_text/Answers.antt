use Rattle.wt_page_round_trip.proofs.PageCalls.{page_calls}
use Rattle.wt_page_round_trip.proofs.ExpandedTexts.{expanded_own}
use Rattle.wt_page_round_trip.proofs.laws.expanded_page_is_text.Goals as goal

pub returns : goal.returns
returns c = record { calls = page_calls; items = expanded_own }
