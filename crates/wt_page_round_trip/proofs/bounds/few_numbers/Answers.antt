use Rattle.wt_page_round_trip.proofs.BodyCounts.{meaning_count}
use Rattle.wt_page_round_trip.proofs.NumberLaws.{makes_few}
use Rattle.wt_page_round_trip.proofs.bounds.few_numbers.Goals as goal

pub returns : goal.returns
returns c = record { blocks = meaning_count; forms = makes_few }
