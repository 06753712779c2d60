use Rattle.wt_schema.proofs.Again.{written_again, same_plain, same_numbers}
use Rattle.wt_schema.proofs.round_trip.without_ranges.Goals as goal

pub returns : goal.returns
returns c = record { written = written_again; shown = same_plain; numbers = same_numbers }
