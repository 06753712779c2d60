use Rattle.wt_call_laws.proofs.Counting.{counted_numbers}
use Rattle.wt_call_laws.proofs.counts.counts_are_of_numbers.Goals as goal

pub returns : goal.returns
returns c = counted_numbers
