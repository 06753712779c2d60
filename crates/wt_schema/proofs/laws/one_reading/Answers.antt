use Rattle.wt_schema.proofs.OneReading.{reads, one_read}
use Rattle.wt_schema.proofs.laws.one_reading.Goals as goal

pub returns : goal.returns
returns c = record { is_read = reads; only = one_read }
