use Rattle.wt_schema.proofs.Whole.{written_stands, written_read}
use Rattle.wt_schema.proofs.Again.{same_source}
use Rattle.wt_schema.proofs.round_trip.written_is_read.Goals as goal

pub returns : goal.returns
returns c = record { stands = written_stands; read = written_read; source = same_source }
