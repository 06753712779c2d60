use Rattle.wt_schema.proofs.FirstUnsourced.{unsourced_first, unsourced_none}
use Rattle.wt_schema.proofs.laws.first_without_source.Goals as goal

pub returns : goal.returns
returns c = record { first = unsourced_first; root = unsourced_none }
