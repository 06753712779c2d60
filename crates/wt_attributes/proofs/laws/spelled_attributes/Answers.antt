use Rattle.wt_attributes.proofs.Inverted.{attribute_written}
use Rattle.wt_attributes.proofs.Written.{attribute_read}
use Rattle.wt_attributes.proofs.laws.spelled_attributes.Goals as goal

pub returns-clause-read : goal.returns-clause-read
returns-clause-read c = attribute_read

pub returns-clause-written : goal.returns-clause-written
returns-clause-written c = λ bs a rest e. let w = attribute_written bs a rest e in (w.it, w.good, w.joined, w.means)
