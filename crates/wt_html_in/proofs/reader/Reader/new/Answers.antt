use Rattle.std.proofs.Common.{ap}
use Rattle.wt_html_in.specs.Feeding.{failed_of, failure_told}
use Rattle.wt_html_in.proofs.reader.Reader.new.Goals as goal

pub returns-clause-going : goal.returns-clause-going
unfolding failed_of
returns-clause-going c = ap failure_told c.new.ensures.going
