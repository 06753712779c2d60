use Rattle.wt_page_laws.proofs.Counting.{read_tells, write_tells, fetch_tells, last_stays}
use Rattle.wt_page_laws.proofs.faults.counts_tell_faults.Goals as goal

pub returns-clause-read : goal.returns-clause-read
returns-clause-read c = read_tells

pub returns-clause-write : goal.returns-clause-write
returns-clause-write c = write_tells

pub returns-clause-fetch : goal.returns-clause-fetch
returns-clause-fetch c = fetch_tells

pub returns-clause-last : goal.returns-clause-last
returns-clause-last c = last_stays
