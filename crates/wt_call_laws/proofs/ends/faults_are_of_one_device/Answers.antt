use Rattle.wt_call_laws.proofs.Exclusions.{read_alone, fetch_alone}
use Rattle.wt_call_laws.proofs.ends.faults_are_of_one_device.Goals as goal

pub returns-clause-read : goal.returns-clause-read
returns-clause-read c = read_alone

pub returns-clause-fetch : goal.returns-clause-fetch
returns-clause-fetch c = fetch_alone
