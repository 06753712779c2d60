use Rattle.wt_names.proofs.Files.{file_bytes, file_no_slash, file_no_step, file_dot, file_length}
use Rattle.wt_names.proofs.laws.files_stay_in_their_folder.Goals as goal

pub returns-clause-bytes : goal.returns-clause-bytes
returns-clause-bytes c = file_bytes

pub returns-clause-no_slash : goal.returns-clause-no_slash
returns-clause-no_slash c = file_no_slash

pub returns-clause-no_step : goal.returns-clause-no_step
returns-clause-no_step c = file_no_step

pub returns-clause-dot : goal.returns-clause-dot
returns-clause-dot c = file_dot

pub returns-clause-bound : goal.returns-clause-bound
returns-clause-bound c = file_length
