use Rattle.wt_names.proofs.Files.{files_same, titles_same}
use Rattle.wt_names.proofs.laws.files_differ.Goals as goal

pub returns-clause-names : goal.returns-clause-names
returns-clause-names c = files_same

pub returns-clause-titles : goal.returns-clause-titles
returns-clause-titles c = titles_same
