use Rattle.wt_inside_laws.proofs.GivenBack.{given_back}
use Rattle.wt_inside_laws.proofs.OrdinaryEdits.{ordinary_done, ordinary_written}
use Rattle.wt_inside_laws.proofs.as_sent.text_edits_are_done.Goals as goal

pub returns-clause-tree : goal.returns-clause-tree
returns-clause-tree c = ordinary_done

pub returns-clause-html : goal.returns-clause-html
returns-clause-html c = ordinary_written

pub returns-clause-unchanged : goal.returns-clause-unchanged
returns-clause-unchanged c = given_back
