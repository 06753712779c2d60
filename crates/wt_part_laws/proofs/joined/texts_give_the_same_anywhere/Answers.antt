use Rattle.wt_part_laws.proofs.ExpandedBoth.{plain_anywhere, both_anywhere}
use Rattle.wt_part_laws.proofs.joined.texts_give_the_same_anywhere.Goals as goal

pub returns-clause-plain : goal.returns-clause-plain
returns-clause-plain c = plain_anywhere

pub returns-clause-both : goal.returns-clause-both
returns-clause-both c = both_anywhere
