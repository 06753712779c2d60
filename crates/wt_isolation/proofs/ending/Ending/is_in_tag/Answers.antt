use Rattle.wt_isolation.proofs.Endings.{not_told, told}
use Rattle.wt_isolation.proofs.ending.Ending.is_in_tag.Goals as goal
use Rattle.wt_isolation.specs.declared.ending.Ending.TheVariants as ending

pub returns-in-Outside : goal.returns-in-Outside
returns-in-Outside c = λ text at. not_told text c.args.self c.in-Outside.is at

pub returns-in-InTag : goal.returns-in-InTag
returns-in-InTag c = λ text at. told text ending.InTag c.args.self c.in-InTag.is at
