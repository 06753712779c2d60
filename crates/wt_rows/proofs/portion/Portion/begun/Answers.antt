use Rattle.wt_rows.specs.Unread.{left}
use Rattle.wt_rows.specs.Building.{made_rows}
use Rattle.wt_rows.proofs.Portions.{portion_begins}
use Rattle.wt_rows.proofs.portion.Portion.begun.Goals as goal

pub returns-clause-all : goal.returns-clause-all
returns-clause-all c = portion_begins (made_rows c.new.result) (left c.args.rest) c.new.ensures.rows
