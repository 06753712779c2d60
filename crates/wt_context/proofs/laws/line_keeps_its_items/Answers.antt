use Rattle.wt_context.proofs.LineHolding.{line_holds, line_source, trees_hold, trees_source}
use Rattle.wt_context.proofs.laws.line_keeps_its_items.Goals as goal

pub returns-clause-items : goal.returns-clause-items
returns-clause-items c = line_holds

pub returns-clause-source : goal.returns-clause-source
returns-clause-source c = line_source

pub returns-clause-trees : goal.returns-clause-trees
returns-clause-trees c = trees_hold

pub returns-clause-trees_source : goal.returns-clause-trees_source
returns-clause-trees_source c = trees_source
