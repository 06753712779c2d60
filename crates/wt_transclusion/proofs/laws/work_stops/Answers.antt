use Rattle.wt_transclusion.proofs.StopLaws.{page_fails, page_stops, page_told, page_within}
use Rattle.wt_transclusion.proofs.laws.work_stops.Goals as goal

pub returns-clause-refused : goal.returns-clause-refused
returns-clause-refused c = page_stops

pub returns-clause-told : goal.returns-clause-told
returns-clause-told c = page_told

pub returns-clause-fails : goal.returns-clause-fails
returns-clause-fails c = page_fails

pub returns-clause-within : goal.returns-clause-within
returns-clause-within c = page_within
