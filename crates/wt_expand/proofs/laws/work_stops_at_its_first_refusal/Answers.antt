use Rattle.wt_expand.proofs.FrontLaws.{front_ends, front_within, work_allowed, work_refused}
use Rattle.wt_expand.proofs.laws.work_stops_at_its_first_refusal.Goals as goal

pub returns-clause-refused : goal.returns-clause-refused
returns-clause-refused c = work_refused

pub returns-clause-front : goal.returns-clause-front
returns-clause-front c = front_ends

pub returns-clause-within : goal.returns-clause-within
returns-clause-within c = front_within

pub returns-clause-whole : goal.returns-clause-whole
returns-clause-whole c = work_allowed
