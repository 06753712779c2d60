use Rattle.wt_blocks.proofs.HeadingLaws.{stands, greatest, six, joined, opens, closes, bare_front, bare_end}
use Rattle.wt_blocks.proofs.laws.heading_is_its_parts.Goals as goal

pub returns-clause-joined : goal.returns-clause-joined
returns-clause-joined c = joined

pub returns-clause-stands : goal.returns-clause-stands
returns-clause-stands c = stands

pub returns-clause-greatest : goal.returns-clause-greatest
returns-clause-greatest c = greatest

pub returns-clause-at_most_six : goal.returns-clause-at_most_six
returns-clause-at_most_six c = six

pub returns-clause-opens : goal.returns-clause-opens
returns-clause-opens c = opens

pub returns-clause-closes : goal.returns-clause-closes
returns-clause-closes c = closes

pub returns-clause-begins : goal.returns-clause-begins
returns-clause-begins c = bare_front

pub returns-clause-ends : goal.returns-clause-ends
returns-clause-ends c = bare_end
