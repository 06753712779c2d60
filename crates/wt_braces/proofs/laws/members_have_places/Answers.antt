use Rattle.wt_braces.proofs.MemberParts.{part_places}
use Rattle.wt_braces.proofs.Rejoins.{parts_join}
use Rattle.wt_braces.proofs.laws.members_have_places.Goals as goal

pub returns-clause-places : goal.returns-clause-places
returns-clause-places c = part_places

pub returns-clause-joined : goal.returns-clause-joined
returns-clause-joined c = parts_join
