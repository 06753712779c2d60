use Rattle.wt_part_laws.proofs.ExpandedBoth.{expands_both}
use Rattle.wt_part_laws.proofs.joined.parts_of_pages_expand_by_themselves.Goals as goal

pub returns : goal.returns
returns c = expands_both
