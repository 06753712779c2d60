use Rattle.wt_part_laws.proofs.PageBlocks.{meaning_are, meaning_only}
use Rattle.wt_part_laws.proofs.rows.meaning_is_read_by_cases.Goals as goal

pub returns-clause-are : goal.returns-clause-are
returns-clause-are c = meaning_are

pub returns-clause-only : goal.returns-clause-only
returns-clause-only c = meaning_only
