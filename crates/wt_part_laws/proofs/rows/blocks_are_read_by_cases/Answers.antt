use Rattle.wt_part_laws.proofs.BlockCases.{read_by_cases}
use Rattle.wt_part_laws.proofs.rows.blocks_are_read_by_cases.Goals as goal

pub returns : goal.returns
returns c = read_by_cases
