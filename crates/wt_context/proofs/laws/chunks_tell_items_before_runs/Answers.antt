use Rattle.wt_context.proofs.ChunkCuts.{cut_at_run, items_before_run}
use Rattle.wt_context.proofs.laws.chunks_tell_items_before_runs.Goals as goal

pub returns-clause-cut : goal.returns-clause-cut
returns-clause-cut c = cut_at_run

pub returns-clause-told : goal.returns-clause-told
returns-clause-told c = items_before_run
