use Rattle.std.proofs.lemmas.Result.{IfOk-weaker}
use Rattle.std.proofs.Common.{subst}
use Rattle.wt_span.specs.Items.{items}
use Rattle.wt_context.specs.declared.seen.Seen.{Seen}
use Rattle.wt_context.specs.Chunking.{IsOther}
use Rattle.wt_context.proofs.ChunkSteps.{other_more}
use Rattle.wt_context.proofs.chunk.Chunking.with_pieces.Goals as goal

pub returns-clause-value : goal.returns-clause-value
returns-clause-value c =
    IfOk-weaker c.with_other.result _ _
    (λ e o. other_more c.args.self c.in_ok-closed.closed e (items c.args.pieces.now) c.in_ok-closed.ensures
    (subst (λ (s : Seen). IsOther c.in_ok-closed.closed s e) c.with_pieces-seen.ensures o))
    c.with_other.ensures
