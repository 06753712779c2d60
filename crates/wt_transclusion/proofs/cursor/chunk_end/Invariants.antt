use Rattle.std.proofs.Common.{ℕ, drop}
use Rattle.wt_transclusion.specs.Steps.{MayFollow}
use Rattle.wt_transclusion.proofs.cursor.chunk_end.Given as goal

abbrev pub invariant-loop-lexeme : goal.invariant-loop-lexeme
invariant-loop-lexeme l =
    (end : ℕ) → MayFollow l.fn.first.kind l.limit l.to (drop l.lexeme-index l.others) end → MayFollow l.fn.first.kind l.limit l.fn.first.at.end l.others end
