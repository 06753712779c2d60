use Rattle.std.proofs.Common.{◌≡◌, ◌++◌, ℕ, List, take}
use Rattle.wt_tree.specs.View.{texts_of}
use Rattle.wt_isolation.specs.Passes.{ending_of}
use Rattle.wt_isolation.proofs.ending.Ending.behind_texts.Given as goal

abbrev pub invariant-loop-piece : goal.invariant-loop-piece
invariant-loop-piece l = (text : List ℕ) → l.fn.self ≡ ending_of text → l.ending ≡ ending_of (text ++ texts_of (take l.piece-index l.more))
