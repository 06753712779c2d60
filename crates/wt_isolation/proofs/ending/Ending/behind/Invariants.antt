use Rattle.std.proofs.Common.{◌≡◌, ◌++◌, ℕ, List, take}
use Rattle.wt_isolation.specs.Passes.{ending_of}
use Rattle.wt_isolation.proofs.ending.Ending.behind.Given as goal

abbrev pub invariant-loop-byte : goal.invariant-loop-byte
invariant-loop-byte l = (text : List ℕ) → l.fn.self ≡ ending_of text → l.ending ≡ ending_of (text ++ take l.byte-index l.more)
