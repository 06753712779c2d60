use Rattle.std.proofs.Common.{◌≡◌, ◌+◌, drop}
use Rattle.wt_span.specs.Bytes.{lower}
use Rattle.wt_inline.specs.RawTag.{before_closing}
use Rattle.wt_inline.proofs.raw.before_closing.Given as goal

abbrev pub invariant-loop-at : goal.invariant-loop-at
invariant-loop-at l = l.at + before_closing (lower l.name) (drop l.at l.bytes) ≡ before_closing (lower l.name) l.bytes
