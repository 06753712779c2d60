use Rattle.std.proofs.Common.{◌≡◌, drop}
use Rattle.wt_span.specs.Bytes.{begins}
use Rattle.wt_lines.specs.Signs.{left}
use Rattle.wt_lines.proofs.sign.Signs.after.Given as goal

abbrev pub invariant-loop-byte : goal.invariant-loop-byte
invariant-loop-byte l = record {
  word : begins (drop l.byte-index l.word) (left l.rest) ≡ begins l.word (left l.self);
  rest : left l.rest ≡ drop l.byte-index (left l.self);
}
