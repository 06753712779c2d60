use Rattle.std.proofs.Common.{◌≡◌, ◌+◌, drop}
use Rattle.std.specs.Option.{option_map}
use Rattle.wt_span.specs.Bytes.{lower}
use Rattle.wt_span.specs.Tags.{to_closing}
use Rattle.wt_lex.proofs.tag.to_closing.Given as goal

abbrev pub invariant-loop-at : goal.invariant-loop-at
invariant-loop-at l = option_map (λ n. l.at + n) (to_closing (lower l.name) (drop l.at l.bytes)) ≡ to_closing (lower l.name) l.bytes
