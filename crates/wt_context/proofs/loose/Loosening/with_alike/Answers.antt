use Rattle.std.proofs.Common.{ap, ◌∙◌}
use Rattle.wt_span.specs.Slice.{bytes_of}
use Rattle.wt_context.specs.Segments.{are_plain}
use Rattle.wt_context.proofs.Loosening.{alike_quotes, alike_plain}
use Rattle.wt_context.proofs.loose.Loosening.with_alike.Goals as goal

pub of-requires-clause-quotes : goal.of-requires-clause-quotes
of-requires-clause-quotes c = alike_quotes _ (bytes_of c.args.text) c.args.quotes c.if-quotes.true c.requires.alike

pub with_plain-requires-clause-plain : goal.with_plain-requires-clause-plain
with_plain-requires-clause-plain c = ap are_plain c.chars_piece.ensures.items
    ∙ alike_plain _ (bytes_of c.args.text) c.args.quotes c.if-quotes.false c.requires.alike
