use Rattle.std.proofs.Common.{ap, ◌∙◌}
use Rattle.wt_span.specs.Items.{call_of_origin}
use Rattle.wt_context.specs.Seen.{after_bytes}
use Rattle.wt_context.proofs.Seeing.{chars_seen}
use Rattle.wt_context.proofs.seen.Seen.with_piece.Goals as goal

pub returns-in-Chars : goal.returns-in-Chars
returns-in-Chars c =
    let p = c.args.piece.now in
    c.with_bytes.ensures ∙ ap (after_bytes c.args.self) (c.as_bytes.ensures.value ∙ c.as_str.ensures)
    ∙ chars_seen p.form (call_of_origin p.origin) p.text.of.now c.args.self c.in-Chars.is
