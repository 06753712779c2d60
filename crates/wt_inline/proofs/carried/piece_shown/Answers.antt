use Rattle.std.proofs.Common.{sym, ◌∙◌}
use Rattle.wt_span.specs.Items.{call_of_origin}
use Rattle.wt_inline.proofs.Carrying.{shown_chars}
use Rattle.wt_inline.proofs.carried.piece_shown.Goals as goal

pub returns-in-Chars : goal.returns-in-Chars
returns-in-Chars c =
    let p = c.args.piece.now in
    c.written.ensures ∙ c.as_str.ensures ∙ sym (shown_chars p.form (call_of_origin p.origin) p.text.of.now c.in-Chars.is)
