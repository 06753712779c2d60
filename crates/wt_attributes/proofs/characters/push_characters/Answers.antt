use Rattle.std.proofs.Common.{◌++◌, List, ℕ, sym, ap, ◌∙◌, string_bytes}
use Rattle.wt_span.specs.Items.{call_of_origin}
use Rattle.wt_attributes.proofs.Texts.{text_of_chars}
use Rattle.wt_attributes.proofs.characters.push_characters.Goals as goal

pub returns-in_ok-push_str-in-Chars : goal.returns-in_ok-push_str-in-Chars
returns-in_ok-push_str-in-Chars c =
    let p = c.args.piece.now in
    c.in_ok-push_str-in-Chars.ensures.bytes ∙ ap (λ (bs : List ℕ). string_bytes c.args.out.now ++ bs)
    (c.as_str.ensures ∙ sym (text_of_chars p.form (call_of_origin p.origin) p.text.of.now c.in-Chars.is))
