use Rattle.std.proofs.Common.{sym, ap, ◌∙◌}
use Rattle.std.specs.List.{list_all}
use Rattle.wt_span.specs.Slice.{bytes_of}
use Rattle.wt_span.specs.Items.{call_of_origin}
use Rattle.wt_context.specs.Inert.{is_inert}
use Rattle.wt_context.proofs.InertItems.{inert_form}
use Rattle.wt_context.proofs.inert.is_inert_piece.Goals as goal

pub returns-then-is_chars : goal.returns-then-is_chars
returns-then-is_chars c t =
    let p = c.args.piece.now in
    inert_form p.form (call_of_origin p.origin) (bytes_of p.text) (sym c.is_chars.ensures ∙ c.if-is_chars.true)
    (ap (list_all is_inert) (sym (c.as_bytes.ensures.value ∙ c.as_str.ensures)) ∙ sym c.are_inert_bytes.ensures ∙ t)
