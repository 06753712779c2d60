use Rattle.std.proofs.Common.{take, sym, ap, ◌∙◌}
use Rattle.wt_span.specs.Items.{items_of}
use Rattle.wt_rows.specs.Unread.{all_breaks}
use Rattle.wt_rows.proofs.Unreading.{break_chars, breaks_own, others_sound}
use Rattle.wt_rows.proofs.unread.Unread.split_breaks.Goals as goal

pub cut-requires-clause-sound : goal.cut-requires-clause-sound
cut-requires-clause-sound c = others_sound c.args.self.first c.args.self.others.now c.in_ok-piece.piece c.in_ok-piece.was c.requires

pub returns-clause-breaks : goal.returns-clause-breaks
returns-clause-breaks c =
    let p = c.in_ok-piece.piece in
    breaks_own p c.break_chunk_len-n.result (items_of c.cut.result.0) (break_chars p (sym c.is_break.ensures ∙ c.if-not-is_break.false))
    (ap (λ bs. all_breaks (take c.break_chunk_len-n.result bs)) (sym c.as_str.ensures) ∙ c.break_chunk_len-n.ensures.chunk) c.cut.ensures.front
