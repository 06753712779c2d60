use Rattle.std.proofs.Common.{◌≡◌, ap, ◌∙◌, arith}
use Rattle.std.specs.List.{prefix_len}
use Rattle.wt_span.specs.Bytes.{is_break}
use Rattle.wt_rows.proofs.Unreading.{breaks_border, breaks_some, breaks_taken}
use Rattle.wt_rows.proofs.unread.break_chunk_len.Goals as goal

pub returns-clause-chunk : goal.returns-clause-chunk
returns-clause-chunk c =
    let is : c.breaks_len.result ≡ prefix_len is_break c.args.text.now =
    c.breaks_len.ensures.value ∙ ap (prefix_len is_break) c.as_bytes-bytes.ensures.value in
    breaks_taken c.args.text.now c.breaks_len.result is

pub returns-clause-border : goal.returns-clause-border
returns-clause-border c =
    let is : c.breaks_len.result ≡ prefix_len is_break c.args.text.now =
    c.breaks_len.ensures.value ∙ ap (prefix_len is_break) c.as_bytes-bytes.ensures.value in
    breaks_border c.args.text.now c.breaks_len.result c.utf8.text is (breaks_some c.args.text.now c.breaks_len.result c.requires is) (omega arith)
