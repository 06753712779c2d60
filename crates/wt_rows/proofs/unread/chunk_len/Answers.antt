use Rattle.std.proofs.Common.{◌≡◌, ap, ◌∙◌, arith}
use Rattle.std.specs.Prelude.{not}
use Rattle.std.specs.List.{prefix_len}
use Rattle.wt_span.specs.Bytes.{is_break}
use Rattle.wt_lines.proofs.Chunks.{border_before_break, border_after_break, chunk_before_break}
use Rattle.wt_rows.proofs.unread.chunk_len.Goals as goal

pub returns-then-unbroken-eq0-clause-border : goal.returns-then-unbroken-eq0-clause-border
returns-then-unbroken-eq0-clause-border c =
    let is : c.unbroken_len-unbroken.result ≡ prefix_len (λ b. not (is_break b)) c.args.text.now =
    c.unbroken_len-unbroken.ensures.value ∙ ap (prefix_len (λ b. not (is_break b))) c.as_bytes-bytes.ensures.value in
    border_after_break c.args.text.now c.unbroken_len-unbroken.result c.utf8.text c.requires is c.if-unbroken-eq0.true

pub returns-else-unbroken-eq0-clause-chunk : goal.returns-else-unbroken-eq0-clause-chunk
returns-else-unbroken-eq0-clause-chunk c =
    let is : c.unbroken_len-unbroken.result ≡ prefix_len (λ b. not (is_break b)) c.args.text.now =
    c.unbroken_len-unbroken.ensures.value ∙ ap (prefix_len (λ b. not (is_break b))) c.as_bytes-bytes.ensures.value in
    chunk_before_break c.args.text.now c.unbroken_len-unbroken.result c.requires is (omega arith)

pub returns-else-unbroken-eq0-clause-border : goal.returns-else-unbroken-eq0-clause-border
returns-else-unbroken-eq0-clause-border c =
    let is : c.unbroken_len-unbroken.result ≡ prefix_len (λ b. not (is_break b)) c.args.text.now =
    c.unbroken_len-unbroken.ensures.value ∙ ap (prefix_len (λ b. not (is_break b))) c.as_bytes-bytes.ensures.value in
    border_before_break c.args.text.now c.unbroken_len-unbroken.result is (omega arith)
