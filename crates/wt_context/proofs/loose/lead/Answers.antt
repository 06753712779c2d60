use Rattle.std.proofs.Common.{ap, ◌∙◌, get_or, take}
use Rattle.std.specs.Prelude.{◌==◌}
use Rattle.std.specs.List.{prefix_len, list_all}
use Rattle.wt_context.specs.Loosened.{is_alike}
use Rattle.wt_context.proofs.Loosening.{all_taken, alike_border}
use Rattle.wt_context.proofs.loose.lead.Goals as goal

pub returns-clause-alike : goal.returns-clause-alike
returns-clause-alike c =
    let q = c.is_quote-quotes.result in
    let is = c.alike_len.ensures.value ∙ ap (prefix_len (is_alike q)) c.as_bytes-bytes.ensures.value in
    ap (λ n. list_all (is_alike q) (take n c.args.text.now)) is ∙ all_taken (is_alike q) c.args.text.now

pub returns-clause-border : goal.returns-clause-border
returns-clause-border c =
    let q = c.is_quote-quotes.result in
    let is = c.alike_len.ensures.value ∙ ap (prefix_len (is_alike q)) c.as_bytes-bytes.ensures.value in
    alike_border c.args.text.now q c.alike_len.result c.utf8.text c.requires
    (c.is_quote-quotes.ensures ∙ ap (λ bs. get_or bs 0 0 == 39) c.as_bytes-bytes.ensures.value) is
