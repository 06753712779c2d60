use Rattle.std.proofs.Common.{◌++◌, drop, ap, ◌∙◌}
use Rattle.std.proofs.lemmas.Result.{IfOk-weaker}
use Rattle.wt_rows.specs.Building.{rows_before}
use Rattle.wt_rows.proofs.LinesBehind.{text_row, text_rows}
use Rattle.wt_rows.proofs.rows.PageRows.with_text_from.Goals as goal

pub with_row_from-requires-clause-row : goal.with_row_from-requires-clause-row
with_row_from-requires-clause-row c =
    text_row c.args.kind (drop c.args.start c.args.self.pieces) c.rest_of-line.result.now c.front_of.result.now c.lead_len-lead.result c.content_len-len.result
    (c.rest_of-line.ensures ∙ ap (drop c.args.start) c.as_slice.ensures) c.front_of.ensures c.requires.line.line c.requires.text c.requires.line.kind
    c.content_len-len.ensures.content c.lead_len-lead.ensures.seen

pub returns-clause-rows : goal.returns-clause-rows
returns-clause-rows c =
    IfOk-weaker c.with_row_from.result _ _ (λ r e. e ∙ ap (λ rs. rows_before c.args.start c.args.self ++ rs)
    (text_rows c.args.kind (drop c.args.start c.args.self.pieces) c.rest_of-line.result.now c.front_of.result.now c.lead_len-lead.result
    c.content_len-len.result (c.rest_of-line.ensures ∙ ap (drop c.args.start) c.as_slice.ensures) c.front_of.ensures c.lead_len-lead.ensures.within c.requires.text
    c.content_len-len.ensures.content c.content_len-len.ensures.ending c.lead_len-lead.ensures.cut)) c.with_row_from.ensures.rows
