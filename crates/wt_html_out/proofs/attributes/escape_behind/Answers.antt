use Rattle.std.proofs.Common.{◌∙◌, ap, drop}
use Rattle.wt_html_out.proofs.Runs.{kept_behind}
use Rattle.wt_html_out.proofs.attributes.escape_behind.Goals as goal

pub returns-then-plain_len-written : goal.returns-then-plain_len-written
returns-then-plain_len-written c =
    kept_behind c.args.out.now.items c.args.at c.rest_of-written.result.now c.plain_len.result
    (c.rest_of-written.ensures ∙ ap (drop c.args.at) c.as_slice.ensures.value) c.if-plain_len-written.true c.plain_len.ensures.plain
