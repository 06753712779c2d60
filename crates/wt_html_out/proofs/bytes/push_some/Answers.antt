use Rattle.std.proofs.Common.{◌∙◌, ap}
use Rattle.std.specs.List.{list_all}
use Rattle.wt_html_out.specs.Runs.{is_plain}
use Rattle.wt_html_out.specs.Escaping.{escape_in}
use Rattle.wt_datamw.proofs.Runs.{wrote_run, wrote_byte}
use Rattle.wt_html_out.proofs.Runs.{run_in}
use Rattle.wt_html_out.proofs.bytes.push_some.Goals as goal

pub returns-in_ok-push-clause-wrote : goal.returns-in_ok-push-clause-wrote
returns-in_ok-push-clause-wrote c =
    wrote_run (escape_in c.args.escaping) c.args.out.now.items c.push.new.out.items c.args.bytes.now c.front_of.result.now c.plain_len-run.result
    c.front_of.ensures c.in_ok-push.ensures
    (run_in c.args.escaping c.quote_of.result c.front_of.result.now c.quote_of.ensures
    (ap (list_all (is_plain c.quote_of.result)) c.front_of.ensures ∙ c.plain_len-run.ensures.plain))

pub returns-in_ok-push_byte_in-clause-wrote : goal.returns-in_ok-push_byte_in-clause-wrote
returns-in_ok-push_byte_in-clause-wrote c =
    wrote_byte (escape_in c.args.escaping) c.args.out.now.items c.push_byte_in.new.out.items c.args.bytes.now c.requires c.in_ok-push_byte_in.ensures
