use Rattle.std.proofs.Common.{◌∙◌, ap}
use Rattle.std.specs.List.{list_all}
use Rattle.json.specs.Print.{escape_byte}
use Rattle.wt_datamw.specs.JsonText.{stands_for_itself}
use Rattle.wt_datamw.proofs.JsonText.{run_json}
use Rattle.wt_datamw.proofs.Runs.{wrote_run, wrote_byte}
use Rattle.wt_datamw.proofs.json_text.push_some.Goals as goal

pub returns-in_ok-push-clause-wrote : goal.returns-in_ok-push-clause-wrote
returns-in_ok-push-clause-wrote c =
    wrote_run escape_byte c.args.out.now.items c.push.new.out.items c.args.bytes.now c.front_of.result.now c.plain_len-run.result c.front_of.ensures
    c.in_ok-push.ensures
    (run_json c.front_of.result.now (ap (list_all stands_for_itself) c.front_of.ensures ∙ c.plain_len-run.ensures.plain))

pub returns-in_ok-push_byte-clause-wrote : goal.returns-in_ok-push_byte-clause-wrote
returns-in_ok-push_byte-clause-wrote c =
    wrote_byte escape_byte c.args.out.now.items c.push_byte.new.out.items c.args.bytes.now c.requires c.in_ok-push_byte.ensures
