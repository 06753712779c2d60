use Rattle.wt_call_data.proofs.ReadParams.{put_bytes}
use Rattle.wt_call_data.proofs.param.put_param.Goals as goal

pub returns : goal.returns
returns c = put_bytes c.args.map.now c.insert.new.self c.args.param.name c.args.param.value c.in_ok-insert.ensures.entries
