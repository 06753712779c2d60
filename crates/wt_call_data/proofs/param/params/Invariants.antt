use Rattle.std.proofs.Common.{◌≡◌, ◌<◌}
use Rattle.std.specs.Prelude.{fold}
use Rattle.wt_span.specs.Origins.{outer_call}
use Rattle.wt_call_data.specs.CallData.{params_of, put_param}
use Rattle.wt_call_data.specs.CallParts.{entries_of}
use Rattle.wt_call_data.proofs.ReadParams.{params_at}
use Rattle.wt_call_data.proofs.param.params.Given as goal

abbrev pub invariant-loop-at : goal.invariant-loop-at
invariant-loop-at l = record {
  params : fold put_param (entries_of l.map) (params_at (outer_call l.fn.outer) l.number l.at) ≡ params_of (outer_call l.fn.outer);
  few : l.number < l.at;
}
