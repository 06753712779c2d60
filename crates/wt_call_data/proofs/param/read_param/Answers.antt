use Rattle.std.proofs.Common.{subst}
use Rattle.std.specs.Str.{IsUtf8}
use Rattle.wt_span.specs.Origins.{outer_call, span_of}
use Rattle.wt_call_data.proofs.CallTexts.{after_sign}
use Rattle.wt_call_data.proofs.param.read_param.Goals as goal

pub source_slice-requires-in-Some-2-clause-from_border : goal.source_slice-requires-in-Some-2-clause-from_border
source_slice-requires-in-Some-2-clause-from_border c =
    after_sign (outer_call c.args.outer.now) (span_of c.args.part) c.in-Some.place c.args.equals (subst IsUtf8 c.as_str-source.ensures c.as_str-source.utf8)
    c.in-Some.is c.requires.sound
