use Rattle.wt_utf8.proofs.PlaceLaws.{no_place, some_place}
use Rattle.wt_utf8.proofs.place.read_text.Goals as goal

pub returns-in-Ok-clause-whole : goal.returns-in-Ok-clause-whole
returns-in-Ok-clause-whole c = no_place c.args.bytes.now c.in-Ok.ensures.cases.1

pub returns-in-Err-clause-place : goal.returns-in-Err-clause-place
returns-in-Err-clause-place c = some_place c.args.bytes.now c.rest_of.result.now _ c.valid_up_to-valid.result c.begun_len.result
    c.in-Err.ensures.cases.0 c.valid_up_to-valid.ensures c.in-Err.ensures.valid_len c.rest_of.ensures c.begun_len.ensures.value
