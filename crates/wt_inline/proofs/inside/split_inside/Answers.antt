use Rattle.wt_span.specs.Items.{items_of, call_of_origin}
use Rattle.wt_span.specs.Slice.{bytes_of}
use Rattle.wt_inline.proofs.Insides.{entity_by}
use Rattle.wt_inline.proofs.inside.split_inside.Goals as goal

pub returns-in-Some-clause-items : goal.returns-in-Some-clause-items
returns-in-Some-clause-items c = entity_by (call_of_origin c.args.origin) c.in-Some.character c.in-Some.len
    (bytes_of c.args.text) c.as_str.result.now (bytes_of c.split_entity.result.1)
    (items_of c.split_entity.result.0) c.as_str.ensures c.in-Some.ensures.value c.split_entity.ensures.items c.split_entity.ensures.rest
