use Rattle.wt_span.specs.Slice.{bytes_of}
use Rattle.wt_span.specs.Items.{call_of_origin}
use Rattle.wt_context.specs.Loosened.{loosened}
use Rattle.wt_context.proofs.Loosening.{text_step}
use Rattle.wt_context.proofs.loose.Loosening.with_text.Goals as goal

pub loop-rest-preserved : goal.loop-rest-preserved
loop-rest-preserved c =
    text_step (loosened c.args.self) (loosened c.loop-rest.now) (loosened c.in_ok-now.now) (call_of_origin c.args.origin) (bytes_of c.args.text)
    (bytes_of c.split_alike-alike.result.front) (bytes_of c.split_alike-alike.result.after)
    (bytes_of c.loop-rest.rest) c.split_alike-alike.ensures.joined c.in_ok-now.ensures c.loop-rest.invariant
