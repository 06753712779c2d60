use Rattle.wt_context.proofs.UrlTexts.{first_border}
use Rattle.wt_context.proofs.head.behind_bracket.Goals as goal

pub split_at-requires : goal.split_at-requires
split_at-requires c = first_border c.args.text.now c.as_bytes.result.now c.in-Some.first.now c.as_bytes.ensures.value c.utf8.text c.in-Some.ensures.value
    c.if-first-eq91.true
