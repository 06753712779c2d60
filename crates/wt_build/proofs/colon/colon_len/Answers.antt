use Rattle.wt_span.specs.Items.{items}
use Rattle.wt_build.proofs.Colons.{term_ends, term_goes}
use Rattle.wt_build.proofs.colon.colon_len.Goals as goal

pub returns-then-at-len : goal.returns-then-at-len
returns-then-at-len c =
    term_goes (items c.args.line.now) c.in_ok-signs.signs c.as_slice.result.now c.colon_at-at.result c.len.result c.in_ok-signs.ensures c.as_slice.ensures
    c.colon_at-at.ensures.value c.len.ensures c.if-at-len.true

pub returns : goal.returns
returns c =
    term_ends (items c.args.line.now) c.in_ok-signs.signs c.as_slice.result.now c.colon_at-at.result c.len.result c.in_ok-signs.ensures c.as_slice.ensures
    c.colon_at-at.ensures.value c.len.ensures c.if-at-len.false
