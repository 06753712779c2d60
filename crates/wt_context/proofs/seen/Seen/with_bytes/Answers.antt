use Rattle.std.proofs.Common.{◌-◌, Some, length, get_or, ap, ◌∙◌, arith}
use Rattle.wt_context.specs.Seen.{seen_letter}
use Rattle.wt_context.proofs.Seeing.{two_bytes_seen}
use Rattle.wt_context.proofs.seen.Seen.with_bytes.Goals as goal

pub returns : goal.returns
returns c =
    let bs = c.args.bytes.now in
    let long = c.if-n-eq0.false in
    let longer = c.if-n-eq1.false in
    c.with_byte-3.ensures ∙ ap (λ s. seen_letter s (Some (get_or bs (length bs - 1) 0))) c.with_byte-2.ensures
    ∙ two_bytes_seen c.args.self bs (length bs - 2) (length bs - 1) (omega (arith, long, longer)) (omega (arith, long, longer))
