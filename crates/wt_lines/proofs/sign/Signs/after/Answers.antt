use Rattle.wt_lines.specs.Signs.{left}
use Rattle.wt_lines.proofs.Words.{word_goes_on, rest_goes_on}
use Rattle.wt_lines.proofs.sign.Signs.after.Goals as goal

pub loop-byte-preserved : goal.loop-byte-preserved
loop-byte-preserved c =
    let whole = left c.args.self in
    let s = left c.loop-byte.rest in
    let t = left c.in_ok-rest.rest in
    record {
      word = word_goes_on c.args.word.now whole s t c.loop-byte.byte-index c.loop-byte-test.true c.in_ok-rest.ensures c.loop-byte.invariant.word;
      rest = rest_goes_on whole s t c.loop-byte.byte-index _ c.in_ok-rest.ensures c.loop-byte.invariant.rest;
    }
