use Rattle.std.proofs.Common.{◌≡◌, ◌-◌, ◌<◌, ◌≤◌, ◌++◌, length, take, arith, length-append, length-take-le}
use Rattle.std.proofs.KnownBytes.{Consumes-trans}
use Rattle.wt_commands.proofs.WikitextLaws.{past_most}
use Rattle.wt_commands.proofs.wikitext_command.feed_all.Goals as goal

pub returns-then-count-taken-clause-answered : goal.returns-then-count-taken-clause-answered
returns-then-count-taken-clause-answered g c =
    let so_far = c.pieces.invariant.fed in
    let len : length (take c.in-Ok.count c.read.new.into) ≡ c.in-Ok.count = length-take-le c.in-Ok.count c.read.new.into c.in-Ok.ensures.bound in
    let within : length so_far.bytes ≤ 67108864 = omega (arith, so_far.count, c.pieces.invariant.most) in
    let past : 67108864 - length so_far.bytes < length (take c.in-Ok.count c.read.new.into) = omega (arith, len, so_far.count, c.if-count-taken.true) in
    past_most (g.S.Source.left c.args.input.now) (g.S.Source.left c.pieces.input) (g.S.Source.left c.read.new.self) so_far.bytes
    (take c.in-Ok.count c.read.new.into) so_far.given c.in-Ok.ensures.bytes.0 within past

pub returns-then-count-taken-clause-takes : goal.returns-then-count-taken-clause-takes
returns-then-count-taken-clause-takes g c =
    let so_far = c.pieces.invariant.fed in
    let piece = take c.in-Ok.count c.read.new.into in
    let len : length piece ≡ c.in-Ok.count = length-take-le c.in-Ok.count c.read.new.into c.in-Ok.ensures.bound in (
      so_far.bytes ++ piece,
      Consumes-trans (g.S.Source.left c.args.input.now) (g.S.Source.left c.pieces.input) (g.S.Source.left c.read.new.self) so_far.bytes piece
          so_far.given c.in-Ok.ensures.bytes.0,
      simp length-append (omega (arith, len, so_far.count, c.pieces.invariant.most, c.in-Ok.ensures.bound, c.requires.few, c.pieces.auto.buffer, c.read.auto.into)),
    )
