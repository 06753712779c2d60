use Rattle.std.proofs.Common.{arith, ap, sym, ◌∙◌}
use Rattle.wt_isolation.proofs.Endings.{ends_so, next_ending, with_end, with_less}
use Rattle.wt_isolation.proofs.ending.Ending.with.Goals as goal
use Rattle.wt_isolation.specs.declared.ending.Ending.TheVariants as ending

pub returns-then-byte-eq60 : goal.returns-then-byte-eq60
returns-then-byte-eq60 c = λ text at. with_less text c.args.byte c.if-byte-eq60.true

pub returns-then-byte-eq62 : goal.returns-then-byte-eq62
returns-then-byte-eq62 c = λ text at. with_end text c.args.byte (grind (arith, c.then-byte-eq62.either))

pub returns-in-Outside : goal.returns-in-Outside
returns-in-Outside c = λ text at.
    ends_so text c.args.byte ending.Outside c.args.self c.in-Outside.is at c.if-byte-eq60.false c.if-byte-eq62.false c.if-byte-eq10.false

pub returns-then-is_ascii_alphabetic : goal.returns-then-is_ascii_alphabetic
returns-then-is_ascii_alphabetic c = λ text at.
    ap (next_ending ending.BehindLess) (sym c.if-is_ascii_alphabetic.true ∙ c.is_ascii_alphabetic.ensures.value)
    ∙ ends_so text c.args.byte ending.BehindLess c.args.self c.in-BehindLess.is at c.if-byte-eq60.false c.if-byte-eq62.false c.if-byte-eq10.false

pub returns-else-is_ascii_alphabetic : goal.returns-else-is_ascii_alphabetic
returns-else-is_ascii_alphabetic c = λ text at.
    ap (next_ending ending.BehindLess) (sym c.if-is_ascii_alphabetic.false ∙ c.is_ascii_alphabetic.ensures.value)
    ∙ ends_so text c.args.byte ending.BehindLess c.args.self c.in-BehindLess.is at c.if-byte-eq60.false c.if-byte-eq62.false c.if-byte-eq10.false

pub returns-in-InTag : goal.returns-in-InTag
returns-in-InTag c = λ text at.
    ends_so text c.args.byte ending.InTag c.args.self c.in-InTag.is at c.if-byte-eq60.false c.if-byte-eq62.false c.if-byte-eq10.false
