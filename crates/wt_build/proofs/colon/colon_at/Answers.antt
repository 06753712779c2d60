use Rattle.std.proofs.Common.{ℕ, Bool, not, sym, ◌∙◌, arith}
use Rattle.std.specs.Prelude.{◌==◌}
use Rattle.wt_tables.specs.Views.{numbers}
use Rattle.wt_tables.proofs.Numbers.{numbers_len, number_at, scan_goes, scan_stops}
use Rattle.wt_build.proofs.Colons.{byte_colon}
use Rattle.wt_build.proofs.colon.colon_at.Goals as goal

abbrev is_other : ℕ → Bool
is_other s = not (s == 58)

pub returns-then-is_byte-clause-value : goal.returns-then-is_byte-clause-value
returns-then-is_byte-clause-value c =
    let l = c.loop-i in
    scan_stops is_other l.i _ _ (numbers c.args.signs.now) (omega (arith, c.loop-i-test.true, numbers_len c.args.signs.now))
    (number_at l.i c.args.signs.now _ c.loop-i-test.true) (byte_colon _ _ (sym c.is_byte.ensures ∙ c.if-is_byte.true)) l.invariant

pub loop-i-preserved : goal.loop-i-preserved
loop-i-preserved c =
    let l = c.loop-i in
    scan_goes is_other l.i _ _ (numbers c.args.signs.now) (omega (arith, c.loop-i-test.true, numbers_len c.args.signs.now))
    (number_at l.i c.args.signs.now _ c.loop-i-test.true) (byte_colon _ _ (sym c.is_byte.ensures ∙ c.if-is_byte.false)) l.invariant
