use Rattle.std.proofs.Common.{◌-◌, length, sym, ◌∙◌, arith}
use Rattle.wt_tiles.proofs.Balances.{down_left, level_left, known_at}
use Rattle.wt_tiles.proofs.bracket.balance.Goals as goal

pub returns-in-Down : goal.returns-in-Down
returns-in-Down c = sym (down_left c.args.glyphs.now (sym c.in-Down.ensures))

pub returns-in-Level : goal.returns-in-Level
returns-in-Level c =
    known_at c.args.glyphs.now c.args.table.now (length c.args.glyphs.now - 1) 1 c.entry.result c.requires.known
    (omega (arith, c.requires.some)) (omega (arith, c.requires.some)) c.entry.ensures
    ∙ sym (level_left c.args.glyphs.now c.requires.some (sym c.in-Level.ensures))
