use Rattle.std.proofs.Common.{◌∙◌, sym}
use Rattle.wt_tiles.proofs.Steps.{none_at}
use Rattle.wt_tiles.proofs.read.tile_at.Goals as goal

pub returns-in-Byte-2-clause-value : goal.returns-in-Byte-2-clause-value
returns-in-Byte-2-clause-value c = sym (none_at c.args.context _ c.args.glyphs.now c.args.at _ c.in-Byte.byte c.requires.at
    c.in-Byte.is (sym c.may_begin.ensures ∙ c.if-may_begin.false))
