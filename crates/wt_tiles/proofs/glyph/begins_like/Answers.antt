use Rattle.std.proofs.Common.{sym}
use Rattle.wt_tiles.proofs.Spelling.{begins_like_short}
use Rattle.wt_tiles.proofs.glyph.begins_like.Goals as goal

pub returns-then-glyphs-word : goal.returns-then-glyphs-word
returns-then-glyphs-word c = sym (begins_like_short c.args.word.now c.args.glyphs.now c.if-glyphs-word.true)
