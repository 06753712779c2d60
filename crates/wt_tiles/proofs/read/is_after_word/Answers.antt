use Rattle.std.proofs.Common.{◌∙◌, sym}
use Rattle.wt_tiles.proofs.Steps.{word_at}
use Rattle.wt_tiles.proofs.read.is_after_word.Goals as goal

pub returns-then-at-gt0 : goal.returns-then-at-gt0
returns-then-at-gt0 c = c.is_word.ensures ∙ sym (word_at c.args.glyphs.now c.args.at _ c.if-at-gt0.true c.requires)
