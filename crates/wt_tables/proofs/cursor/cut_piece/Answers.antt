use Rattle.std.proofs.Common.{◌∙◌}
use Rattle.wt_tables.proofs.Cutting.{cut_low, cut_front, cut_back}
use Rattle.wt_tables.proofs.cursor.cut_piece.Goals as goal

pub split_text-requires-clause-low : goal.split_text-requires-clause-low
split_text-requires-clause-low c = cut_low c.args.piece c.args.n c.requires.some c.requires.within c.requires.low

pub returns-clause-front : goal.returns-clause-front
returns-clause-front c = c.chars_piece.ensures.items ∙ cut_front c.args.piece c.args.n _ c.requires.some c.requires.within c.split_text.ensures.front

pub returns-clause-back : goal.returns-clause-back
returns-clause-back c = c.chars_piece-2.ensures.items ∙ cut_back c.args.piece c.args.n _ c.requires.some c.requires.within c.split_text.ensures.back
