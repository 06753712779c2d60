use Rattle.std.proofs.Common.{◌≡◌, drop}
use Rattle.wt_span.specs.Items.{is_char_in, items}
use Rattle.wt_expand.specs.Texts.{is_space, without_front}
use Rattle.wt_transclusion.proofs.trim.all_without_front.Given as goal

abbrev pub invariant-loop-i : goal.invariant-loop-i
invariant-loop-i l = without_front (is_char_in is_space) (items (drop l.i l.pieces)) ≡ without_front (is_char_in is_space) (items l.pieces)
