use Rattle.std.proofs.Common.{◌≡◌, ◌≤◌, length, take}
use Rattle.wt_span.specs.Items.{is_char_in, items}
use Rattle.wt_expand.specs.Texts.{is_space}
use Rattle.wt_transclusion.specs.Ends.{without_back}
use Rattle.wt_transclusion.proofs.trim.all_without_back.Given as goal

abbrev pub invariant-loop-end : goal.invariant-loop-end
invariant-loop-end l = record {
  within : l.end ≤ length l.pieces;
  rest : without_back (is_char_in is_space) (items (take l.end l.pieces)) ≡ without_back (is_char_in is_space) (items l.pieces);
}

abbrev pub decreases-loop-end : goal.decreases-loop-end
decreases-loop-end l = l.end
