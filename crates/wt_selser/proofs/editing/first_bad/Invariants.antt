use Rattle.std.proofs.Common.{◌≡◌, Bool, drop}
use Rattle.wt_tree.specs.Tree.{Tree}
use Rattle.wt_original.specs.Page.{TellsSame}
use Rattle.wt_selser.specs.Edits.{first_of, bad_pair}
use Rattle.wt_slices.specs.Views.{pairs_of}
use Rattle.wt_selser.proofs.editing.first_bad.Given as goal

abbrev pub invariant-loop-pair : goal.invariant-loop-pair
invariant-loop-pair l =
    (same : Tree → Tree → Bool) → TellsSame same
    → first_of (bad_pair same) (pairs_of l.pairs) ≡ first_of (bad_pair same) (pairs_of (drop l.pair-index l.pairs))
