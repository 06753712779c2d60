use Rattle.std.proofs.Common.{◌≡◌, drop}
use Rattle.wt_selser.specs.Edits.{first_of, tangled_pair}
use Rattle.wt_isolation.specs.Passes.{AreOf}
use Rattle.wt_slices.specs.Views.{pairs_of}
use Rattle.wt_selser.proofs.editing.first_tangled.Given as goal

abbrev pub invariant-loop-pair : goal.invariant-loop-pair
invariant-loop-pair l =
    (first_of (tangled_pair l.items l.page) (pairs_of l.pairs) ≡ first_of (tangled_pair l.items l.page) (pairs_of (drop l.pair-index l.pairs)))
    × AreOf l.items l.page l.passes
