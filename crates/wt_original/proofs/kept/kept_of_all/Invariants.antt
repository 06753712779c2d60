use Rattle.std.proofs.Common.{◌≡◌, map, take}
use Rattle.wt_tree.specs.Tree.{Tree}
use Rattle.wt_original.specs.Kept.{kept_of}
use Rattle.wt_original.specs.Gathered.{found_of, kept_view, IsFactsOf}
use Rattle.wt_original.proofs.kept.kept_of_all.Given as goal

abbrev pub invariant-loop-entry : goal.invariant-loop-entry
invariant-loop-entry l = (block : Tree) → IsFactsOf block l.facts → map kept_view l.kept.items ≡ map (kept_of block) (map found_of (take l.entry-index l.found))
