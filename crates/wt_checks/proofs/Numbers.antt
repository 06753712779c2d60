-- That numbers are in preorder has one proof, so a truncated one suffices.
use Rattle.std.proofs.Math.Logic.{∥∥₁_elim}
use Rattle.std.proofs.Props.{props}
use Rattle.wt_tree.specs.Tiling.{InPreorder}
use Rattle.wt_tree.specs.Tree.{Tree}

pub in_preorder : (t : Tree) → ∥ InPreorder t ∥₁ → InPreorder t
in_preorder t h = ∥∥₁_elim h (Prim.hlevel props) (λ n. n)
