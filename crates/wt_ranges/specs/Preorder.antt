-- That numbers are in preorder can hold in one way only, so that a value may keep it as it is.
use Rattle.std.specs.Prelude.{◌≡◌, length, All}
use Rattle.std.specs.List.{range_with_len}
use Rattle.std.proofs.Props.{props}
use Rattle.wt_tree.specs.Tiling.{InPreorder, numbers, others}
use Rattle.wt_tree.specs.Tree.{Tree}

pub InPreorder-prop : (t : Tree) → IsProp (InPreorder t)
InPreorder-prop t x y =
    let counted_prop : IsProp (numbers t ≡ range_with_len 1 (length (numbers t))) = Prim.hlevel props in
    let unnumbered_prop : IsProp (All (λ n. n ≡ 0) (others t)) = Prim.hlevel props in
    λ i. record {
      counted = counted_prop x.counted y.counted i;
      unnumbered = unnumbered_prop x.unnumbered y.unnumbered i;
    }
