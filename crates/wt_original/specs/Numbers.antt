-- Numbers of kept nodes that count up.
use Rattle.std.specs.Prelude.{ℕ, ◌+◌, Bool, true, ◌&&◌, ◌==◌, List, [], ◌∷◌}
use Rattle.wt_tree.specs.Tree.{label}
use Rattle.wt_original.specs.Kept.{Kept}

-- they count up from this one
abbrev pub counts_up : ℕ → List Kept → Bool
counts_up n [] = true
counts_up n (k ∷ ks) = (label k.node).id == n && counts_up (n + 1) ks
