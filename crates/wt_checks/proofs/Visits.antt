-- The places of a node and of all below it.
use Rattle.std.proofs.Common.{◌≡◌, ℕ, Bool, ◌||◌, List, [], ◌∷◌, ◌++◌, refl, ap}
use Rattle.std.specs.List.{flat_map}
use Rattle.wt_tree.specs.View.{view, views}
use Rattle.wt_tree.specs.declared.node.Node.{Node, out-Node}
use Rattle.wt_tree.proofs.Views.{view_out}
use Rattle.wt_checks.specs.Places.{placed, all_placed, parent_below, is_content}

pub placed_views : (parent : ℕ) (within : Bool) (ns : List Node) → all_placed parent within (views ns) ≡ flat_map (λ n. placed parent within (view n)) ns
placed_views parent within [] = refl
placed_views parent within (n ∷ ns) = ap (λ s. placed parent within (view n) ++ s) (placed_views parent within ns)

pub placed_out : (parent : ℕ) (within : Bool) (n : Node)
    → placed parent within (view n) ≡ record { node = view n; parent = parent; in_content = within }
    ∷ flat_map (λ m. placed (parent_below parent (out-Node n).id) (within || is_content (out-Node n).more.mark) (view m))
    (out-Node n).children
placed_out parent within n = rw (view_out n, placed_views (parent_below parent (out-Node n).id) (within || is_content (out-Node n).more.mark) (out-Node n).children)
