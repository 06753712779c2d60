-- What is said of a tree, at the nodes that it is seen by.
use Rattle.std.proofs.Common.{◌≡◌, List, [], ◌∷◌, ◌++◌, ap, refl}
use Rattle.std.specs.List.{flat_map}
use Rattle.wt_tree.specs.View.{label_of, view, views}
use Rattle.wt_tree.specs.declared.node.Node.{Node, out-Node}
use Rattle.wt_tree.proofs.Views.{view_out}
use Rattle.wt_tree.specs.declared.edit_shape.ItemsOf.{ItemsOf}
use Rattle.wt_tree.specs.EditShapes.{edit_shape}
use Rattle.wt_original.specs.Kept.{items, items_of_all, items_by, shown, shown_in}

pub items_views : (ns : List Node) → items_of_all (views ns) ≡ flat_map (λ n. items (view n)) ns
items_views [] = refl
items_views (n ∷ ns) = ap (λ s. items (view n) ++ s) (items_views ns)

pub shown_views : (ns : List Node) → shown_in (views ns) ≡ flat_map (λ n. shown (view n)) ns
shown_views [] = refl
shown_views (n ∷ ns) = ap (λ s. shown (view n) ++ s) (shown_views ns)

pub items_is : (n : Node) (w : ItemsOf) → (edit_shape (out-Node n).kind).items ≡ w
    → items (view n) ≡ items_by w (label_of (out-Node n)) (items_of_all (views (out-Node n).children))
items_is n w e = rw (view_out n, e)
