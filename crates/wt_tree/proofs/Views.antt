-- The equations of `view`, and of what is said of a tree.
use Rattle.std.proofs.Common.{◌≡◌, List, [], ◌∷◌, ◌++◌, true, false, ap, refl}
use Rattle.std.specs.List.{flat_map}
use Rattle.wt_tree.specs.Tree.{Tree, tree}
use Rattle.wt_tree.specs.Kinds.{is_leaf}
use Rattle.wt_tree.specs.Source.{flat, flat_of_all}
use Rattle.wt_tree.specs.View.{texts_of, label_of, view_step, view, views}
use Rattle.wt_tree.specs.declared.node.Node.{Node, out-Node, fold_out-Node}

-- one level
pub view_out : (n : Node) → view n ≡ tree (label_of (out-Node n)) (views (out-Node n).children)
view_out n = fold_out-Node Tree view_step n

pub flat_leaf : (n : Node) → is_leaf (out-Node n).kind ≡ true → flat (view n) ≡ texts_of (out-Node n).source.own
flat_leaf n e = rw (view_out n, e)

pub flat_inner : (n : Node) → is_leaf (out-Node n).kind ≡ false → flat (view n) ≡ texts_of (out-Node n).source.opening
    ++ flat_of_all (views (out-Node n).children) ++ texts_of (out-Node n).source.closing
flat_inner n e = rw (view_out n, e)

-- the sources of several nodes are joined
pub flat_views : (ns : List Node) → flat_of_all (views ns) ≡ flat_map (λ n. flat (view n)) ns
flat_views [] = refl
flat_views (n ∷ ns) = ap (λ s. flat (view n) ++ s) (flat_views ns)
