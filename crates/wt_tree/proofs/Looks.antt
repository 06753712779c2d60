-- What is found in a tree, and its rows, by one level.
use Rattle.std.proofs.Common.{◌≡◌, ℕ, List, [], ◌∷◌, ◌++◌, true, false, Bool, sym, ap, ◌∙◌, refl, map, length, drop, get_or, ◌+◌, ◌<◌}
use Rattle.std.specs.Prelude.{find, ◌==◌, Some, Option}
use Rattle.std.specs.List.{flat_map}
use Rattle.std.proofs.lemmas.List.Folds.{find-append}
use Rattle.std.proofs.lemmas.List.{map-append, at_drop_more}
use Rattle.std.specs.Option.{option_or}
use Rattle.wt_tree.specs.Tree.{Tree, label, subtrees, subtrees_of_all}
use Rattle.wt_tree.specs.Look.{rows}
use Rattle.wt_tree.specs.View.{view, views}
use Rattle.wt_tree.proofs.Views.{view_out}
use Rattle.wt_tree.specs.declared.node.Node.{Node, out-Node}

-- the trees with this number
abbrev pub has_id : ℕ → Tree → Bool
has_id id t = (label t).id == id

-- what is found in one tree, or in several one after another
abbrev pub found_in : ℕ → Tree → Option Tree
found_in id t = find (has_id id) (subtrees t)

abbrev pub found_in_all : ℕ → List Node → Option Tree
found_in_all id ns = find (has_id id) (subtrees_of_all (views ns))

pub found_here : (n : Node) (id : ℕ) → ((out-Node n).id == id) ≡ true → found_in id (view n) ≡ Some (view n)
found_here n id e = rw (view_out n, e)

pub found_below : (n : Node) (id : ℕ) → ((out-Node n).id == id) ≡ false → found_in id (view n) ≡ found_in_all id (out-Node n).children
found_below n id e = rw (view_out n, e)

-- one turn of the loop over the children
pub found_turn : (id i : ℕ) (xs : List Node) (child : Node) → i < length xs → child ≡ get_or xs i child
    → found_in_all id (drop i xs) ≡ option_or (found_in id (view child)) (found_in_all id (drop (i + 1) xs))
found_turn id i xs child lt is =
    at_drop_more (found_in_all id) xs i child lt
    ∙ ap (λ c. found_in_all id (c ∷ drop (i + 1) xs)) (sym is)
    ∙ find-append (has_id id) (subtrees (view child)) (subtrees_of_all (views (drop (i + 1) xs)))

-- the rows of several trees are joined
pub rows_below : (ns : List Node) → map (λ u. ((label u).id, (label u).kind, (label u).ranges)) (subtrees_of_all (views ns)) ≡ flat_map (λ n. rows (view n)) ns
rows_below [] = refl
rows_below (n ∷ ns) = map-append _ (subtrees (view n)) (subtrees_of_all (views ns)) ∙ ap (λ s. rows (view n) ++ s) (rows_below ns)

pub rows_out : (n : Node) → rows (view n) ≡ ((out-Node n).id, (out-Node n).kind, (out-Node n).ranges) ∷ flat_map (λ m. rows (view m)) (out-Node n).children
rows_out n = rw (view_out n, rows_below (out-Node n).children)
