-- Looking into a tree: the first node with a number, and the rows of all nodes in preorder.
use Rattle.std.specs.Prelude.{◌≡◌, ℕ, List, map, find, ◌==◌, Option, option_map}
use Rattle.wt_tree.specs.declared.kind.Kind.{Kind}
use Rattle.wt_tree.specs.declared.kind.Ranges.{Ranges}
use Rattle.wt_tree.specs.Tree.{Tree, subtrees, label}

-- what is found, seen by `view`, is the first tree with this number, or nothing where none has it
abbrev pub Finds : {A : Type 0} → (A → Tree) → ℕ → List Tree → Option A → Type 0
Finds view id ts found = option_map view found ≡ find (λ t. (label t).id == id) ts

-- the number, the kind and the ranges of each node
abbrev pub rows : Tree → List (ℕ × Kind × Option Ranges)
rows t = map (λ u. ((label u).id, (label u).kind, (label u).ranges)) (subtrees t)
