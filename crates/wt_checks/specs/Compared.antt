-- What the code says of the nodes that are compared.
use Rattle.std.specs.Prelude.{◌≡◌, ℕ, ◌+◌, ◌≤◌, ◌<◌, false, Option, Some, None, List, ◌∷◌, ◌++◌, length, drop, slice_index_or}
use Rattle.wt_tree.specs.Tree.{Trees}
use Rattle.wt_tree.specs.View.{views, label_of}
use Rattle.wt_tree.specs.declared.node.Node.{Node, out-Node}
use Rattle.wt_checks.specs.Unmarked.{Entry, entry, entries, same_entries}

-- From one place on and from the other the same is compared, and a node that is there is.
pub record ComparedFrom (nodes : List Node) (from at : ℕ) : Type 0 where
  pub later : from ≤ at
  pub within : at ≤ length nodes
  pub same : entries (views (drop from nodes)) ≡ entries (views (drop at nodes))
  pub first : (n : Node) → at < length nodes → n ≡ slice_index_or nodes at n
      → entries (views (drop at nodes)) ≡ entry (label_of (out-Node n)) ∷ entries (views (drop (at + 1) nodes))

-- What is in the page is what the edited nodes from one place on are, up to the other place, so that what
-- follows decides; or, where there is none, it is something else.
abbrev pub IsBehindSame : Trees → List Node → ℕ → Option ℕ → Type 0
IsBehindSame ts edited from None = (rest : List Entry) → same_entries (entries ts ++ rest) (entries (views (drop from edited))) ≡ false
IsBehindSame ts edited from (Some to) =
    (to ≤ length edited)
    × ((rest : List Entry) → same_entries (entries ts ++ rest) (entries (views (drop from edited))) ≡ same_entries rest (entries (views (drop to edited))))
