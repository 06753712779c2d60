-- Lists and items as plain data.
use Rattle.std.specs.Prelude.{ℕ, Bool, List, [], ◌∷◌}

-- A node: whether it is an item, and else it is a list; its sign; the number of the line at which it begins; the items of the
-- list, or the lists in the item.
mutual
  pub data ListTree : Type 0 where
    node : Bool → ℕ → ℕ → ListTrees → ListTree

  pub data ListTrees : Type 0 where
    none : ListTrees
    more : ListTree → ListTrees → ListTrees

-- the trees of a list
abbrev pub forest : List ListTree → ListTrees
forest [] = none
forest (t ∷ ts) = more t (forest ts)
