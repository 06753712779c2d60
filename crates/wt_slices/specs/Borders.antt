-- Places of a page that its tree has: both ends of each node, and both ends of its inside.
use Rattle.std.specs.Prelude.{ℕ, ◌+◌, ◌-◌, Option, Some, None, List}
use Rattle.std.specs.List.{AllByRecursion}
use Rattle.std.specs.Str.{IsCharBoundary}
use Rattle.wt_tree.specs.declared.kind.Ranges.{Ranges}
use Rattle.wt_tree.specs.Tree.{Tree, tree, Trees, none, more}
use Rattle.wt_splice.specs.Splice.{Change}

-- what is said of a place
abbrev pub Said : Type 1
Said = ℕ → Type 0

-- of the four places of a node that has some
abbrev pub IsSaidOf : Said → Option Ranges → Type 0
IsSaidOf P None = Unit {0}
IsSaidOf P (Some r) = P r.start × P (r.start + r.open_w) × P (r.end - r.close_w) × P r.end

-- of all places of a tree
abbrev mutual
  pub IsSaidIn : Said → Tree → Type 0
  IsSaidIn P (tree l ts) = IsSaidOf P l.ranges × IsSaidInAll P ts

  pub IsSaidInAll : Said → Trees → Type 0
  IsSaidInAll P none = Unit {0}
  IsSaidInAll P (more t ts) = IsSaidIn P t × IsSaidInAll P ts

-- of both ends of each slice
abbrev pub AreSaidOf : Said → List Change → Type 0
AreSaidOf P cs = AllByRecursion (λ c. P c.start × P c.end) cs

-- all places of a tree are places of the page between its characters
abbrev pub HasBorders : List ℕ → Tree → Type 0
HasBorders page t = IsSaidIn (λ p. IsCharBoundary page p) t
