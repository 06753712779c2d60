-- Each range of a tree is a slice of the page: from its start to its end is the node's source, and its widths are the
-- lengths of the delimiters.
use Rattle.std.specs.Prelude.{◌≡◌, ◌≤◌, ℕ, Bool, true, false, Option, Some, None, List, length, take, drop}
use Rattle.std.specs.List.{AllByRecursion}
use Rattle.wt_tree.specs.declared.kind.Ranges.{Ranges}
use Rattle.wt_tree.specs.Kinds.{is_leaf}
use Rattle.wt_tree.specs.Source.{flat}
use Rattle.wt_tree.specs.Tree.{Label, Tree, label, subtrees}
use Rattle.wt_annotated.specs.Labels.{leaf_open}

-- what is in the page from one place to another
abbrev pub slice : List ℕ → ℕ → ℕ → List ℕ
slice page start end = drop start (take end page)

-- A leaf that is written as an element is all opening, and one that is written as text, or a group, has none.
abbrev pub opening_by : Bool → Label → List ℕ
opening_by true l = take (leaf_open l.kind (length l.own)) l.own
opening_by false l = l.opening

abbrev pub opening_of : Label → List ℕ
opening_of l = opening_by (is_leaf l.kind) l

-- the source is in the page at this range, with delimiters of these widths
pub record StandsAt (page : List ℕ) (r : Ranges) (source opening closing : List ℕ) : Type 0 where
  pub ordered : r.start ≤ r.end
  pub within : r.end ≤ length page
  pub stands : slice page r.start r.end ≡ source
  pub open_width : r.open_w ≡ length opening
  pub close_width : r.close_w ≡ length closing

abbrev pub StandsIn : List ℕ → Option Ranges → List ℕ → List ℕ → List ℕ → Type 0
StandsIn page None source opening closing = ⊥
StandsIn page (Some r) source opening closing = StandsAt page r source opening closing

abbrev pub IsSlice : List ℕ → Tree → Type 0
IsSlice page t = StandsIn page (label t).ranges (flat t) (opening_of (label t)) (label t).closing

-- the same of all nodes of a tree
abbrev pub AreSlices : List ℕ → Tree → Type 0
AreSlices page t = AllByRecursion (IsSlice page) (subtrees t)
