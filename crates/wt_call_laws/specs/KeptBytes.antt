-- Which bytes of a page an edit without marks keeps.
use Rattle.std.specs.Prelude.{ℕ, List}
use Rattle.wt_tree.specs.Tiling.{end_of}
use Rattle.wt_tree.specs.Tree.{Tree, label}
use Rattle.wt_checks.specs.Places.{page_of}
use Rattle.wt_difference.specs.Unedited.{IsUnedited}
use Rattle.wt_places.specs.Places.{gap_end}
use Rattle.wt_splice.specs.Splice.{between}
use Rattle.wt_call_laws.specs.Untouched.{HasBytes, IsNumberedBehind, StaysAt}

-- Those of each node that stays in its turn, and so on up to the body, and that is the page's own; of a cell those that come after
-- its sign. In the node no text comes after an inside.
abbrev pub KeepsUnedited : List ℕ → Tree → Tree → List ℕ → Type 0
KeepsUnedited page t u new = (way : List ℕ) (p v : Tree) → StaysAt (page_of t) t u way p v → IsNumberedBehind p → IsUnedited p v
    → HasBytes new (between (gap_end p) (end_of (label p).ranges) page)
