-- Trees with the call of the first item after them.
use Rattle.std.specs.Prelude.{ℕ, Option, List, [], ◌∷◌}
use Rattle.wt_inline.specs.ItemTree.{ItemTree, held_by_all, forest}
use Rattle.wt_inline.specs.View.{item_tree}
use Rattle.wt_annotated.specs.Seams.{first_of}
use Rattle.wt_ranges.specs.declared.children.Followed.{Followed}

abbrev pub tree_after : Followed → ItemTree × Option ℕ
tree_after f = (item_tree f.tree, f.after)

abbrev pub trees_after : List ItemTree → Option ℕ → List (ItemTree × Option ℕ)
trees_after [] p = []
trees_after (t ∷ ts) p = (t, first_of (held_by_all (forest ts)) p) ∷ trees_after ts p
