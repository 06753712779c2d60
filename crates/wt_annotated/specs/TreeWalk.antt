-- A walk through a tree after an item of some call: how far it has come at the end of the opening, of the inside and of all.
use Rattle.std.specs.Prelude.{◌≡◌, ℕ, ◌+◌, Option, List, length}
use Rattle.wt_span.specs.Items.{items}
use Rattle.wt_span.specs.Origins.{OuterCall}
use Rattle.wt_inline.specs.ItemTree.{forest, tree_items, held_by_all}
use Rattle.wt_inline.specs.View.{item_tree, item_trees}
use Rattle.wt_inline.specs.declared.tree.PieceTree.{PieceTree, out-PieceTree}
use Rattle.wt_annotated.specs.declared.tree_walk.TreeProgress.{TreeProgress}
use Rattle.wt_annotated.specs.Seams.{last_of, text_from}

-- the calls round a tree's inside
abbrev pub opened : Option ℕ → PieceTree → Option ℕ
opened o n = last_of o (items (out-PieceTree n).opening)

abbrev pub filled : Option ℕ → PieceTree → Option ℕ
filled o n = last_of (opened o n) (held_by_all (forest (item_trees (out-PieceTree n).children)))

-- the calls of the last items up to these ends
pub record HasLasts (o : Option ℕ) (n : PieceTree) (w : TreeProgress) : Type 0 where
  pub opened : w.opened.last ≡ opened o n
  pub filled : w.filled.last ≡ filled o n
  pub closed : w.closed.last ≡ last_of o (tree_items (item_tree n))

-- how many bytes of the page there are up to the end of the opening, after the inside, and in all
pub record HasWidths (calls : List OuterCall) (o : Option ℕ) (n : PieceTree) (w : TreeProgress) : Type 0 where
  pub opening : w.opened.width ≡ length (text_from calls o (items (out-PieceTree n).opening))
  pub closing : w.closed.width ≡ w.filled.width + length (text_from calls (filled o n) (items (out-PieceTree n).closing))
  pub whole : w.closed.width ≡ length (text_from calls o (tree_items (item_tree n)))
