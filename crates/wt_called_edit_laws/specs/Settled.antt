-- A tree whose numbers and places are counted anew: they hang on the rest of it.
use Rattle.std.specs.Prelude.{◌≡◌, ℕ, ◌+◌, Some, List, length, if◌then◌else◌}
use Rattle.wt_tree.specs.Source.{flat}
use Rattle.wt_tree.specs.Tiling.{is_group}
use Rattle.wt_tree.specs.Tree.{Label, Tree, tree, Trees, none, more}
use Rattle.wt_annotated.specs.Numbering.{number_of, next_after, count}
use Rattle.wt_annotated.specs.Slices.{opening_of}
use Rattle.wt_part_laws.specs.Placeless.{placeless}

-- with this number, if its kind has one, at this byte, where it has this source
abbrev pub settled_label : ℕ → ℕ → List ℕ → Label → Label
settled_label n at source l = record l {
  id = number_of l.kind n;
  ranges = Some (record { start = at; end = at + length source; open_w = length (opening_of l); close_w = length l.closing });
}

-- Nodes count in preorder, and each begins where what comes before it ends. What a group holds has neither numbers nor places.
abbrev mutual
  pub settled : ℕ → ℕ → Tree → Tree
  settled n at (tree l ts) =
      tree (settled_label n at (flat (tree l ts)) l) (if is_group l.kind then ts else all_settled (next_after l.kind n) (at + length l.opening) ts)

  pub all_settled : ℕ → ℕ → Trees → Trees
  all_settled n at none = none
  all_settled n at (more t ts) = more (settled n at t) (all_settled (n + count t) (at + length (flat t)) ts)

-- the first number is 1, and the page begins at byte 0
abbrev pub page_settled : Tree → Tree
page_settled t = settled 1 0 t

abbrev pub IsSettled : Tree → Type 0
IsSettled t = t ≡ page_settled (placeless t)
