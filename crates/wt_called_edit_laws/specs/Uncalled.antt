-- Nodes side by side, of which not all are groups.
use Rattle.std.specs.Prelude.{◌≡◌, ◌⊎◌, false}
use Rattle.wt_tree.specs.Tiling.{is_group}
use Rattle.wt_tree.specs.Tree.{Trees, none, more, label}

abbrev pub SomeNoGroup : Trees → Type 0
SomeNoGroup none = ⊥
SomeNoGroup (more t ts) = (is_group (label t).kind ≡ false) ⊎ SomeNoGroup ts
