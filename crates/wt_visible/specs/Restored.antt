-- The edited tree as it is compared with a new page. The elements of a group tell less than its nodes, so a kept group is what the
-- page's group of its number holds.
use Rattle.std.specs.Prelude.{ℕ, ◌==◌, Bool, true, false, Option, Some, None, if◌then◌else◌}
use Rattle.wt_tree.specs.Tiling.{is_group}
use Rattle.wt_tree.specs.Tree.{Tree, tree, Trees, none, more}
use Rattle.wt_checks.specs.Kept.{children}
use Rattle.wt_checks.specs.Places.{Place, Page, page_of}

-- what the page's node holds, where there is one
abbrev pub held_there : Option Place → Trees → Trees
held_there None ts = ts
held_there (Some p) ts = children p.node

-- a group without a number isn't the page's
abbrev pub group_held : Page → ℕ → Trees → Trees
group_held page number ts = if number == 0 then ts else held_there (page number) ts

abbrev pub held_by : Page → Bool → ℕ → Trees → Trees → Trees
held_by page true number own restored = group_held page number own
held_by page false number own restored = restored

abbrev mutual
  pub restored : Page → Tree → Tree
  restored page (tree l ts) = tree l (held_by page (is_group l.kind) l.id ts (all_restored page ts))

  pub all_restored : Page → Trees → Trees
  all_restored page none = none
  all_restored page (more t ts) = more (restored page t) (all_restored page ts)

-- what a node holds, restored
abbrev pub restored_held : Page → Tree → Trees
restored_held page (tree l ts) = held_by page (is_group l.kind) l.id ts (all_restored page ts)

-- an edited tree of this page
abbrev pub restored_from : Tree → Tree → Tree
restored_from page edited = restored (page_of page) edited
