-- A tree with groups, taken apart: the tree over items that it comes from.
use Rattle.std.specs.Prelude.{◌+◌, List, take, drop}
use Rattle.wt_span.specs.Items.{Item}
use Rattle.wt_inline.specs.ItemTree.{inner, ItemTrees, nothing, further}
use Rattle.wt_annotated.specs.Grouped.{Grouped, kept, group, GroupedAll, ended, along}

abbrev pub joined : ItemTrees → ItemTrees → ItemTrees
joined nothing us = us
joined (further t ts) us = further t (joined ts us)

-- A kept node has the items between its places as delimiters, and a group gives way to its nodes; `rest` follows.
abbrev mutual
  pub ungrouped : List Item → Grouped → ItemTrees → ItemTrees
  ungrouped all (kept h n o i c gs) rest =
      further (inner h (take o (drop n all)) (all_ungrouped all gs) (take c (drop (n + o + i) all))) rest
  ungrouped all (group n k ts) rest = joined ts rest

  pub all_ungrouped : List Item → GroupedAll → ItemTrees
  all_ungrouped all ended = nothing
  all_ungrouped all (along g gs) = ungrouped all g (all_ungrouped all gs)
