-- The place that a visit of a node stands for.
use Rattle.std.specs.Prelude.{◌==◌, not, Bool, List, ◌++◌, map, filter, take, option_map, slice_get}
use Rattle.wt_tree.specs.View.{view}
use Rattle.wt_tree.specs.declared.node.Node.{out-Node}
use Rattle.wt_checks.specs.declared.visit.Visit.{Visit}
use Rattle.wt_checks.specs.Places.{Place, Page}

abbrev pub seen : Visit → Place
seen v = record { node = view v.node.now; parent = v.parent; in_content = v.in_content }

abbrev pub all_seen : List Visit → List Place
all_seen vs = map seen vs

-- the page whose body is the first of these visits, and whose node with number n the one at n
abbrev pub indexed : List Visit → Page
indexed vs n = option_map seen (slice_get vs n)

-- the first visit, which is the body's, and after it those of nodes with a number
abbrev pub has_number : Visit → Bool
has_number v = not ((out-Node v.node.now).id == 0)

abbrev pub index_list : List Visit → List Visit
index_list vs = take 1 vs ++ filter has_number vs
