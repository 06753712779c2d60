-- An edited tree beside the page's.
use Rattle.std.specs.Prelude.{◌≡◌}
use Rattle.wt_checks.specs.Checked.{nodes_checked}
use Rattle.wt_difference.specs.Difference.{are_none, difference}
use Rattle.wt_difference.specs.Remarked.{remarked}
use Rattle.wt_new_page.specs.declared.beside.Beside.{Beside}
use Rattle.wt_tree.specs.Tree.{Tree}
use Rattle.wt_tree.specs.View.{view}

-- it has the marks of the difference; whether there is none, and the first check that refuses a node
pub record IsBeside (t edited : Tree) (c : Beside) : Type 0 where
  pub marked : view c.edited ≡ remarked t edited
  pub same : c.same ≡ are_none (difference t edited)
  pub refused : c.refused ≡ nodes_checked t (remarked t edited)
