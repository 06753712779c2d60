-- Blocks of a page that hold calls, by the nodes of its tree.
use Rattle.std.specs.Prelude.{◌≢◌}
use Rattle.wt_tree.specs.declared.kind.Kind.TheVariants as kind
use Rattle.wt_tree.specs.Tree.{Tree, label}
use Rattle.wt_expand.specs.Work.{Pages}
use Rattle.wt_beside_laws.specs.Called.{AllSeenIn}
use Rattle.wt_called_edit_laws.specs.BlockNodes.{IsOfNodes}
use Rattle.wt_called_edit_laws.specs.CalledEdits.{page_things}

-- Its nodes are such; in a heading what each gives ends with no blank and no `=`.
pub record IsNodeBlock (pages : Pages) (t : Tree) : Type 0 where
  pub nodes : IsOfNodes pages t
  pub seen : (label t).kind ≢ kind.Para → AllSeenIn pages (page_things t)
