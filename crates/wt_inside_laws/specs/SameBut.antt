-- Two trees over items that are the same but for one node: what a page means before and after an edit of one block.
use Rattle.std.specs.Prelude.{List}
use Rattle.wt_span.specs.Items.{Item}
use Rattle.wt_inline.specs.ItemTree.{Head, ItemTree, inner, ItemTrees, further}

-- where one tree has the node `old`, the other has `new`: at their roots, or in one child
mutual
  pub data SameBut (old new : ItemTree) : ItemTree → ItemTree → Type 0 where
    here : SameBut old new old new
    below : (h : Head) (opening : List Item) (ts us : ItemTrees) (closing : List Item) → InOne old new ts us
        → SameBut old new (inner h opening ts closing) (inner h opening us closing)

  pub data InOne (old new : ItemTree) : ItemTrees → ItemTrees → Type 0 where
    first : (t u : ItemTree) (ts : ItemTrees) → SameBut old new t u → InOne old new (further t ts) (further u ts)
    later : (t : ItemTree) (ts us : ItemTrees) → InOne old new ts us → InOne old new (further t ts) (further t us)
