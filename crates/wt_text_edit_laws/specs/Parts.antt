-- A part of a page, as a page by itself.
use Rattle.std.specs.Prelude.{ℕ, List, []}
use Rattle.wt_tree.specs.Tiling.{HasNoGroup}
use Rattle.wt_tree.specs.Tree.{Tree}
use Rattle.wt_page.specs.Body.{meaning}
use Rattle.wt_expand.specs.PageItems.{page_items}
use Rattle.wt_annotated.specs.Annotated.{annotated}
use Rattle.wt_annotated.specs.GroupData.{group_data}

-- its tree, without sections
abbrev pub part_tree : List ℕ → Tree
part_tree bs = annotated [] (group_data []) (meaning (page_items bs))

-- no part of it can only be kept as a whole
abbrev pub HasNoGroups : List ℕ → Type 0
HasNoGroups bs = HasNoGroup (part_tree bs)
