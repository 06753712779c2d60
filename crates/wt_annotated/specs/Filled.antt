-- Trees in which no item comes from a call and each node holds an item: in them no node is a group.
use Rattle.std.specs.Prelude.{Bool, true, false, ◌&&◌, ◌||◌, List}
use Rattle.std.specs.List.{list_all, list_any}
use Rattle.wt_span.specs.Items.{Item}
use Rattle.wt_inline.specs.ItemTree.{ItemTree, inner, ItemTrees, nothing, further}
use Rattle.wt_annotated.specs.Clean.{is_page}

abbrev pub are_some : ItemTrees → Bool
are_some nothing = false
are_some (further t ts) = true

-- delimiters of the page, round children or not; where there are none, an item is in them
abbrev pub is_round : List Item → Bool → List Item → Bool
is_round opening some closing =
    list_all is_page opening && (list_all is_page closing && (some || (list_any is_page opening || list_any is_page closing)))

abbrev mutual
  pub is_filled : ItemTree → Bool
  is_filled (inner h opening ts closing) = is_round opening (are_some ts) closing && all_filled ts

  pub all_filled : ItemTrees → Bool
  all_filled nothing = true
  all_filled (further t ts) = is_filled t && all_filled ts
