-- Characters that calls give among what is the page's own: those of one call, side by side, are a group by themselves.
use Rattle.std.specs.Prelude.{ℕ, Option, Some, None, List, [], ◌∷◌, slice_get}
use Rattle.wt_tree.specs.Tree.{Tree, tree, Trees, none, more}
use Rattle.wt_span.specs.Origins.{OuterCall}
use Rattle.wt_span.specs.Cuts.{source_of_call}
use Rattle.wt_inline.specs.declared.loose.Loose.TheVariants.{Text, Sep}
use Rattle.wt_inline.specs.ItemTree.{ItemTree, nothing, further, tree_items}
use Rattle.wt_inline.specs.Parts.{Part, loose, node}
use Rattle.wt_annotated.specs.Annotated.{group_label, all_unplaced}
use Rattle.wt_annotated.specs.GroupData.{group_data}
use Rattle.wt_annotated.specs.GroupParts.{called}
use Rattle.wt_annotated.specs.Seams.{first_of}
use Rattle.wt_annotated.specs.WithoutCalls.{placed}
use Rattle.wt_part_laws.specs.Placeless.{placeless}
use Rattle.wt_part_laws.specs.Rounded.{IsOwn}

-- characters of texts, each of the page or of a call, and nodes of the page
abbrev pub AreOwnOrTexts : List Part → Type 0
AreOwnOrTexts [] = Unit {0}
AreOwnOrTexts (loose Text o b ∷ ps) = AreOwnOrTexts ps
AreOwnOrTexts (loose Sep o b ∷ ps) = ⊥
AreOwnOrTexts (node t ∷ ps) = IsOwn t × AreOwnOrTexts ps

-- ---- what their nodes are in the page's tree, but for numbers and places

-- the group of this call, of which this is what it gives
abbrev pub call_group : List OuterCall → ℕ → ItemTree → Tree
call_group calls j t =
    placeless (tree (group_label 0 (source_of_call (slice_get calls j)) (group_data calls (called j ∷ []))) (all_unplaced (further t nothing)))

-- by the call of its first item
abbrev pub by_call : List OuterCall → Option ℕ → ItemTree → Tree
by_call calls None t = placeless (placed [] t)
by_call calls (Some j) t = call_group calls j t

abbrev pub in_page : List OuterCall → ItemTree → Tree
in_page calls t = by_call calls (first_of (tree_items t) None) t

abbrev pub all_in_page : List OuterCall → List ItemTree → Trees
all_in_page calls [] = none
all_in_page calls (t ∷ ts) = more (in_page calls t) (all_in_page calls ts)
