-- Such a page has no groups: none of its blocks is one, or holds one.
use Rattle.std.proofs.Common.{ℕ, None, List, [], ◌∷◌, refl, sym, subst}
use Rattle.wt_devices.specs.Device.{Pages}
use Rattle.wt_tree.specs.Tiling.{HasNoGroup, NoneIsGroup}
use Rattle.wt_span.specs.Items.{Item}
use Rattle.wt_inline.specs.ItemTree.{ItemTree, forest}
use Rattle.wt_annotated.specs.Annotated.{all_unplaced}
use Rattle.wt_part_laws.specs.Standing.{standing, AreOrdinary}
use Rattle.wt_part_laws.proofs.Ordinary.{standing_ordinary, ordinary_ungrouped}
use Rattle.wt_text_edit_laws.specs.Parts.{HasNoGroups}
use Rattle.wt_text_edit_laws.specs.BlockSpots.{BlockSpot, spots_source, page_blocks, AreBlockSpots}
use Rattle.wt_text_edit_laws.proofs.Prose.ProseTrees.{blocks_of, number_behind, items_behind}
use Rattle.wt_text_edit_laws.proofs.Blocks.BlocksRead.{spots_expanded, spots_unrefused}
use Rattle.wt_text_edit_laws.proofs.Blocks.BlockMeaning.{spots_meaning}
use Rattle.wt_text_edit_laws.proofs.Blocks.BlockTrees.{leafy_blocks, as_leaves, are_typed, spots_tree}
use Rattle.wt_text_edit_laws.proofs.Blocks.BlocksAgain.{spots_utf8}
use Rattle.wt_text_edit_laws.proofs.Blocks.PageKinds.{page_ordinary}

pub blocks_ungrouped : (n : ℕ) (b : List Item) (ts : List ItemTree) → AreOrdinary (all_unplaced (forest ts)) → NoneIsGroup (blocks_of n b ts)
blocks_ungrouped n b [] o = tt
blocks_ungrouped n b (t ∷ ts) o =
    (ordinary_ungrouped (standing n b t) (standing_ordinary n b t o.0), blocks_ungrouped (number_behind n b t) (items_behind b t) ts o.1)

no_pages : Pages
no_pages = λ title. None

pub spots_ungrouped : (ss : List BlockSpot) (behind : List ℕ) → AreBlockSpots ss behind → HasNoGroups (spots_source ss behind)
spots_ungrouped ss behind h =
    let page : List ℕ = spots_source ss behind in
    let ts : List ItemTree = leafy_blocks ss behind in
    let ordinary : AreOrdinary (all_unplaced (forest (page_blocks ss behind))) =
    page_ordinary no_pages page (page_blocks ss behind) (spots_utf8 ss behind h) (spots_unrefused no_pages ss behind h) (spots_expanded no_pages ss behind h)
    (spots_meaning ss behind h) in
    subst HasNoGroup (sym (spots_tree ss behind h))
    (refl, blocks_ungrouped 1 [] ts (subst (λ ts. AreOrdinary (all_unplaced (forest ts))) (as_leaves ss behind (are_typed ss behind h)) ordinary))
