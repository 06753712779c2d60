-- Numbers and places aside, the tree of such a page has what each of its blocks is by itself.
use Rattle.std.proofs.Common.{◌≡◌, ℕ, List, [], ◌∷◌, refl, sym, ap, ap₂, ◌∙◌}
use Rattle.wt_tree.specs.Tree.{more}
use Rattle.wt_span.specs.Items.{Item}
use Rattle.wt_inline.specs.ItemTree.{ItemTree}
use Rattle.wt_checks.specs.Kept.{children}
use Rattle.wt_part_laws.specs.Placeless.{all_placeless, by_themselves}
use Rattle.wt_part_laws.proofs.Moved.{moved}
use Rattle.wt_text_edit_laws.proofs.Prose.ProseTrees.{blocks_of, number_behind, items_behind}
use Rattle.wt_text_edit_laws.specs.Parts.{part_tree}
use Rattle.wt_text_edit_laws.specs.BlockSpots.{BlockSpot, spots_source, page_blocks, AreBlockSpots}
use Rattle.wt_text_edit_laws.proofs.Blocks.BlockTrees.{leafy_blocks, as_leaves, are_typed, spots_tree}

each_moved : (n : ℕ) (before : List Item) (ts : List ItemTree) → all_placeless (blocks_of n before ts) ≡ by_themselves ts
each_moved n before [] = refl
each_moved n before (t ∷ ts) = ap₂ more (moved n 0 before [] t) (each_moved (number_behind n before t) (items_behind before t) ts)

pub blocks_alone : (ss : List BlockSpot) (behind : List ℕ) → AreBlockSpots ss behind
    → all_placeless (children (part_tree (spots_source ss behind))) ≡ by_themselves (page_blocks ss behind)
blocks_alone ss behind h =
    ap (λ t. all_placeless (children t)) (spots_tree ss behind h)
    ∙ each_moved 1 [] (leafy_blocks ss behind)
    ∙ ap by_themselves (sym (as_leaves ss behind (are_typed ss behind h)))
