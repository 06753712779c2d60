-- The tree of a page with typed paragraphs and headings: the nodes of its parts and these blocks, by numbers and places.
use Rattle.std.proofs.Common.{◌≡◌, ℕ, List, [], ◌∷◌, ◌++◌, refl, sym, ap, ◌∙◌}
use Rattle.wt_tree.specs.declared.kind.Kind.TheVariants as kind
use Rattle.wt_tree.specs.Tree.{tree}
use Rattle.wt_inline.specs.ItemTree.{ItemTree, forest, held_by_all}
use Rattle.wt_expand.specs.PageItems.{page_items}
use Rattle.wt_annotated.specs.Annotated.{annotated}
use Rattle.wt_annotated.specs.GroupData.{group_data}
use Rattle.wt_annotated.specs.CutTexts.{cut_texts}
use Rattle.wt_annotated.specs.WithoutCalls.{annotated as annotated_plainly}
use Rattle.wt_annotated.proofs.AnnotatedTree.{without_calls}
use Rattle.wt_text_edit_laws.proofs.Texts.LoneTrees.{sized}
use Rattle.wt_text_edit_laws.proofs.Texts.TypedLeaves.{leaves}
use Rattle.wt_text_edit_laws.proofs.Prose.ProseTrees.{blocks_of}
use Rattle.wt_text_edit_laws.specs.ParagraphBetween.{blocks_in, body_with}
use Rattle.wt_text_edit_laws.specs.Parts.{part_tree, HasNoGroups}
use Rattle.wt_text_edit_laws.proofs.Paragraphs.PartTrees.{ArePlain, plain_joined, part_plain, plain_tree}
use Rattle.wt_text_edit_laws.specs.TextBlocks.{TextBlock, IsBlock}
use Rattle.wt_text_edit_laws.specs.BlockSpots.{BlockSpot, spots_source, page_blocks, AreFurtherBlocks, AreBlockSpots, AreBlocks}
use Rattle.wt_text_edit_laws.proofs.Blocks.BlockLeaves.{leaf_block, block_leaves, block_plain}
use Rattle.wt_text_edit_laws.proofs.Blocks.BlockMeaning.{spots_meaning}

-- ---- by leaves

abbrev pub leafy_blocks : List BlockSpot → List ℕ → List ItemTree
leafy_blocks [] behind = blocks_in (page_items behind)
leafy_blocks (s ∷ ss) behind = blocks_in (page_items s.before) ++ leaf_block s.block (leaves (page_items s.text)) ∷ leafy_blocks ss behind

pub as_leaves : (ss : List BlockSpot) (behind : List ℕ) → AreBlocks ss → page_blocks ss behind ≡ leafy_blocks ss behind
as_leaves [] behind h = refl
as_leaves (s ∷ ss) behind h =
    let own : List ItemTree = blocks_in (page_items s.before) in
    ap (λ t. own ++ t ∷ page_blocks ss behind) (block_leaves s.block s.text h.0)
    ∙ ap (λ ts. own ++ leaf_block s.block (leaves (page_items s.text)) ∷ ts) (as_leaves ss behind h.1)

further_typed : (last : TextBlock) (ss : List BlockSpot) (behind : List ℕ) → AreFurtherBlocks last ss behind → AreBlocks ss
further_typed last [] behind h = tt
further_typed last (s ∷ ss) behind h = (h.0.block, further_typed s.block ss behind h.2)

pub are_typed : (ss : List BlockSpot) (behind : List ℕ) → AreBlockSpots ss behind → AreBlocks ss
are_typed [] behind h = absurd h
are_typed (s ∷ ss) behind h = (h.0.block, further_typed s.block ss behind h.1)

-- ---- no item comes from a call, and no node is empty

spot_plain : (s : BlockSpot) (ts : List ItemTree) → HasNoGroups s.before → IsBlock s.block s.text → ArePlain ts
    → ArePlain (blocks_in (page_items s.before) ++ leaf_block s.block (leaves (page_items s.text)) ∷ ts)
spot_plain s ts g h p =
    let t : ItemTree = leaf_block s.block (leaves (page_items s.text)) in
    plain_joined (blocks_in (page_items s.before)) (t ∷ ts) (part_plain s.before g) (plain_joined (t ∷ []) ts (block_plain s.block s.text h) p)

further_plain : (last : TextBlock) (ss : List BlockSpot) (behind : List ℕ) → AreFurtherBlocks last ss behind → ArePlain (leafy_blocks ss behind)
further_plain last [] behind h = part_plain behind h.ungrouped
further_plain last (s ∷ ss) behind h = spot_plain s (leafy_blocks ss behind) h.0.ungrouped h.0.block (further_plain s.block ss behind h.2)

spots_plain : (ss : List BlockSpot) (behind : List ℕ) → AreBlockSpots ss behind → ArePlain (leafy_blocks ss behind)
spots_plain [] behind h = absurd h
spots_plain (s ∷ ss) behind h = spot_plain s (leafy_blocks ss behind) h.0.ungrouped h.0.block (further_plain s.block ss behind h.1)

-- ---- the tree

pub spots_tree : (ss : List BlockSpot) (behind : List ℕ) → AreBlockSpots ss behind
    → part_tree (spots_source ss behind)
    ≡ tree (sized kind.Body 0 (held_by_all (forest (leafy_blocks ss behind)) ++ []) [] []) (blocks_of 1 [] (leafy_blocks ss behind))
spots_tree ss behind h =
    ap (annotated [] (group_data [])) (spots_meaning ss behind h ∙ ap body_with (as_leaves ss behind (are_typed ss behind h)))
    ∙ plain_tree (leafy_blocks ss behind) (spots_plain ss behind h)

-- in other words
pub tree_of_spots : (ss : List BlockSpot) (behind : List ℕ) → AreBlockSpots ss behind
    → part_tree (spots_source ss behind) ≡ cut_texts (annotated_plainly (body_with (page_blocks ss behind)))
tree_of_spots ss behind h =
    let e : page_blocks ss behind ≡ leafy_blocks ss behind = as_leaves ss behind (are_typed ss behind h) in
    ap (annotated [] (group_data [])) (spots_meaning ss behind h ∙ ap body_with e)
    ∙ without_calls [] (group_data []) (body_with (leafy_blocks ss behind)) (spots_plain ss behind h)
    ∙ ap (λ ts. cut_texts (annotated_plainly (body_with ts))) (sym e)
