-- Blocks of any kind that are kept, before others.
use Rattle.std.proofs.Common.{◌≡◌, ℕ, List, [], ◌∷◌, ◌++◌, refl, sym, ap, ◌∙◌, append-nil}
use Rattle.std.proofs.lemmas.Grind.{flat_map-append}
use Rattle.wt_tree.specs.Plain.{Plains, plain_before}
use Rattle.wt_tree.specs.Source.{flat_of_all}
use Rattle.wt_span.specs.Items.{Item, source, sources}
use Rattle.wt_inline.specs.ItemTree.{ItemTree, forest, tree_items, held_by_all}
use Rattle.wt_page.specs.Body.{meaning}
use Rattle.wt_page.proofs.HeldBody.{sources_meaning}
use Rattle.wt_part_laws.specs.Standing.{standing}
use Rattle.wt_part_laws.proofs.Moved.{shows_the_same}
use Rattle.wt_part_laws.proofs.Sources.{standing_source}
use Rattle.wt_expand.specs.PageItems.{page_items}
use Rattle.wt_expand.proofs.PageLaws.{page_sources}
use Rattle.wt_text_edit_laws.proofs.Prose.ProseTrees.{blocks_of, number_behind, items_behind}
use Rattle.wt_text_edit_laws.proofs.Prose.ProseFacts.{plains_of}
use Rattle.wt_text_edit_laws.specs.ParagraphBetween.{blocks_in}

-- ---- what blocks show, and their source

-- the same wherever they stand
abbrev pub block_shown : ItemTree → Plains → Plains
block_shown t rest = plain_before (standing 0 [] t) rest

abbrev pub blocks_shown : List ItemTree → Plains → Plains
blocks_shown [] rest = rest
blocks_shown (t ∷ ts) rest = block_shown t (blocks_shown ts rest)

abbrev pub blocks_source : List ItemTree → List ℕ
blocks_source [] = []
blocks_source (t ∷ ts) = sources (tree_items t) ++ blocks_source ts

pub held_source : (ts : List ItemTree) → sources (held_by_all (forest ts)) ≡ blocks_source ts
held_source [] = refl
held_source (t ∷ ts) = flat_map-append source (tree_items t) (held_by_all (forest ts)) ∙ ap (λ bs. sources (tree_items t) ++ bs) (held_source ts)

-- the blocks of items have their source
source_in : (xs : List Item) → blocks_source (blocks_in xs) ≡ sources xs
unfolding meaning
source_in xs =
    let own : List Item = held_by_all (forest (blocks_in xs)) in
    sym (held_source (blocks_in xs)) ∙ ap sources (sym (append-nil own)) ∙ sources_meaning xs

pub part_source : (part : List ℕ) → blocks_source (blocks_in (page_items part)) ≡ part
part_source part = source_in (page_items part) ∙ page_sources part

-- what they show, from any number and place on
pub others_show : (ts vs : List ItemTree) (shown : Plains) → ((m : ℕ) (after : List Item) → plains_of m after vs ≡ shown)
    → (n : ℕ) (before : List Item) → plains_of n before (ts ++ vs) ≡ blocks_shown ts shown
others_show [] vs shown k n before = k n before
others_show (t ∷ ts) vs shown k n before =
    let m : ℕ = number_behind n before t in
    let after : List Item = items_behind before t in
    shows_the_same n 0 before [] t (plains_of m after (ts ++ vs)) ∙ ap (block_shown t) (others_show ts vs shown k m after)

-- the source of their nodes
pub blocks_flat : (n : ℕ) (b : List Item) (us : List ItemTree) → flat_of_all (blocks_of n b us) ≡ blocks_source us
blocks_flat n b [] = refl
blocks_flat n b (t ∷ us) =
    ap (λ bs. bs ++ flat_of_all (blocks_of (number_behind n b t) (items_behind b t) us)) (standing_source n b t)
    ∙ ap (λ bs. sources (tree_items t) ++ bs) (blocks_flat (number_behind n b t) (items_behind b t) us)
