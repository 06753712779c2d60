-- The tree of a page of which each part by itself has no group: its nodes by numbers and places.
use Rattle.std.proofs.Common.{◌≡◌, ℕ, List, [], ◌∷◌, ◌++◌, refl, sym, ap, ◌∙◌, subst, append-nil, append_assoc}
use Rattle.wt_tree.specs.declared.kind.Kind.TheVariants as kind
use Rattle.wt_tree.specs.Tiling.{HasNoGroup}
use Rattle.wt_tree.specs.Tree.{tree}
use Rattle.wt_page.specs.Body.{meaning}
use Rattle.wt_inline.specs.ItemTree.{ItemTree, forest, tree_items, held_by_all}
use Rattle.wt_span.specs.Items.{Item}
use Rattle.wt_expand.specs.PageItems.{page_items}
use Rattle.wt_annotated.specs.Annotated.{annotated}
use Rattle.wt_annotated.specs.CutTexts.{cut_texts}
use Rattle.wt_annotated.specs.GroupData.{group_data}
use Rattle.wt_annotated.specs.Labels.{label_at}
use Rattle.wt_annotated.specs.WithoutCalls.{annotated as annotated_plainly, AllNonEmpty, IsPlain}
use Rattle.wt_annotated.proofs.AnnotatedTree.{without_calls}
use Rattle.wt_annotated.proofs.NoGroups.{only_plain}
use Rattle.wt_text_edit_laws.proofs.Texts.LoneTrees.{sized}
use Rattle.wt_text_edit_laws.proofs.Texts.TypedShown.{AllOfPage, both_of_page}
use Rattle.wt_text_edit_laws.proofs.Prose.ProseTrees.{blocks_of}
use Rattle.wt_text_edit_laws.specs.ParagraphBetween.{blocks_in, body_with}
use Rattle.wt_text_edit_laws.specs.Parts.{HasNoGroups}
use Rattle.wt_text_edit_laws.proofs.Paragraphs.Standing.{parts_in, body_is}

-- ---- a part by itself

part_meaning : (bs : List ℕ) → meaning (page_items bs) ≡ body_with (blocks_in (page_items bs))
part_meaning bs = body_is (page_items bs) (parts_in (page_items bs)) refl

-- ---- no item comes from a call, and no node is empty

abbrev pub ArePlain : List ItemTree → Type 0
ArePlain ts = IsPlain (body_with ts)

all_held : (us vs : List ItemTree) → held_by_all (forest (us ++ vs)) ≡ held_by_all (forest us) ++ held_by_all (forest vs)
all_held [] vs = refl
all_held (u ∷ us) vs = ap (λ xs. tree_items u ++ xs) (all_held us vs) ∙ sym (append_assoc (tree_items u) (held_by_all (forest us)) (held_by_all (forest vs)))

all_full : (us vs : List ItemTree) → AllNonEmpty (forest us) → AllNonEmpty (forest vs) → AllNonEmpty (forest (us ++ vs))
all_full [] vs h g = g
all_full (u ∷ us) vs h g = (h.0, h.1, all_full us vs h.2 g)

of_page_alone : (xs : List Item) → AllOfPage (xs ++ []) → AllOfPage xs
of_page_alone xs h = subst AllOfPage (append-nil xs) h

pub plain_joined : (us vs : List ItemTree) → ArePlain us → ArePlain vs → ArePlain (us ++ vs)
plain_joined us vs h g =
    let xs : List Item = held_by_all (forest us) in
    let ys : List Item = held_by_all (forest vs) in
    record {
      of_page = both_of_page (held_by_all (forest (us ++ vs))) []
          (subst AllOfPage (sym (all_held us vs)) (both_of_page xs ys (of_page_alone xs h.of_page) (of_page_alone ys g.of_page))) refl;
      none_empty = all_full us vs h.none_empty g.none_empty;
    }

pub part_plain : (bs : List ℕ) → HasNoGroups bs → ArePlain (blocks_in (page_items bs))
part_plain bs h =
    let ts : List ItemTree = blocks_in (page_items bs) in
    only_plain [] (group_data []) (forest ts) (subst (λ t. HasNoGroup (annotated [] (group_data []) t)) (part_meaning bs) h)

-- ---- the tree

tree_of : (ts : List ItemTree) → cut_texts (annotated_plainly (body_with ts)) ≡ tree (sized kind.Body 0 (held_by_all (forest ts) ++ []) [] []) (blocks_of 1 [] ts)
unfolding annotated_plainly label_at
tree_of ts = refl

pub plain_tree : (ts : List ItemTree) → ArePlain ts
    → annotated [] (group_data []) (body_with ts) ≡ tree (sized kind.Body 0 (held_by_all (forest ts) ++ []) [] []) (blocks_of 1 [] ts)
plain_tree ts h = without_calls [] (group_data []) (body_with ts) h ∙ tree_of ts
