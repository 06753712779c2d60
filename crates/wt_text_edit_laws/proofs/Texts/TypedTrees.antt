-- The tree of a page of typed text: one paragraph, and in it the leaves, by their places and numbers.
use Rattle.std.proofs.Common.{arith, ◌≡◌, ℕ, ◌+◌, false, List, [], ◌∷◌, ◌++◌, length, map, refl, ap, ◌∙◌, append-nil}
use Rattle.wt_tree.specs.declared.kind.Kind.TheVariants as kind
use Rattle.wt_tree.specs.Kinds.{spelling}
use Rattle.wt_tree.specs.Source.{flat, flat_of_all}
use Rattle.wt_tree.specs.Tree.{Tree, tree, Trees, none, more}
use Rattle.wt_span.specs.Items.{Item, sources}
use Rattle.wt_span.specs.Origins.{Expanded}
use Rattle.wt_inline.specs.ItemTree.{plain, inner, nothing, further, forest, held_by_all}
use Rattle.wt_isolation.specs.OpenTags.{any_ends_open}
use Rattle.wt_selser.specs.GroupFaults.{has_faulty_group}
use Rattle.wt_annotated.specs.Annotated.{annotated}
use Rattle.wt_annotated.specs.CutTexts.{cut_texts}
use Rattle.wt_annotated.specs.GroupData.{group_data}
use Rattle.wt_annotated.specs.Labels.{width, label_at}
use Rattle.wt_annotated.specs.WithoutCalls.{annotated as annotated_plainly}
use Rattle.wt_annotated.proofs.AnnotatedTree.{without_calls}
use Rattle.wt_sections.specs.Sections.{with_sections}
use Rattle.wt_text_edit_laws.specs.LonePages.{page_of}
use Rattle.wt_text_edit_laws.proofs.Texts.LoneTrees.{sized}
use Rattle.wt_text_edit_laws.proofs.Texts.TypedLeaves.{AreOwn, Leaf, letters, reference, guard, leaves, HasAny, leaves_source, leaves_shut, leaf_tree, para_leaves}
use Rattle.wt_text_edit_laws.proofs.Texts.TypedNodes.{nodes, next, behind, nodes_flat, held_sources, none_open}
use Rattle.wt_text_edit_laws.proofs.Texts.TypedShown.{body_of, is_plain_page}
use Rattle.wt_text_edit_laws.proofs.Texts.TypedAgain.{old_para, old_page}

-- ---- nothing in them refuses an edit

pub none_faulty : (items : Expanded) (n : ℕ) (before : List Item) (ls : List Leaf) → has_faulty_group items (nodes n before ls) ≡ false
unfolding label_at
none_faulty items n before [] = refl
none_faulty items n before (letters b bs ∷ ls) = none_faulty items (next n before (letters b bs)) (behind before (letters b bs)) ls
none_faulty items n before (reference c bs ∷ ls) = none_faulty items (next n before (reference c bs)) (behind before (reference c bs)) ls
none_faulty items n before (guard ∷ ls) = none_faulty items (next n before guard) (behind before guard) ls

-- ---- the tree

abbrev made : List Item → List Item → Trees → Tree
made p q ts = tree (sized kind.Body 0 q [] []) (more (tree (sized kind.Para 1 p [] []) ts) none)

abbrev held : List Leaf → List Item
held ls = held_by_all (forest (map leaf_tree ls))

plainly : (ls : List Leaf) → cut_texts (annotated_plainly (body_of ls)) ≡ made (held ls ++ []) (((held ls ++ []) ++ []) ++ []) (nodes 2 [] ls)
unfolding annotated_plainly label_at
plainly ls = refl

in_sections : (xs : List Item) (ts : Trees) → with_sections (made xs xs ts) ≡ old_page (0 + width xs) ts
unfolding spelling
in_sections xs ts = refl

held_width : (xs : List Item) → AreOwn xs → 0 + width (held (leaves xs)) ≡ length (sources xs)
held_width xs h = ap (λ bs. 0 + length bs) (held_sources (leaves xs) ∙ leaves_source xs h) ∙ omega arith

pub leaves_tree : (xs : List Item) → AreOwn xs → HasAny (leaves xs)
    → with_sections (annotated [] (group_data []) (page_of xs)) ≡ old_page (length (sources xs)) (nodes 2 [] (leaves xs))
leaves_tree xs h a =
    let ls : List Leaf = leaves xs in
    let ts : Trees = nodes 2 [] ls in
    let ys : List Item = held ls in
    ap (λ t. with_sections (annotated [] (group_data []) (inner (plain kind.Body) [] (further t nothing) []))) (para_leaves xs h)
    ∙ ap with_sections (without_calls [] (group_data []) (body_of ls) (is_plain_page ls a) ∙ plainly ls)
    ∙ ap (λ p. with_sections (made p (((ys ++ []) ++ []) ++ []) ts)) (append-nil ys)
    ∙ ap (λ q. with_sections (made ys q ts)) (append-nil ((ys ++ []) ++ []) ∙ append-nil (ys ++ []) ∙ append-nil ys)
    ∙ in_sections ys ts
    ∙ ap (λ n. old_page n ts) (held_width xs h)

pub leaves_flat : (xs : List Item) (n : ℕ) → AreOwn xs → flat (old_para n (nodes 2 [] (leaves xs))) ≡ sources xs
leaves_flat xs n h = append-nil (flat_of_all (nodes 2 [] (leaves xs))) ∙ nodes_flat 2 [] (leaves xs) ∙ leaves_source xs h

pub leaves_shut_off : (xs : List Item) → AreOwn xs → any_ends_open (nodes 2 [] (leaves xs)) ≡ false
leaves_shut_off xs h = none_open 2 [] (leaves xs) (leaves_shut xs h)

pub leaves_faultless : (items : Expanded) (xs : List Item) → has_faulty_group items (nodes 2 [] (leaves xs)) ≡ false
leaves_faultless items xs = none_faulty items 2 [] (leaves xs)
