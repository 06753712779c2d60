-- What stands in a paragraph of typed text, as nodes from any number and place on.
use Rattle.std.proofs.Common.{◌≡◌, ℕ, ◌+◌, Bool, false, List, [], ◌∷◌, ◌++◌, map, refl, ap, ◌∙◌, append-nil}
use Rattle.std.specs.Prelude.{◌||◌}
use Rattle.std.specs.List.{flat_map}
use Rattle.std.proofs.lemmas.Grind.{flat_map-append}
use Rattle.wt_tree.specs.Source.{flat_of_all}
use Rattle.wt_tree.specs.Tree.{Trees}
use Rattle.wt_span.specs.Items.{Item, source, sources}
use Rattle.wt_guards.specs.Guards.{nowiki}
use Rattle.wt_inline.specs.ItemTree.{forest, tree_items, held_by_all}
use Rattle.wt_isolation.specs.OpenTags.{ends_open, any_ends_open}
use Rattle.wt_annotated.specs.CutTexts.{all_cut_texts}
use Rattle.wt_annotated.specs.Labels.{label_at}
use Rattle.wt_annotated.specs.Numbering.{count, all_with_numbers}
use Rattle.wt_annotated.specs.WithoutCalls.{placed, all_placed}
use Rattle.wt_text_edit_laws.specs.LonePages.{page_chars}
use Rattle.wt_text_edit_laws.proofs.Texts.TypedLeaves.{Leaf, letters, reference, guard, leaf_source, AreShut, leaf_tree}

-- from this number and place on
abbrev pub nodes : ℕ → List Item → List Leaf → Trees
nodes n before ls = all_cut_texts (all_with_numbers n (all_placed before (forest (map leaf_tree ls))))

abbrev pub next : ℕ → List Item → Leaf → ℕ
next n before l = n + count (placed before (leaf_tree l))

abbrev pub behind : List Item → Leaf → List Item
behind before l = before ++ tree_items (leaf_tree l)

-- ---- their source

pub chars_source : (bs : List ℕ) → sources (page_chars bs ++ []) ≡ bs
chars_source [] = refl
chars_source (b ∷ bs) = ap (λ cs. b ∷ cs) (chars_source bs)

pub nodes_flat : (n : ℕ) (before : List Item) (ls : List Leaf) → flat_of_all (nodes n before ls) ≡ flat_map leaf_source ls
unfolding label_at nowiki
nodes_flat n before [] = refl
nodes_flat n before (letters b bs ∷ ls) =
    let l : Leaf = letters b bs in
    ap (λ cs. cs ++ flat_of_all (nodes (next n before l) (behind before l) ls)) (chars_source (b ∷ bs))
    ∙ ap (λ cs. (b ∷ bs) ++ cs) (nodes_flat (next n before l) (behind before l) ls)
nodes_flat n before (reference c bs ∷ ls) =
    let l : Leaf = reference c bs in
    ap (λ cs. cs ++ flat_of_all (nodes (next n before l) (behind before l) ls)) (append-nil bs)
    ∙ ap (λ cs. bs ++ cs) (nodes_flat (next n before l) (behind before l) ls)
nodes_flat n before (guard ∷ ls) = ap (λ cs. nowiki ++ cs) (nodes_flat (next n before guard) (behind before guard) ls)

leaf_items : (l : Leaf) → sources (tree_items (leaf_tree l)) ≡ leaf_source l
unfolding nowiki
leaf_items (letters b bs) = chars_source (b ∷ bs)
leaf_items (reference c bs) = append-nil bs
leaf_items guard = refl

pub held_sources : (ls : List Leaf) → sources (held_by_all (forest (map leaf_tree ls))) ≡ flat_map leaf_source ls
held_sources [] = refl
held_sources (l ∷ ls) =
    flat_map-append source (tree_items (leaf_tree l)) (held_by_all (forest (map leaf_tree ls)))
    ∙ ap (λ cs. cs ++ sources (held_by_all (forest (map leaf_tree ls)))) (leaf_items l)
    ∙ ap (λ cs. leaf_source l ++ cs) (held_sources ls)

-- ---- no tag is left open

pub none_open : (n : ℕ) (before : List Item) (ls : List Leaf) → AreShut ls → any_ends_open (nodes n before ls) ≡ false
unfolding label_at nowiki
none_open n before [] h = refl
none_open n before (letters b bs ∷ ls) h = none_open (next n before (letters b bs)) (behind before (letters b bs)) ls h
none_open n before (reference c bs ∷ ls) h =
    let l : Leaf = reference c bs in
    ap (λ (o : Bool). o || any_ends_open (nodes (next n before l) (behind before l) ls)) (ap ends_open (append-nil bs) ∙ h.0)
    ∙ none_open (next n before l) (behind before l) ls h.1
none_open n before (guard ∷ ls) h = none_open (next n before guard) (behind before guard) ls h
