-- Nodes of several trees one after the other, and of one that holds others; and what they show.
use Rattle.std.proofs.Common.{◌≡◌, ℕ, ◌+◌, Bool, true, false, List, [], ◌∷◌, ◌++◌, length, refl, sym, ap, ◌∙◌, append-nil, append_assoc, length-append}
use Rattle.std.specs.Prelude.{if◌then◌else◌}
use Rattle.std.proofs.lemmas.Grind.{flat_map-append}
use Rattle.wt_tree.specs.declared.kind.Kind.{Kind}
use Rattle.wt_tree.specs.declared.row.Texts.{Texts}
use Rattle.wt_tree.specs.declared.row.Texts.TheVariants.{Separators, Page, Bordered, OwnCharacter}
use Rattle.wt_tree.specs.Kinds.{is_leaf, texts_of_kind}
use Rattle.wt_recut.specs.Recut.{is_text, shows_block}
use Rattle.wt_tree.specs.Tiling.{is_group}
use Rattle.wt_tree.specs.Tree.{Label, Tree, tree, Trees, more, label}
use Rattle.wt_span.specs.Items.{Item, source, sources}
use Rattle.wt_inline.specs.ItemTree.{Head, ItemTree, inner, ItemTrees, tree_items, held_by_all}
use Rattle.wt_annotated.specs.CutTexts.{cut_as, cut_texts, all_cut_texts}
use Rattle.wt_annotated.specs.Labels.{width, label_at}
use Rattle.wt_annotated.specs.Numbering.{number_of, next_after, with_id, with_numbers, all_with_numbers}
use Rattle.wt_annotated.specs.WithoutCalls.{inside_by, all_placed}
use Rattle.wt_part_laws.specs.Standing.{standing}
use Rattle.wt_text_edit_laws.proofs.Prose.ProseTrees.{blocks_of, number_behind, items_behind}
use Rattle.wt_text_edit_laws.proofs.Blocks.KeptBlocks.{blocks_source}
use Rattle.wt_called_edit_laws.proofs.Cells.Cuts.{beside, cut_front, cut_back, recut_round}

-- ---- nodes before others

abbrev pub number_after : ℕ → List Item → List ItemTree → ℕ
number_after n b [] = n
number_after n b (t ∷ ts) = number_after (number_behind n b t) (items_behind b t) ts

abbrev pub items_after : List Item → List ItemTree → List Item
items_after b [] = b
items_after b (t ∷ ts) = items_after (items_behind b t) ts

pub blocks_split : (n : ℕ) (b : List Item) (us vs : List ItemTree)
    → blocks_of n b (us ++ vs) ≡ beside (blocks_of n b us) (blocks_of (number_after n b us) (items_after b us) vs)
blocks_split n b [] vs = refl
blocks_split n b (t ∷ us) vs = ap (more (standing n b t)) (blocks_split (number_behind n b t) (items_behind b t) us vs)

pub sources_after : (b : List Item) (us : List ItemTree) → sources (items_after b us) ≡ sources b ++ blocks_source us
sources_after b [] = sym (append-nil (sources b))
sources_after b (t ∷ us) =
    sources_after (items_behind b t) us
    ∙ ap (λ bs. bs ++ blocks_source us) (flat_map-append source b (tree_items t))
    ∙ append_assoc (sources b) (sources (tree_items t)) (blocks_source us)

pub width_after : (b : List Item) (us : List ItemTree) → width (items_after b us) ≡ width b + length (blocks_source us)
width_after b us = ap length (sources_after b us) ∙ length-append (sources b) (blocks_source us)

-- ---- texts round a block

abbrev pub fore : Texts → Trees → Trees
fore Separators xs = xs
fore Page xs = xs
fore Bordered xs = cut_front xs
fore OwnCharacter xs = xs

abbrev pub aft : Texts → Trees → Trees
aft Separators xs = xs
aft Page xs = xs
aft Bordered xs = cut_back xs
aft OwnCharacter xs = xs

-- where texts are cut anew, the node is a block
abbrev pub AtBorder : Texts → Tree → Type 0
AtBorder Separators p = Unit {0}
AtBorder Page p = Unit {0}
AtBorder Bordered p = (is_text p ≡ false) × (shows_block p ≡ true)
AtBorder OwnCharacter p = Unit {0}

pub cut_round : (x : Texts) (xs : Trees) (p : Tree) (ds : Trees) → AtBorder x p → cut_as x (beside xs (more p ds)) ≡ beside (fore x xs) (more p (aft x ds))
cut_round Separators xs p ds h = refl
cut_round Page xs p ds h = refl
cut_round Bordered xs p ds h = recut_round xs p ds h.0 h.1
cut_round OwnCharacter xs p ds h = refl

-- ---- a node that holds others

abbrev pub holder_label : ℕ → List Item → Head → List Item → List Item → List Item → Label
holder_label n b h o own c = with_id (number_of h.kind n) (label_at (width b) 0 false h o own c)

abbrev pub kids : ℕ → List Item → Head → List Item → ItemTrees → Trees
kids n b h o ts = cut_as (texts_of_kind h.kind) (all_cut_texts (all_with_numbers (next_after h.kind n) (all_placed (b ++ o) ts)))

pub standing_inner : (n : ℕ) (b : List Item) (h : Head) (o : List Item) (ts : ItemTrees) (c : List Item) → is_leaf h.kind ≡ false → is_group h.kind ≡ false
    → standing n b (inner h o ts c) ≡ tree (holder_label n b h o (o ++ (held_by_all ts ++ c)) c) (kids n b h o ts)
unfolding label_at
standing_inner n b h o ts c leaf group =
    let own : List Item = o ++ (held_by_all ts ++ c) in
    let us : Trees = all_placed (b ++ o) ts in
    let m : ℕ = next_after h.kind n in
    ap (λ (v : Bool). cut_texts (with_numbers n (tree (label_at (width b) 0 v h o own c) (inside_by v us)))) leaf
    ∙ ap (λ (g : Bool). tree (holder_label n b h o own c) (if g then (if g then us else all_with_numbers m us) else
    cut_as (texts_of_kind h.kind) (all_cut_texts (if g then us else all_with_numbers m us)))) group

-- ---- what a holder is

pub record IsHolder (k : Kind) : Type 0 where
  pub leaf : is_leaf k ≡ false
  pub group : is_group k ≡ false

-- ---- what holds of it

pub same_label : (l m : Label) (ts us : Trees) → tree l ts ≡ tree m us → l ≡ m
same_label l m ts us e = ap label e

inside_trees : Tree → Trees
inside_trees (tree l ts) = ts

pub same_inside : (l m : Label) (ts us : Trees) → tree l ts ≡ tree m us → ts ≡ us
unfolding inside_trees
same_inside l m ts us e = ap inside_trees e
