-- The tree of prose: its blocks by numbers and places.
use Rattle.std.proofs.Common.{◌≡◌, ℕ, zero, suc, ◌+◌, true, Some, None, List, [], ◌∷◌, ◌++◌, map, refl, sym, ap, ◌∙◌}
use Rattle.std.specs.Prelude.{replicate}
use Rattle.std.specs.List.{flat_map}
use Rattle.wt_tree.specs.declared.kind.Kind.TheVariants as kind
use Rattle.wt_tree.specs.declared.kind.Mark.TheVariants as marks
use Rattle.wt_tree.specs.Tree.{Label, tree, Trees}
use Rattle.wt_span.specs.Items.{Item, sources}
use Rattle.wt_guards.specs.Guards.{nowiki}
use Rattle.wt_inline.specs.declared.loose.Loose.TheVariants.{Sep}
use Rattle.wt_inline.specs.ItemTree.{plain, ItemTree, inner, forest, tree_items, held_by_all}
use Rattle.wt_inline.specs.Parts.{loose_leaf}
use Rattle.wt_expand.specs.PageItems.{page_items}
use Rattle.wt_annotated.specs.Annotated.{annotated}
use Rattle.wt_annotated.specs.CutTexts.{cut_texts, all_cut_texts}
use Rattle.wt_annotated.specs.GroupData.{group_data}
use Rattle.wt_annotated.specs.Labels.{width, label_at}
use Rattle.wt_annotated.specs.Numbering.{count, all_with_numbers}
use Rattle.wt_annotated.specs.WithoutCalls.{annotated as annotated_plainly, placed, all_placed, holds_page, AllNonEmpty, IsPlain}
use Rattle.wt_annotated.proofs.AnnotatedTree.{without_calls}
use Rattle.wt_text_edit_laws.specs.LonePages.{page_chars}
use Rattle.wt_text_edit_laws.proofs.Texts.LoneTrees.{sized}
use Rattle.wt_text_edit_laws.proofs.Texts.TypedLeaves.{AreOwn, Leaf, letters, reference, guard, leaves, HasAny, leaf_tree, leaves_para, para_leaves}
use Rattle.wt_text_edit_laws.proofs.Texts.TypedShown.{AllOfPage, both_of_page, chars_of_page, leaves_of_page, none_empty}
use Rattle.wt_text_edit_laws.proofs.Texts.TypedNodes.{nodes}
use Rattle.wt_text_edit_laws.specs.ProsePages.{Passage}
use Rattle.wt_text_edit_laws.specs.ProseTrees.{separator, passage_blocks, prose_meaning, prose_body}

-- ---- by leaves

abbrev pub leaves_of : Passage → List Leaf
leaves_of p = leaves (page_items p.paragraph)

abbrev pub leafy : Passage → List ItemTree
leafy p = leaves_para (leaves_of p) ∷ separator p.breaks

-- all items are of the page, and each paragraph has one
abbrev pub AreWritten : List Passage → Type 0
AreWritten [] = Unit {0}
AreWritten (p ∷ ps) = AreOwn (page_items p.paragraph) × HasAny (leaves_of p) × AreWritten ps

as_leaves : (ps : List Passage) → AreWritten ps → flat_map passage_blocks ps ≡ flat_map leafy ps
as_leaves [] h = refl
as_leaves (p ∷ ps) h =
    ap (λ t. t ∷ (separator p.breaks ++ flat_map passage_blocks ps)) (para_leaves (page_items p.paragraph) h.0)
    ∙ ap (λ ts. leaves_para (leaves_of p) ∷ (separator p.breaks ++ ts)) (as_leaves ps h.2)

abbrev leafy_body : List Passage → ItemTree
leafy_body ps = inner (plain kind.Body) [] (forest (flat_map leafy ps)) []

meaning_leaves : (ps : List Passage) → AreWritten ps → prose_meaning ps ≡ leafy_body ps
meaning_leaves ps h = ap (λ ts. inner (plain kind.Body) [] (forest ts) []) (as_leaves ps h)

-- ---- all items are of the page, and no node is empty

seps_of_page : (n : ℕ) (ts : List ItemTree) → AllOfPage (held_by_all (forest ts)) → AllOfPage (held_by_all (forest (separator n ++ ts)))
seps_of_page zero ts h = h
seps_of_page (suc n) ts h =
    let xs : List Item = page_chars (replicate (suc n) 10) in
    both_of_page (xs ++ []) (held_by_all (forest ts)) (both_of_page xs [] (chars_of_page (replicate (suc n) 10)) refl) h

prose_of_page : (ps : List Passage) → AllOfPage (held_by_all (forest (flat_map leafy ps)))
prose_of_page [] = refl
prose_of_page (p ∷ ps) =
    let xs : List Item = held_by_all (forest (map leaf_tree (leaves_of p))) in
    both_of_page (xs ++ []) (held_by_all (forest (separator p.breaks ++ flat_map leafy ps))) (both_of_page xs [] (leaves_of_page (leaves_of p)) refl)
    (seps_of_page p.breaks (flat_map leafy ps) (prose_of_page ps))

para_full : (ls : List Leaf) → HasAny ls → holds_page (leaves_para ls) ≡ true
unfolding nowiki
para_full [] h = absurd h
para_full (letters b bs ∷ ls) h = refl
para_full (reference c bs ∷ ls) h = refl
para_full (guard ∷ ls) h = refl

seps_full : (n : ℕ) (ts : List ItemTree) → AllNonEmpty (forest ts) → AllNonEmpty (forest (separator n ++ ts))
seps_full zero ts h = h
seps_full (suc n) ts h = (refl, tt, h)

prose_full : (ps : List Passage) → AreWritten ps → AllNonEmpty (forest (flat_map leafy ps))
prose_full [] h = tt
prose_full (p ∷ ps) h = (para_full (leaves_of p) h.1, none_empty (leaves_of p), seps_full p.breaks (flat_map leafy ps) (prose_full ps h.2))

is_plain_prose : (ps : List Passage) → AreWritten ps → IsPlain (leafy_body ps)
is_plain_prose ps h = record {
  of_page = both_of_page (held_by_all (forest (flat_map leafy ps))) [] (prose_of_page ps) refl;
  none_empty = prose_full ps h;
}

pub prose_annotated : (ps : List Passage) → AreWritten ps → annotated [] (group_data []) (prose_meaning ps) ≡ prose_body ps
prose_annotated ps h =
    ap (annotated [] (group_data [])) (meaning_leaves ps h)
    ∙ without_calls [] (group_data []) (leafy_body ps) (is_plain_prose ps h)
    ∙ sym (ap (λ t. cut_texts (annotated_plainly t)) (meaning_leaves ps h))

-- ---- the blocks, from this number and place on

abbrev pub blocks_of : ℕ → List Item → List ItemTree → Trees
blocks_of n before ts = all_cut_texts (all_with_numbers n (all_placed before (forest ts)))

abbrev pub blocks_from : ℕ → List Item → List Passage → Trees
blocks_from n before ps = blocks_of n before (flat_map leafy ps)

pub prose_blocks : (ps : List Passage) → AreWritten ps
    → prose_body ps ≡ tree (sized kind.Body 0 (held_by_all (forest (flat_map leafy ps)) ++ []) [] []) (blocks_from 1 [] ps)
unfolding annotated_plainly label_at
prose_blocks ps h = ap (λ t. cut_texts (annotated_plainly t)) (meaning_leaves ps h)

-- ---- one block before others

abbrev pub held : List Leaf → List Item
held ls = held_by_all (forest (map leaf_tree ls))

abbrev pub para_label : ℕ → List Item → List Leaf → Label
para_label n before ls = record {
  kind = kind.Para;
  id = n;
  ranges = Some (record { start = width before; end = width before + width (held ls ++ []); open_w = 0; close_w = 0 });
  opening = [];
  closing = [];
  own = [];
  shown = [];
  attrs = [];
  origin = None;
  mark = marks.Nothing;
  mw = None;
}

abbrev pub para_nodes : ℕ → List Item → List Leaf → Trees
para_nodes n before ls = nodes (n + 1) (before ++ []) ls

-- the number and the place behind a block
abbrev pub number_behind : ℕ → List Item → ItemTree → ℕ
number_behind n before t = n + count (placed before t)

abbrev pub items_behind : List Item → ItemTree → List Item
items_behind before t = before ++ tree_items t

abbrev pub sep_items : ℕ → List Item
sep_items n = page_chars (replicate n 10)

abbrev pub sep_label : List Item → ℕ → Label
sep_label before n = record {
  kind = kind.Sep;
  id = 0;
  ranges = Some (record { start = width before; end = width before + width (sep_items n ++ []); open_w = 0; close_w = 0 });
  opening = [];
  closing = [];
  own = sources (sep_items n ++ []);
  shown = [];
  attrs = [];
  origin = None;
  mark = marks.Nothing;
  mw = None;
}

abbrev pub sep_tree : ℕ → ItemTree
sep_tree n = loose_leaf Sep (sep_items n)
