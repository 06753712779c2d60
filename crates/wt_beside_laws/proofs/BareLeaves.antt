-- Leaves hold nothing, also where texts are cut anew.
use Rattle.std.proofs.Common.{ℕ, Bool, true, false, Option, List, [], ◌∷◌, ◌++◌, length, refl, ap, ◌∙◌, cond}
use Rattle.std.specs.Prelude.{◌||◌, if◌then◌else◌}
use Rattle.wt_tree.specs.declared.kind.Ranges.{Ranges}
use Rattle.wt_tree.specs.declared.row.Texts.{Texts}
use Rattle.wt_tree.specs.declared.row.Texts.TheVariants.{Separators, Page, Bordered, OwnCharacter}
use Rattle.wt_tree.specs.Kinds.{is_leaf, texts_of_kind}
use Rattle.wt_tree.specs.Leaves.{text_leaf, sep_leaf}
use Rattle.wt_tree.specs.Tiling.{is_group}
use Rattle.wt_tree.specs.Tree.{Tree, tree, Trees, none, more, label}
use Rattle.wt_recut.specs.Recut.{is_blank, is_text, is_border, leads_to_block, front_ranges, rest_ranges, joined_ranges, text_onto, joined_texts, from_start, front_of, rest_of, parts_before, text_before, cut_from}
use Rattle.wt_span.specs.Items.{Item, sources}
use Rattle.wt_inline.specs.ItemTree.{ItemTree, inner, ItemTrees, nothing, further, tree_items}
use Rattle.wt_annotated.specs.CutTexts.{cut_as, cut_texts, all_cut_texts}
use Rattle.wt_annotated.specs.Labels.{if_inner, label_at}
use Rattle.wt_annotated.specs.WithoutCalls.{inside_by, placed, all_placed}
use Rattle.wt_annotated.proofs.CutNumbered.{nothing_cut}
use Rattle.wt_annotated.proofs.CutTexts.{leaf_text, BareInside, BareTexts, AllBareTexts}

-- ---- a tree before it has numbers

inside_bare : (g leaf : Bool) (us : Trees) → AllBareTexts us → BareInside g leaf (inside_by leaf us) (AllBareTexts (inside_by leaf us))
inside_bare true leaf us h = tt
inside_bare false true us h = refl
inside_bare false false us h = h

mutual
  unfolding label_at

  pub placed_bare : (before : List Item) (u : ItemTree) → BareTexts (placed before u)
  placed_bare before (inner h o ts c) = (
    λ e. ap (λ (v : Bool). if_inner v (sources c)) (leaf_text h.kind e),
    inside_bare (is_group h.kind) (is_leaf h.kind) (all_placed (before ++ o) ts) (all_placed_bare (before ++ o) ts),
  )

  all_placed_bare : (before : List Item) (ts : ItemTrees) → AllBareTexts (all_placed before ts)
  all_placed_bare before nothing = tt
  all_placed_bare before (further t ts) = (placed_bare before t, all_placed_bare (before ++ tree_items t) ts)

-- ---- leaves

-- a leaf that is no group holds nothing
abbrev mutual
  pub HasBareLeaves : Tree → Type 0
  HasBareLeaves (tree l ts) = BareInside (is_group l.kind) (is_leaf l.kind) ts (AllBareLeaves ts)

  pub AllBareLeaves : Trees → Type 0
  AllBareLeaves none = Unit {0}
  AllBareLeaves (more t ts) = HasBareLeaves t × AllBareLeaves ts

either : (v : Bool) (us vs : Trees) → AllBareLeaves us → AllBareLeaves vs → AllBareLeaves (cond v us vs)
either true us vs h k = h
either false us vs h k = k

onto_bare : (r : Option Ranges) (own : List ℕ) (ts : Trees) → AllBareLeaves ts → AllBareLeaves (text_onto r own ts)
onto_bare r [] ts h = h
onto_bare r (b ∷ bs) none h = (refl, tt)
onto_bare r (b ∷ bs) (more t ts) h =
    either (is_text t) (more (sep_leaf (joined_ranges r (label t).ranges) ((b ∷ bs) ++ (label t).own)) ts) (more (sep_leaf r (b ∷ bs)) (more t ts)) (refl, h.1) (refl, h)

joined_bare : (ts : Trees) → AllBareLeaves ts → AllBareLeaves (joined_texts ts)
joined_bare none h = tt
joined_bare (more t ts) h =
    let us : Trees = joined_texts ts in
    let k : AllBareLeaves us = joined_bare ts h.1 in
    either (is_text t) (text_onto (label t).ranges (label t).own us) (more t us) (onto_bare (label t).ranges (label t).own us k) (h.0, k)

one_leaf : (v : Bool) (r : Option Ranges) (bs : List ℕ) → HasBareLeaves (if v then sep_leaf r bs else text_leaf r bs)
one_leaf true r bs = refl
one_leaf false r bs = refl

parts_bare : (r : Option Ranges) (front rest : List ℕ) (ts : Trees) → AllBareLeaves ts → AllBareLeaves (parts_before r front rest ts)
parts_bare r front [] ts h = (refl, h)
parts_bare r [] (b ∷ bs) ts h = (one_leaf (is_blank (b ∷ bs)) r (b ∷ bs), h)
parts_bare r (c ∷ cs) (b ∷ bs) ts h =
    either (is_blank (b ∷ bs))
    (more (text_leaf (front_ranges (length (c ∷ cs)) r) (c ∷ cs)) (more (sep_leaf (rest_ranges (length (c ∷ cs)) r) (b ∷ bs)) ts))
    (more (text_leaf r ((c ∷ cs) ++ (b ∷ bs))) ts) (refl, (refl, h)) (refl, h)

cut_bare : (behind : Bool) (ts : Trees) → AllBareLeaves ts → AllBareLeaves (cut_from behind ts)
cut_bare behind none h = tt
cut_bare behind (more t ts) h =
    let us : Trees = cut_from (behind || is_border t) ts in
    let k : AllBareLeaves us = cut_bare (behind || is_border t) ts h.1 in
    let all : Bool = from_start behind (leads_to_block ts) (label t).own in
    either (is_text t) (text_before all (label t).ranges (label t).own us) (more t us)
    (parts_bare (label t).ranges (front_of all (label t).own) (rest_of all (label t).own) us k) (h.0, k)

as_bare : (x : Texts) (us : Trees) → AllBareLeaves us → AllBareLeaves (cut_as x us)
as_bare Separators us h = h
as_bare Page us h = h
as_bare Bordered us h = cut_bare false (joined_texts us) (joined_bare us h)
as_bare OwnCharacter us h = h

by_kind : (g leaf : Bool) (x : Texts) (ts : Trees) → BareInside g leaf ts (AllBareTexts ts) → (AllBareTexts ts → AllBareLeaves (all_cut_texts ts))
    → BareInside g leaf (cond g ts (cut_as x (all_cut_texts ts))) (AllBareLeaves (cond g ts (cut_as x (all_cut_texts ts))))
by_kind true leaf x ts b f = tt
by_kind false true x ts b f = ap (λ (us : Trees). cut_as x (all_cut_texts us)) b ∙ nothing_cut x
by_kind false false x ts b f = as_bare x (all_cut_texts ts) (f b)

mutual
  pub cut_leaves : (t : Tree) → BareTexts t → HasBareLeaves (cut_texts t)
  cut_leaves (tree l ts) b = by_kind (is_group l.kind) (is_leaf l.kind) (texts_of_kind l.kind) ts b.1 (all_cut_leaves ts)

  all_cut_leaves : (ts : Trees) → AllBareTexts ts → AllBareLeaves (all_cut_texts ts)
  all_cut_leaves none b = tt
  all_cut_leaves (more t ts) b = (cut_leaves t b.0, all_cut_leaves ts b.1)
