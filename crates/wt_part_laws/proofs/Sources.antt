-- A node has the source of its items.
use Rattle.std.proofs.Common.{◌≡◌, ℕ, Bool, true, false, List, ◌++◌, refl, sym, ap, ◌∙◌, append_assoc}
use Rattle.std.specs.Prelude.{if◌then◌else◌}
use Rattle.std.proofs.lemmas.Grind.{flat_map-append}
use Rattle.wt_tree.specs.Kinds.{is_leaf}
use Rattle.wt_tree.specs.Source.{flat, flat_of_all}
use Rattle.wt_tree.specs.Tree.{Trees}
use Rattle.wt_span.specs.Items.{Item, source, sources}
use Rattle.wt_inline.specs.ItemTree.{ItemTree, inner, ItemTrees, nothing, further, tree_items, held_by_all}
use Rattle.wt_annotated.specs.Labels.{if_leaf, if_inner, label_at}
use Rattle.wt_annotated.specs.Numbering.{with_numbers}
use Rattle.wt_annotated.specs.WithoutCalls.{inside_by, placed, all_placed}
use Rattle.wt_annotated.proofs.CutTexts.{cut_source}
use Rattle.wt_annotated.proofs.Tiles.{flat_numbered}
use Rattle.wt_part_laws.specs.Standing.{standing}

abbrev joins : (xs ys : List Item) → sources (xs ++ ys) ≡ sources xs ++ sources ys
joins xs ys = flat_map-append source xs ys

abbrev by_leaf : Bool → List ℕ → List ℕ → List ℕ
by_leaf leaf own parts = if leaf then own else parts

label_source : (leaf : Bool) (o own c : List Item) (us : Trees) → sources own ≡ sources o ++ flat_of_all us ++ sources c
    → by_leaf leaf (if_leaf leaf (sources own)) (if_inner leaf (sources o) ++ flat_of_all (inside_by leaf us) ++ if_inner leaf (sources c)) ≡ sources own
label_source true o own c us e = refl
label_source false o own c us e = sym e

mutual
  unfolding label_at

  placed_source : (before : List Item) (t : ItemTree) → flat (placed before t) ≡ sources (tree_items t)
  placed_source before (inner h o ts c) =
      let us : Trees = all_placed (before ++ o) ts in
      label_source (is_leaf h.kind) o (o ++ (held_by_all ts ++ c)) c us
      (joins o (held_by_all ts ++ c)
      ∙ ap (λ bs. sources o ++ bs) (joins (held_by_all ts) c ∙ ap (λ bs. bs ++ sources c) (sym (all_placed_source (before ++ o) ts)))
      ∙ sym (append_assoc (sources o) (flat_of_all us) (sources c)))

  all_placed_source : (before : List Item) (ts : ItemTrees) → flat_of_all (all_placed before ts) ≡ sources (held_by_all ts)
  all_placed_source before nothing = refl
  all_placed_source before (further t ts) =
      ap (λ bs. bs ++ flat_of_all (all_placed (before ++ tree_items t) ts)) (placed_source before t)
      ∙ ap (λ bs. sources (tree_items t) ++ bs) (all_placed_source (before ++ tree_items t) ts)
      ∙ sym (joins (tree_items t) (held_by_all ts))

pub standing_source : (n : ℕ) (before : List Item) (t : ItemTree) → flat (standing n before t) ≡ sources (tree_items t)
standing_source n before t = cut_source (with_numbers n (placed before t)) ∙ flat_numbered n (placed before t) ∙ placed_source before t
