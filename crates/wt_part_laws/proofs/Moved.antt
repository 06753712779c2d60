-- A node that is moved gets another number and another place, and is the same in all else.
use Rattle.std.proofs.Common.{◌≡◌, ℕ, ◌+◌, Bool, true, false, List, ◌++◌, refl, sym, ap, ap₂, ◌∙◌, cond}
use Rattle.wt_tree.specs.Kinds.{is_leaf}
use Rattle.wt_tree.specs.Plain.{Plains, plain_before}
use Rattle.wt_tree.specs.Tiling.{is_group}
use Rattle.wt_tree.specs.Tree.{Tree, tree, Trees, none, more}
use Rattle.wt_span.specs.Items.{Item}
use Rattle.wt_inline.specs.ItemTree.{ItemTree, inner, ItemTrees, nothing, further, tree_items, held_by_all}
use Rattle.wt_annotated.specs.CutTexts.{cut_texts}
use Rattle.wt_annotated.specs.Labels.{width, label_at}
use Rattle.wt_annotated.specs.Numbering.{next_after, count, with_numbers, all_with_numbers}
use Rattle.wt_annotated.specs.WithoutCalls.{inside_by, placed, all_placed}
use Rattle.wt_part_laws.specs.Standing.{standing}
use Rattle.wt_part_laws.specs.Placeless.{placeless_label, placeless, all_placeless}
use Rattle.wt_part_laws.proofs.Placeless.{shown_placeless}
use Rattle.wt_part_laws.proofs.Recuts.{texts_same}

-- ---- numbers

same_by : (v : Bool) (ts us : Trees) → all_placeless us ≡ all_placeless ts → all_placeless (cond v ts us) ≡ all_placeless ts
same_by true ts us e = refl
same_by false ts us e = e

mutual
  numbered_same : (n : ℕ) (t : Tree) → placeless (with_numbers n t) ≡ placeless t
  numbered_same n (tree l ts) =
      ap (tree (placeless_label l))
      (same_by (is_group l.kind) ts (all_with_numbers (next_after l.kind n) ts) (all_numbered_same (next_after l.kind n) ts))

  all_numbered_same : (n : ℕ) (ts : Trees) → all_placeless (all_with_numbers n ts) ≡ all_placeless ts
  all_numbered_same n none = refl
  all_numbered_same n (more t ts) = ap₂ more (numbered_same n t) (all_numbered_same (n + count t) ts)

-- ---- places

inside_same : (leaf : Bool) (us vs : Trees) → all_placeless us ≡ all_placeless vs → all_placeless (inside_by leaf us) ≡ all_placeless (inside_by leaf vs)
inside_same true us vs e = refl
inside_same false us vs e = e

mutual
  unfolding label_at

  placed_same : (before after : List Item) (t : ItemTree) → placeless (placed before t) ≡ placeless (placed after t)
  placed_same before after (inner h o ts c) =
      ap (tree (placeless_label (label_at (width before) 0 (is_leaf h.kind) h o (o ++ (held_by_all ts ++ c)) c)))
      (inside_same (is_leaf h.kind) (all_placed (before ++ o) ts) (all_placed (after ++ o) ts) (all_placed_same (before ++ o) (after ++ o) ts))

  all_placed_same : (before after : List Item) (ts : ItemTrees) → all_placeless (all_placed before ts) ≡ all_placeless (all_placed after ts)
  all_placed_same before after nothing = refl
  all_placed_same before after (further t ts) =
      ap₂ more (placed_same before after t) (all_placed_same (before ++ tree_items t) (after ++ tree_items t) ts)

-- ---- a node of a page

pub moved : (n m : ℕ) (before after : List Item) (t : ItemTree) → placeless (standing n before t) ≡ placeless (standing m after t)
moved n m before after t =
    texts_same (with_numbers n (placed before t))
    ∙ ap cut_texts (numbered_same n (placed before t) ∙ placed_same before after t ∙ sym (numbered_same m (placed after t)))
    ∙ sym (texts_same (with_numbers m (placed after t)))

pub shows_the_same : (n m : ℕ) (before after : List Item) (t : ItemTree) (rest : Plains)
    → plain_before (standing n before t) rest ≡ plain_before (standing m after t) rest
shows_the_same n m before after t rest =
    sym (shown_placeless (standing n before t) rest)
    ∙ ap (λ u. plain_before u rest) (moved n m before after t)
    ∙ shown_placeless (standing m after t) rest
