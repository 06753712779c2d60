-- Places, numbers and texts cut anew make no body, no section and no group.
use Rattle.std.proofs.Common.{◌≡◌, ℕ, ◌+◌, Bool, true, false, Option, List, [], ◌∷◌, ◌++◌, length, refl, ap, ◌∙◌, cond}
use Rattle.std.specs.Prelude.{◌||◌, if◌then◌else◌}
use Rattle.wt_tree.specs.declared.kind.Ranges.{Ranges}
use Rattle.wt_tree.specs.declared.row.Texts.{Texts}
use Rattle.wt_tree.specs.declared.row.Texts.TheVariants.{Separators, Page, Bordered, OwnCharacter}
use Rattle.wt_tree.specs.Kinds.{is_leaf, texts_of_kind}
use Rattle.wt_tree.specs.Leaves.{text_leaf, sep_leaf}
use Rattle.wt_recut.specs.Recut.{is_blank, is_text, is_border, leads_to_block, front_ranges, rest_ranges, joined_ranges, text_onto, joined_texts, from_start, front_of, rest_of, parts_before, text_before, cut_from}
use Rattle.wt_tree.specs.Tiling.{is_group, HasNoGroup, NoneIsGroup}
use Rattle.wt_tree.specs.Tree.{Tree, tree, Trees, none, more, label}
use Rattle.wt_span.specs.Items.{Item}
use Rattle.wt_checks.specs.PutBack.{has_frame, have_frame}
use Rattle.wt_inline.specs.ItemTree.{ItemTree, inner, ItemTrees, nothing, further, tree_items}
use Rattle.wt_annotated.specs.Annotated.{unplaced, all_unplaced}
use Rattle.wt_annotated.specs.CutTexts.{cut_as, cut_texts, all_cut_texts}
use Rattle.wt_annotated.specs.Labels.{label_at}
use Rattle.wt_annotated.specs.Numbering.{next_after, count, with_numbers, all_with_numbers}
use Rattle.wt_annotated.specs.WithoutCalls.{inside_by, placed, all_placed}
use Rattle.wt_part_laws.specs.Standing.{standing, IsOrdinary, AreOrdinary}

either : (v : Bool) (us vs : Trees) → AreOrdinary us → AreOrdinary vs → AreOrdinary (cond v us vs)
either true us vs h k = h
either false us vs h k = k

-- ---- joining and cutting

text_onto_ordinary : (r : Option Ranges) (own : List ℕ) (ts : Trees) → AreOrdinary ts → AreOrdinary (text_onto r own ts)
text_onto_ordinary r [] ts h = h
text_onto_ordinary r (b ∷ bs) none h = ((refl, refl, tt), tt)
text_onto_ordinary r (b ∷ bs) (more t ts) h =
    either (is_text t) (more (sep_leaf (joined_ranges r (label t).ranges) ((b ∷ bs) ++ (label t).own)) ts) (more (sep_leaf r (b ∷ bs)) (more t ts))
    ((refl, refl, tt), h.1) ((refl, refl, tt), h)

joined_ordinary : (ts : Trees) → AreOrdinary ts → AreOrdinary (joined_texts ts)
joined_ordinary none h = tt
joined_ordinary (more t ts) h =
    let us : Trees = joined_texts ts in
    let k : AreOrdinary us = joined_ordinary ts h.1 in
    either (is_text t) (text_onto (label t).ranges (label t).own us) (more t us) (text_onto_ordinary (label t).ranges (label t).own us k) (h.0, k)

one_leaf : (v : Bool) (r : Option Ranges) (bs : List ℕ) → IsOrdinary (if v then sep_leaf r bs else text_leaf r bs)
one_leaf true r bs = (refl, refl, tt)
one_leaf false r bs = (refl, refl, tt)

parts_ordinary : (r : Option Ranges) (front rest : List ℕ) (ts : Trees) → AreOrdinary ts → AreOrdinary (parts_before r front rest ts)
parts_ordinary r front [] ts h = ((refl, refl, tt), h)
parts_ordinary r [] (b ∷ bs) ts h = (one_leaf (is_blank (b ∷ bs)) r (b ∷ bs), h)
parts_ordinary r (c ∷ cs) (b ∷ bs) ts h =
    either (is_blank (b ∷ bs))
    (more (text_leaf (front_ranges (length (c ∷ cs)) r) (c ∷ cs)) (more (sep_leaf (rest_ranges (length (c ∷ cs)) r) (b ∷ bs)) ts))
    (more (text_leaf r ((c ∷ cs) ++ (b ∷ bs))) ts) ((refl, refl, tt), ((refl, refl, tt), h)) ((refl, refl, tt), h)

cut_ordinary : (behind : Bool) (ts : Trees) → AreOrdinary ts → AreOrdinary (cut_from behind ts)
cut_ordinary behind none h = tt
cut_ordinary behind (more t ts) h =
    let us : Trees = cut_from (behind || is_border t) ts in
    let k : AreOrdinary us = cut_ordinary (behind || is_border t) ts h.1 in
    let all : Bool = from_start behind (leads_to_block ts) (label t).own in
    either (is_text t) (text_before all (label t).ranges (label t).own us) (more t us)
    (parts_ordinary (label t).ranges (front_of all (label t).own) (rest_of all (label t).own) us k) (h.0, k)

as_ordinary : (x : Texts) (us : Trees) → AreOrdinary us → AreOrdinary (cut_as x us)
as_ordinary Separators us h = h
as_ordinary Page us h = h
as_ordinary Bordered us h = cut_ordinary false (joined_texts us) (joined_ordinary us h)
as_ordinary OwnCharacter us h = h

mutual
  texts_ordinary : (t : Tree) → IsOrdinary t → IsOrdinary (cut_texts t)
  texts_ordinary (tree l ts) h = (
    h.0,
    h.1,
    either (is_group l.kind) ts (cut_as (texts_of_kind l.kind) (all_cut_texts ts)) h.2
        (as_ordinary (texts_of_kind l.kind) (all_cut_texts ts) (all_texts_ordinary ts h.2)),
  )

  all_texts_ordinary : (ts : Trees) → AreOrdinary ts → AreOrdinary (all_cut_texts ts)
  all_texts_ordinary none h = tt
  all_texts_ordinary (more t ts) h = (texts_ordinary t h.0, all_texts_ordinary ts h.1)

-- ---- numbers

mutual
  numbered_ordinary : (n : ℕ) (t : Tree) → IsOrdinary t → IsOrdinary (with_numbers n t)
  numbered_ordinary n (tree l ts) h =
      (h.0, h.1, either (is_group l.kind) ts (all_with_numbers (next_after l.kind n) ts) h.2 (all_numbered_ordinary (next_after l.kind n) ts h.2))

  all_numbered_ordinary : (n : ℕ) (ts : Trees) → AreOrdinary ts → AreOrdinary (all_with_numbers n ts)
  all_numbered_ordinary n none h = tt
  all_numbered_ordinary n (more t ts) h = (numbered_ordinary n t h.0, all_numbered_ordinary (n + count t) ts h.1)

-- ---- places

inside_ordinary : (leaf : Bool) (us vs : Trees) → (AreOrdinary us → AreOrdinary vs) → AreOrdinary (inside_by leaf us) → AreOrdinary (inside_by leaf vs)
inside_ordinary true us vs f h = tt
inside_ordinary false us vs f h = f h

mutual
  unfolding label_at

  placed_ordinary : (before : List Item) (t : ItemTree) → IsOrdinary (unplaced t) → IsOrdinary (placed before t)
  placed_ordinary before (inner h o ts c) k =
      (k.0, k.1, inside_ordinary (is_leaf h.kind) (all_unplaced ts) (all_placed (before ++ o) ts) (all_placed_ordinary (before ++ o) ts) k.2)

  all_placed_ordinary : (before : List Item) (ts : ItemTrees) → AreOrdinary (all_unplaced ts) → AreOrdinary (all_placed before ts)
  all_placed_ordinary before nothing h = tt
  all_placed_ordinary before (further t ts) h = (placed_ordinary before t h.0, all_placed_ordinary (before ++ tree_items t) ts h.1)

pub standing_ordinary : (n : ℕ) (before : List Item) (t : ItemTree) → IsOrdinary (unplaced t) → IsOrdinary (standing n before t)
standing_ordinary n before t h = texts_ordinary (with_numbers n (placed before t)) (numbered_ordinary n (placed before t) (placed_ordinary before t h))

-- ---- in other words

mutual
  pub ordinary_ungrouped : (t : Tree) → IsOrdinary t → HasNoGroup t
  ordinary_ungrouped (tree l ts) h = (h.1, all_ordinary_ungrouped ts h.2)

  all_ordinary_ungrouped : (ts : Trees) → AreOrdinary ts → NoneIsGroup ts
  all_ordinary_ungrouped none h = tt
  all_ordinary_ungrouped (more t ts) h = (ordinary_ungrouped t h.0, all_ordinary_ungrouped ts h.1)

mutual
  pub ordinary_unframed : (t : Tree) → IsOrdinary t → has_frame t ≡ false
  ordinary_unframed (tree l ts) h = ap (λ (v : Bool). v || have_frame ts) h.0 ∙ all_ordinary_unframed ts h.2

  all_ordinary_unframed : (ts : Trees) → AreOrdinary ts → have_frame ts ≡ false
  all_ordinary_unframed none h = refl
  all_ordinary_unframed (more t ts) h = ap (λ (v : Bool). v || have_frame ts) (ordinary_unframed t h.0) ∙ all_ordinary_unframed ts h.1
