-- What a group of a page holds has no place.
use Rattle.std.proofs.Common.{◌≡◌, ℕ, ◌+◌, Bool, true, false, Option, None, List, [], ◌∷◌, ◌++◌, length, refl}
use Rattle.std.specs.Prelude.{◌||◌, if◌then◌else◌}
use Rattle.wt_tree.specs.declared.kind.Kind.{Kind}
use Rattle.wt_tree.specs.declared.kind.Kind.TheVariants as kind
use Rattle.wt_tree.specs.declared.kind.Ranges.{Ranges}
use Rattle.wt_tree.specs.declared.row.Texts.{Texts}
use Rattle.wt_tree.specs.declared.row.Texts.TheVariants.{Separators, Page, Bordered, OwnCharacter}
use Rattle.wt_tree.specs.Kinds.{is_leaf, texts_of_kind}
use Rattle.wt_tree.specs.Leaves.{sep_leaf, text_leaf}
use Rattle.wt_tree.specs.Tiling.{is_group}
use Rattle.wt_tree.specs.Tree.{Tree, tree, Trees, none, more, label}
use Rattle.wt_span.specs.Items.{Item}
use Rattle.wt_span.specs.Origins.{OuterCall}
use Rattle.wt_inline.specs.ItemTree.{ItemTree, inner, ItemTrees, nothing, further, tree_items}
use Rattle.wt_recut.specs.Recut.{is_text, is_blank, is_border, leads_to_block, front_ranges, rest_ranges, joined_ranges, text_onto, joined_texts, from_start, front_of, rest_of, parts_before, text_before, cut_from}
use Rattle.wt_annotated.specs.WithoutCalls.{inside_by}
use Rattle.wt_annotated.specs.Grouped.{Grouped, kept, group, GroupedAll, ended, along, grouped}
use Rattle.wt_annotated.specs.CutTexts.{cut_as, cut_texts, all_cut_texts}
use Rattle.wt_annotated.specs.Numbering.{next_after, count, with_numbers, all_with_numbers}
use Rattle.wt_annotated.specs.Annotated.{unplaced, all_unplaced, placed, all_placed, annotated}
use Rattle.wt_annotated.specs.GroupData.{group_data}

-- no node among these has a place
abbrev mutual
  pub HasNone : Tree → Type 0
  HasNone (tree l ts) = (l.ranges ≡ None) × AllHaveNone ts

  pub AllHaveNone : Trees → Type 0
  AllHaveNone none = Unit {0}
  AllHaveNone (more t ts) = HasNone t × AllHaveNone ts

-- nor has one in a group
abbrev mutual
  pub NoneInGroups : Tree → Type 0
  NoneInGroups (tree l ts) = (is_group l.kind ≡ true → AllHaveNone ts) × (is_group l.kind ≡ false → AllNoneInGroups ts)

  pub AllNoneInGroups : Trees → Type 0
  AllNoneInGroups none = Unit {0}
  AllNoneInGroups (more t ts) = NoneInGroups t × AllNoneInGroups ts

-- ---- placed

inside_none : (b : Bool) (ts : Trees) → AllHaveNone ts → AllHaveNone (inside_by b ts)
inside_none true ts h = tt
inside_none false ts h = h

mutual
  unplaced_none : (t : ItemTree) → HasNone (unplaced t)
  unplaced_none (inner h o ts c) = (refl, inside_none (is_leaf h.kind) (all_unplaced ts) (all_unplaced_none ts))

  all_unplaced_none : (ts : ItemTrees) → AllHaveNone (all_unplaced ts)
  all_unplaced_none nothing = tt
  all_unplaced_none (further t ts) = (unplaced_none t, all_unplaced_none ts)

group_leaf : (k : Kind) → is_group k ≡ true → is_leaf k ≡ true
group_leaf kind.Group e = refl
group_leaf k e = absurd (cc)

inside_held : (b : Bool) (ts : Trees) → AllNoneInGroups ts → AllNoneInGroups (inside_by b ts)
inside_held true ts h = tt
inside_held false ts h = h

leaf_none : (b : Bool) (ts : Trees) → b ≡ true → AllHaveNone (inside_by b ts)
leaf_none true ts e = tt
leaf_none false ts e = absurd (cc)

mutual
  placed_held : (calls : List OuterCall) (all : List Item) (g : Grouped) → NoneInGroups (placed calls (group_data calls) all g)
  placed_held calls all (kept h n o i c gs) = (
    λ e. leaf_none (is_leaf h.kind) (all_placed calls (group_data calls) all gs) (group_leaf h.kind e),
    λ e. inside_held (is_leaf h.kind) (all_placed calls (group_data calls) all gs) (all_placed_held calls all gs),
  )
  placed_held calls all (group n k ts) = (λ e. all_unplaced_none ts, λ e. absurd (cc))

  all_placed_held : (calls : List OuterCall) (all : List Item) (gs : GroupedAll) → AllNoneInGroups (all_placed calls (group_data calls) all gs)
  all_placed_held calls all ended = tt
  all_placed_held calls all (along g gs) = (placed_held calls all g, all_placed_held calls all gs)

-- ---- cut anew

sep_held : (r : Option Ranges) (bs : List ℕ) → NoneInGroups (sep_leaf r bs)
sep_held r bs = (λ e. tt, λ e. tt)

text_held : (r : Option Ranges) (bs : List ℕ) → NoneInGroups (text_leaf r bs)
text_held r bs = (λ e. tt, λ e. tt)

onto_by : (b : Bool) (ts us : Trees) → AllNoneInGroups ts → AllNoneInGroups us → AllNoneInGroups (if b then ts else us)
onto_by true ts us f g = f
onto_by false ts us f g = g

onto_held : (r : Option Ranges) (bs : List ℕ) (ts : Trees) → AllNoneInGroups ts → AllNoneInGroups (text_onto r bs ts)
onto_held r [] ts h = h
onto_held r (b ∷ bs) none h = (sep_held r (b ∷ bs), tt)
onto_held r (b ∷ bs) (more t ts) h =
    onto_by (is_text t) (more (sep_leaf (joined_ranges r (label t).ranges) ((b ∷ bs) ++ (label t).own)) ts) (more (sep_leaf r (b ∷ bs)) (more t ts))
    (sep_held (joined_ranges r (label t).ranges) ((b ∷ bs) ++ (label t).own), h.1) (sep_held r (b ∷ bs), h)

joined_held : (ts : Trees) → AllNoneInGroups ts → AllNoneInGroups (joined_texts ts)
joined_held none h = tt
joined_held (more t ts) h =
    let rest = joined_held ts h.1 in
    onto_by (is_text t) (text_onto (label t).ranges (label t).own (joined_texts ts)) (more t (joined_texts ts))
    (onto_held (label t).ranges (label t).own (joined_texts ts) rest) (h.0, rest)

blank_held : (b : Bool) (r : Option Ranges) (bs : List ℕ) → NoneInGroups (if b then sep_leaf r bs else text_leaf r bs)
blank_held true r bs = sep_held r bs
blank_held false r bs = text_held r bs

parts_held : (r : Option Ranges) (front rest : List ℕ) (ts : Trees) → AllNoneInGroups ts → AllNoneInGroups (parts_before r front rest ts)
parts_held r front [] ts h = (text_held r front, h)
parts_held r [] (b ∷ bs) ts h = (blank_held (is_blank (b ∷ bs)) r (b ∷ bs), h)
parts_held r (c ∷ cs) (b ∷ bs) ts h =
    onto_by (is_blank (b ∷ bs))
    (more (text_leaf (front_ranges (length (c ∷ cs)) r) (c ∷ cs)) (more (sep_leaf (rest_ranges (length (c ∷ cs)) r) (b ∷ bs)) ts))
    (more (text_leaf r ((c ∷ cs) ++ (b ∷ bs))) ts)
    (text_held (front_ranges (length (c ∷ cs)) r) (c ∷ cs), (sep_held (rest_ranges (length (c ∷ cs)) r) (b ∷ bs), h))
    (text_held r ((c ∷ cs) ++ (b ∷ bs)), h)

cut_held : (behind : Bool) (ts : Trees) → AllNoneInGroups ts → AllNoneInGroups (cut_from behind ts)
cut_held behind none h = tt
cut_held behind (more t ts) h =
    let own = (label t).own in
    let all = from_start behind (leads_to_block ts) own in
    let rest = cut_from (behind || is_border t) ts in
    let g = cut_held (behind || is_border t) ts h.1 in
    onto_by (is_text t) (text_before all (label t).ranges own rest) (more t rest)
    (parts_held (label t).ranges (front_of all own) (rest_of all own) rest g) (h.0, g)

cut_as_held : (x : Texts) (ts : Trees) → AllNoneInGroups ts → AllNoneInGroups (cut_as x ts)
cut_as_held Separators ts h = h
cut_as_held Page ts h = h
cut_as_held Bordered ts h = cut_held false (joined_texts ts) (joined_held ts h)
cut_as_held OwnCharacter ts h = h

if_true : (b : Bool) (ts us : Trees) → b ≡ true → AllHaveNone ts → AllHaveNone (if b then ts else us)
if_true true ts us e h = h
if_true false ts us e h = absurd (cc)

if_false : (b : Bool) (ts us : Trees) → b ≡ false → AllNoneInGroups us → AllNoneInGroups (if b then ts else us)
if_false true ts us e h = absurd (cc)
if_false false ts us e h = h

mutual
  texts_held : (t : Tree) → NoneInGroups t → NoneInGroups (cut_texts t)
  texts_held (tree l ts) h =
      let us = cut_as (texts_of_kind l.kind) (all_cut_texts ts) in (
        λ e. if_true (is_group l.kind) ts us e (h.0 e),
        λ e. if_false (is_group l.kind) ts us e (cut_as_held (texts_of_kind l.kind) (all_cut_texts ts) (all_texts_held ts (h.1 e))),
      )

  all_texts_held : (ts : Trees) → AllNoneInGroups ts → AllNoneInGroups (all_cut_texts ts)
  all_texts_held none h = tt
  all_texts_held (more t ts) h = (texts_held t h.0, all_texts_held ts h.1)

-- ---- numbered

mutual
  numbers_held : (n : ℕ) (t : Tree) → NoneInGroups t → NoneInGroups (with_numbers n t)
  numbers_held n (tree l ts) h =
      let us = all_with_numbers (next_after l.kind n) ts in (
        λ e. if_true (is_group l.kind) ts us e (h.0 e),
        λ e. if_false (is_group l.kind) ts us e (all_numbers_held (next_after l.kind n) ts (h.1 e)),
      )

  all_numbers_held : (n : ℕ) (ts : Trees) → AllNoneInGroups ts → AllNoneInGroups (all_with_numbers n ts)
  all_numbers_held n none h = tt
  all_numbers_held n (more t ts) h = (numbers_held n t h.0, all_numbers_held (n + count t) ts h.1)

pub annotated_held : (calls : List OuterCall) (t : ItemTree) → NoneInGroups (annotated calls (group_data calls) t)
unfolding annotated
annotated_held calls t =
    numbers_held 1 (cut_texts (placed calls (group_data calls) (tree_items t) (grouped (tree_items t) 0 t)))
    (texts_held (placed calls (group_data calls) (tree_items t) (grouped (tree_items t) 0 t))
    (placed_held calls (tree_items t) (grouped (tree_items t) 0 t)))
