-- In a page's tree a leaf holds nothing, and what a group holds has no numbers and places.
use Rattle.std.proofs.Common.{◌≡◌, ℕ, Bool, true, false, Option, List, [], ◌∷◌, ◌++◌, length, refl, ap, ap₂, ◌∙◌}
use Rattle.std.specs.Prelude.{◌||◌, if◌then◌else◌}
use Rattle.wt_tree.specs.declared.kind.Kind.{Kind}
use Rattle.wt_tree.specs.declared.kind.Kind.TheVariants as kind
use Rattle.wt_tree.specs.declared.kind.Ranges.{Ranges}
use Rattle.wt_tree.specs.declared.node.DataMw.{DataMw}
use Rattle.wt_tree.specs.declared.row.Texts.{Texts}
use Rattle.wt_tree.specs.declared.row.Texts.TheVariants.{Separators, Page, Bordered, OwnCharacter}
use Rattle.wt_tree.specs.Kinds.{is_leaf, texts_of_kind}
use Rattle.wt_tree.specs.Leaves.{text_leaf, sep_leaf}
use Rattle.wt_tree.specs.Tiling.{is_group}
use Rattle.wt_tree.specs.Tree.{Label, Tree, tree, Trees, none, more, label}
use Rattle.wt_span.specs.Items.{Item}
use Rattle.wt_span.specs.Origins.{OuterCall}
use Rattle.wt_inline.specs.ItemTree.{ItemTree, inner, ItemTrees, nothing, further}
use Rattle.wt_recut.specs.Recut.{is_text, is_blank, is_border, leads_to_block, text_onto, joined_texts, from_start, front_of, rest_of, front_ranges, rest_ranges, joined_ranges, parts_before, cut_from}
use Rattle.wt_difference.specs.Unedited.{GroupOr}
use Rattle.wt_typed_blocks.proofs.SentGroups.{both_ways}
use Rattle.wt_annotated.specs.Annotated.{unplaced, all_unplaced, placed, all_placed}
use Rattle.wt_annotated.specs.CutTexts.{cut_as, cut_texts, all_cut_texts}
use Rattle.wt_annotated.specs.GroupParts.{Part}
use Rattle.wt_annotated.specs.Grouped.{Grouped, kept, group, GroupedAll, ended, along}
use Rattle.wt_annotated.specs.Labels.{label_at}
use Rattle.wt_annotated.specs.WithoutCalls.{inside_by}
use Rattle.wt_part_laws.specs.Placeless.{placeless, all_placeless}

-- a leaf holds nothing, and a group what has no numbers and places
abbrev mutual
  pub IsBare : Tree → Type 0
  IsBare (tree l ts) = GroupOr (is_group l.kind) (all_placeless ts ≡ ts) ((is_leaf l.kind ≡ true → ts ≡ none) × AreBare ts)

  pub AreBare : Trees → Type 0
  AreBare none = Unit {0}
  AreBare (more t ts) = IsBare t × AreBare ts

-- ---- what is in a group

inside_bare : (v : Bool) (ts : Trees) → all_placeless ts ≡ ts → all_placeless (inside_by v ts) ≡ inside_by v ts
inside_bare true ts e = refl
inside_bare false ts e = e

mutual
  unfolding label_at

  unplaced_bare : (t : ItemTree) → placeless (unplaced t) ≡ unplaced t
  unplaced_bare (inner h q ts c) = ap (tree (label (unplaced (inner h q ts c)))) (inside_bare (is_leaf h.kind) (all_unplaced ts) (all_unplaced_bare ts))

  all_unplaced_bare : (ts : ItemTrees) → all_placeless (all_unplaced ts) ≡ all_unplaced ts
  all_unplaced_bare nothing = refl
  all_unplaced_bare (further t ts) = ap₂ more (unplaced_bare t) (all_unplaced_bare ts)

-- ---- nodes by their groups

pub group_leaf : (k : Kind) → is_group k ≡ true → is_leaf k ≡ true
group_leaf kind.Group e = refl
group_leaf k e = absurd (cc)

by_leaf : (g v : Bool) (ts : Trees) → (g ≡ true → v ≡ true) → AreBare ts
    → GroupOr g (all_placeless (inside_by v ts) ≡ inside_by v ts) ((v ≡ true → inside_by v ts ≡ none) × AreBare (inside_by v ts))
by_leaf g true ts f h = both_ways g refl (λ e. refl, tt)
by_leaf true false ts f h = let no : false ≡ true = f refl in absurd (cc)
by_leaf false false ts f h = (λ e. absurd (cc), h)

mutual
  pub placed_bare : (calls : List OuterCall) (carried : List Part → Option DataMw) (all : List Item) (g : Grouped) → IsBare (placed calls carried all g)
  placed_bare calls carried all (kept h n o i c gs) =
      by_leaf (is_group h.kind) (is_leaf h.kind) (all_placed calls carried all gs) (group_leaf h.kind) (all_placed_bare calls carried all gs)
  placed_bare calls carried all (group n k ts) = all_unplaced_bare ts

  all_placed_bare : (calls : List OuterCall) (carried : List Part → Option DataMw) (all : List Item) (gs : GroupedAll) → AreBare (all_placed calls carried all gs)
  all_placed_bare calls carried all ended = tt
  all_placed_bare calls carried all (along g gs) = (placed_bare calls carried all g, all_placed_bare calls carried all gs)

-- ---- texts that are cut anew

sep_bare : (r : Option Ranges) (bs : List ℕ) → IsBare (sep_leaf r bs)
sep_bare r bs = (λ e. refl, tt)

text_bare : (r : Option Ranges) (bs : List ℕ) → IsBare (text_leaf r bs)
text_bare r bs = (λ e. refl, tt)

or_bare : (b : Bool) (ts us : Trees) → AreBare ts → AreBare us → AreBare (if b then ts else us)
or_bare true ts us h g = h
or_bare false ts us h g = g

one_bare : (b : Bool) (t u : Tree) → IsBare t → IsBare u → IsBare (if b then t else u)
one_bare true t u h g = h
one_bare false t u h g = g

text_onto_bare : (r : Option Ranges) (bs : List ℕ) (ts : Trees) → AreBare ts → AreBare (text_onto r bs ts)
text_onto_bare r [] ts h = h
text_onto_bare r (b ∷ bs) none h = (sep_bare r (b ∷ bs), tt)
text_onto_bare r (b ∷ bs) (more t ts) h =
    let joined : Tree = sep_leaf (joined_ranges r (label t).ranges) ((b ∷ bs) ++ (label t).own) in
    or_bare (is_text t) (more joined ts) (more (sep_leaf r (b ∷ bs)) (more t ts))
    (sep_bare (joined_ranges r (label t).ranges) ((b ∷ bs) ++ (label t).own), h.1) (sep_bare r (b ∷ bs), h)

joined_bare : (ts : Trees) → AreBare ts → AreBare (joined_texts ts)
joined_bare none h = tt
joined_bare (more t ts) h =
    let rest : Trees = joined_texts ts in
    or_bare (is_text t) (text_onto (label t).ranges (label t).own rest) (more t rest) (text_onto_bare (label t).ranges (label t).own rest (joined_bare ts h.1))
    (h.0, joined_bare ts h.1)

parts_bare : (r : Option Ranges) (front rest : List ℕ) (ts : Trees) → AreBare ts → AreBare (parts_before r front rest ts)
parts_bare r front [] ts h = (text_bare r front, h)
parts_bare r [] (b ∷ bs) ts h = (one_bare (is_blank (b ∷ bs)) (sep_leaf r (b ∷ bs)) (text_leaf r (b ∷ bs)) (sep_bare r (b ∷ bs)) (text_bare r (b ∷ bs)), h)
parts_bare r (c ∷ cs) (b ∷ bs) ts h =
    let n : ℕ = length (c ∷ cs) in
    or_bare (is_blank (b ∷ bs)) (more (text_leaf (front_ranges n r) (c ∷ cs)) (more (sep_leaf (rest_ranges n r) (b ∷ bs)) ts))
    (more (text_leaf r ((c ∷ cs) ++ (b ∷ bs))) ts)
    (text_bare (front_ranges n r) (c ∷ cs), (sep_bare (rest_ranges n r) (b ∷ bs), h)) (text_bare r ((c ∷ cs) ++ (b ∷ bs)), h)

cut_bare : (behind : Bool) (ts : Trees) → AreBare ts → AreBare (cut_from behind ts)
cut_bare behind none h = tt
cut_bare behind (more t ts) h =
    let all : Bool = from_start behind (leads_to_block ts) (label t).own in
    let rest : Trees = cut_from (behind || is_border t) ts in
    let own : List ℕ = (label t).own in
    or_bare (is_text t) (parts_before (label t).ranges (front_of all own) (rest_of all own) rest) (more t rest)
    (parts_bare (label t).ranges (front_of all own) (rest_of all own) rest (cut_bare (behind || is_border t) ts h.1))
    (h.0, cut_bare (behind || is_border t) ts h.1)

as_bare : (x : Texts) (ts : Trees) → AreBare ts → AreBare (cut_as x ts)
as_bare Separators ts h = h
as_bare Page ts h = h
as_bare Bordered ts h = cut_bare false (joined_texts ts) (joined_bare ts h)
as_bare OwnCharacter ts h = h

as_none : (x : Texts) → cut_as x none ≡ none
as_none Separators = refl
as_none Page = refl
as_none Bordered = refl
as_none OwnCharacter = refl

cut_by : (b : Bool) (l : Label) (ts us : Trees) → GroupOr b (all_placeless ts ≡ ts) ((is_leaf l.kind ≡ true → ts ≡ none) × AreBare ts)
    → (AreBare ts → AreBare us) → (ts ≡ none → us ≡ none)
    → GroupOr b (all_placeless (if b then ts else us) ≡ (if b then ts else us))
    ((is_leaf l.kind ≡ true → (if b then ts else us) ≡ none) × AreBare (if b then ts else us))
cut_by true l ts us h f g = h
cut_by false l ts us h f g = (λ e. g (h.0 e), f h.1)

mutual
  pub texts_bare : (t : Tree) → IsBare t → IsBare (cut_texts t)
  texts_bare (tree l ts) h =
      let x : Texts = texts_of_kind l.kind in
      cut_by (is_group l.kind) l ts (cut_as x (all_cut_texts ts)) h (λ k. as_bare x (all_cut_texts ts) (all_texts_bare ts k))
      (λ e. ap (λ (us : Trees). cut_as x (all_cut_texts us)) e ∙ as_none x)

  all_texts_bare : (ts : Trees) → AreBare ts → AreBare (all_cut_texts ts)
  all_texts_bare none h = tt
  all_texts_bare (more t ts) h = (texts_bare t h.0, all_texts_bare ts h.1)

-- ---- of a page, before its nodes are numbered

pub page_bare : (calls : List OuterCall) (carried : List Part → Option DataMw) (all : List Item) (g : Grouped) → IsBare (cut_texts (placed calls carried all g))
page_bare calls carried all g = texts_bare (placed calls carried all g) (placed_bare calls carried all g)
