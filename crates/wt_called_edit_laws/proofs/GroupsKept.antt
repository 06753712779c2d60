-- Texts cut anew and numbers leave the groups of a tree where they are.
use Rattle.std.proofs.Common.{◌≡◌, ℕ, ◌+◌, Bool, true, false, Option, None, List, [], ◌∷◌, ◌++◌, length, refl, sym, subst, cond}
use Rattle.std.specs.Prelude.{◌||◌}
use Rattle.wt_tree.specs.declared.kind.Kind.{Kind}
use Rattle.wt_tree.specs.declared.kind.Kind.TheVariants as kind
use Rattle.wt_tree.specs.declared.kind.Ranges.{Ranges}
use Rattle.wt_tree.specs.declared.node.DataMw.{DataMw}
use Rattle.wt_tree.specs.declared.row.Texts.{Texts}
use Rattle.wt_tree.specs.declared.row.Texts.TheVariants.{Separators, Page, Bordered, OwnCharacter}
use Rattle.wt_tree.specs.Kinds.{is_leaf, writing, texts_of_kind}
use Rattle.wt_tree.specs.Leaves.{text_leaf, sep_leaf}
use Rattle.wt_tree.specs.Tiling.{is_group}
use Rattle.wt_tree.specs.Tree.{Tree, tree, Trees, none, more, label}
use Rattle.wt_span.specs.Items.{Item}
use Rattle.wt_span.specs.Origins.{OuterCall}
use Rattle.wt_inline.specs.ItemTree.{ItemTree, tree_items}
use Rattle.wt_recut.specs.Recut.{is_as_text, is_text, is_blank, is_border, leads_to_block, text_onto, joined_texts, from_start, front_of, rest_of, front_ranges, rest_ranges, joined_ranges, parts_before, text_before, cut_from}
use Rattle.wt_annotated.specs.Annotated.{placed, all_placed, annotated}
use Rattle.wt_annotated.specs.CutTexts.{cut_as, cut_texts, all_cut_texts}
use Rattle.wt_annotated.specs.GroupParts.{Part}
use Rattle.wt_annotated.specs.Grouped.{Grouped, kept, group, GroupedAll, ended, along, grouped}
use Rattle.wt_annotated.specs.Numbering.{next_after, count, with_numbers, all_with_numbers}
use Rattle.wt_annotated.specs.Walked.{walked}
use Rattle.wt_annotated.specs.WithoutCalls.{inside_by}
use Rattle.wt_annotated.proofs.Walks.{walk_all}
use Rattle.wt_called_edit_laws.specs.Covered.{IsBeside, IfGroup, NoGroupAt, NoneGroupAt}

-- ---- texts hold nothing

abbrev mutual
  IsBare : Tree → Type 0
  IsBare (tree l ts) = IfGroup (is_group l.kind) (Unit {0}) ((is_as_text (writing l.kind) ≡ true → ts ≡ none) × AreBare ts)

  AreBare : Trees → Type 0
  AreBare none = Unit {0}
  AreBare (more t ts) = IsBare t × AreBare ts

text_kind : (k : Kind) → is_as_text (writing k) ≡ true → is_group k ≡ false
text_kind kind.Group e = absurd cc
text_kind k e = refl

text_leaf_kind : (k : Kind) → is_as_text (writing k) ≡ true → is_leaf k ≡ true
text_leaf_kind kind.Text e = refl
text_leaf_kind kind.Sep e = refl
text_leaf_kind k e = absurd cc

if_else : (v : Bool) (A B : Type 0) → B → A → IfGroup v A B
if_else true A B b a = a
if_else false A B b a = b

none_by : (v : Bool) (ts : Trees) → v ≡ true → inside_by v ts ≡ none
none_by true ts e = refl
none_by false ts e = let no : false ≡ true = e in absurd (cc)

bare_by : (v : Bool) (ts : Trees) → AreBare ts → AreBare (inside_by v ts)
bare_by true ts h = tt
bare_by false ts h = h

mutual
  placed_bare : (calls : List OuterCall) (carried : List Part → Option DataMw) (all : List Item) (g : Grouped) → IsBare (placed calls carried all g)
  placed_bare calls carried all (kept h n o i c gs) =
      let ts : Trees = all_placed calls carried all gs in
      if_else (is_group h.kind) (Unit {0}) ((is_as_text (writing h.kind) ≡ true → inside_by (is_leaf h.kind) ts ≡ none) × AreBare (inside_by (is_leaf h.kind) ts))
      (λ e. none_by (is_leaf h.kind) ts (text_leaf_kind h.kind e), bare_by (is_leaf h.kind) ts (all_placed_bare calls carried all gs)) tt
  placed_bare calls carried all (group n k ts) = tt

  all_placed_bare : (calls : List OuterCall) (carried : List Part → Option DataMw) (all : List Item) (gs : GroupedAll) → AreBare (all_placed calls carried all gs)
  all_placed_bare calls carried all ended = tt
  all_placed_bare calls carried all (along g gs) = (placed_bare calls carried all g, all_placed_bare calls carried all gs)

-- ---- numbers

back_by : (v : Bool) (A : Type 0) (b : ℕ) (ts us : Trees) → (NoneGroupAt b us → NoneGroupAt b ts) → IfGroup v A (NoneGroupAt b (cond v ts us))
    → IfGroup v A (NoneGroupAt b ts)
back_by true A b ts us f h = h
back_by false A b ts us f h = f h

mutual
  numbers_back : (b n : ℕ) (t : Tree) → NoGroupAt b (with_numbers n t) → NoGroupAt b t
  numbers_back b n (tree l ts) h =
      back_by (is_group l.kind) (IsBeside b l.ranges) b ts (all_with_numbers (next_after l.kind n) ts) (all_numbers_back b (next_after l.kind n) ts) h

  all_numbers_back : (b n : ℕ) (ts : Trees) → NoneGroupAt b (all_with_numbers n ts) → NoneGroupAt b ts
  all_numbers_back b n none h = tt
  all_numbers_back b n (more t ts) h = (numbers_back b n t h.0, all_numbers_back b (n + count t) ts h.1)

-- ---- texts cut anew

-- no text among these nodes holds a group with this byte
abbrev TextsFree : ℕ → Trees → Type 0
TextsFree b none = Unit {0}
TextsFree b (more t ts) = (is_text t ≡ true → NoGroupAt b t) × TextsFree b ts

either_back : (v : Bool) (b : ℕ) (us vs ts : Trees) → (v ≡ true → NoneGroupAt b us → NoneGroupAt b ts) → (v ≡ false → NoneGroupAt b vs → NoneGroupAt b ts)
    → NoneGroupAt b (cond v us vs) → NoneGroupAt b ts
either_back true b us vs ts f g h = f refl h
either_back false b us vs ts f g h = g refl h

onto_back : (b : ℕ) (r : Option Ranges) (own : List ℕ) (ts : Trees) → TextsFree b ts → NoneGroupAt b (text_onto r own ts) → NoneGroupAt b ts
onto_back b r [] ts w h = h
onto_back b r (c ∷ cs) none w h = tt
onto_back b r (c ∷ cs) (more t ts) w h =
    either_back (is_text t) b (more (sep_leaf (joined_ranges r (label t).ranges) ((c ∷ cs) ++ (label t).own)) ts) (more (sep_leaf r (c ∷ cs)) (more t ts)) (more t ts)
    (λ e k. (w.0 e, k.1)) (λ e k. k.1) h

free_by : (v : Bool) (b : ℕ) (us vs : Trees) → TextsFree b us → TextsFree b vs → TextsFree b (cond v us vs)
free_by true b us vs h g = h
free_by false b us vs h g = g

onto_free : (b : ℕ) (r : Option Ranges) (own : List ℕ) (ts : Trees) → TextsFree b ts → TextsFree b (text_onto r own ts)
onto_free b r [] ts w = w
onto_free b r (c ∷ cs) none w = (λ e. tt, tt)
onto_free b r (c ∷ cs) (more t ts) w =
    free_by (is_text t) b (more (sep_leaf (joined_ranges r (label t).ranges) ((c ∷ cs) ++ (label t).own)) ts) (more (sep_leaf r (c ∷ cs)) (more t ts))
    (λ e. tt, w.1) (λ e. tt, w)

joined_free : (b : ℕ) (ts : Trees) → TextsFree b ts → TextsFree b (joined_texts ts)
joined_free b none w = tt
joined_free b (more t ts) w =
    let us : Trees = joined_texts ts in
    let k : TextsFree b us = joined_free b ts w.1 in
    free_by (is_text t) b (text_onto (label t).ranges (label t).own us) (more t us) (onto_free b (label t).ranges (label t).own us k) (w.0, k)

joined_back : (b : ℕ) (ts : Trees) → TextsFree b ts → NoneGroupAt b (joined_texts ts) → NoneGroupAt b ts
joined_back b none w h = tt
joined_back b (more t ts) w h =
    let us : Trees = joined_texts ts in
    either_back (is_text t) b (text_onto (label t).ranges (label t).own us) (more t us) (more t ts)
    (λ e k. (w.0 e, joined_back b ts w.1 (onto_back b (label t).ranges (label t).own us (joined_free b ts w.1) k)))
    (λ e k. (k.0, joined_back b ts w.1 k.1)) h

parts_back : (b : ℕ) (r : Option Ranges) (front rest : List ℕ) (ts : Trees) → NoneGroupAt b (parts_before r front rest ts) → NoneGroupAt b ts
parts_back b r front [] ts h = h.1
parts_back b r [] (c ∷ cs) ts h = h.1
parts_back b r (d ∷ ds) (c ∷ cs) ts h =
    either_back (is_blank (c ∷ cs)) b
    (more (text_leaf (front_ranges (length (d ∷ ds)) r) (d ∷ ds)) (more (sep_leaf (rest_ranges (length (d ∷ ds)) r) (c ∷ cs)) ts))
    (more (text_leaf r ((d ∷ ds) ++ (c ∷ cs))) ts) ts (λ e k. k.1.1) (λ e k. k.1) h

cut_back : (b : ℕ) (behind : Bool) (ts : Trees) → TextsFree b ts → NoneGroupAt b (cut_from behind ts) → NoneGroupAt b ts
cut_back b behind none w h = tt
cut_back b behind (more t ts) w h =
    let us : Trees = cut_from (behind || is_border t) ts in
    let all : Bool = from_start behind (leads_to_block ts) (label t).own in
    either_back (is_text t) b (text_before all (label t).ranges (label t).own us) (more t us) (more t ts)
    (λ e k. (w.0 e, cut_back b (behind || is_border t) ts w.1 (parts_back b (label t).ranges (front_of all (label t).own) (rest_of all (label t).own) us k)))
    (λ e k. (k.0, cut_back b (behind || is_border t) ts w.1 k.1)) h

as_back : (b : ℕ) (x : Texts) (us : Trees) → TextsFree b us → NoneGroupAt b (cut_as x us) → NoneGroupAt b us
as_back b Separators us w h = h
as_back b Page us w h = h
as_back b Bordered us w h = joined_back b us w (cut_back b false (joined_texts us) (joined_free b us w) h)
as_back b OwnCharacter us w h = h

-- a text that is cut still holds nothing
none_cut : (b : ℕ) (x : Texts) → NoneGroupAt b (cut_as x none)
none_cut b Separators = tt
none_cut b Page = tt
none_cut b Bordered = tt
none_cut b OwnCharacter = tt

text_none : (b : ℕ) (v : Bool) (A : Type 0) (x : Texts) (ts : Trees) → v ≡ false → ts ≡ none → IfGroup v A (NoneGroupAt b (cond v ts (cut_as x (all_cut_texts ts))))
text_none b true A x ts e f = let no : true ≡ false = e in absurd (cc)
text_none b false A x ts e f = subst (λ us. NoneGroupAt b (cut_as x (all_cut_texts us))) (sym f) (none_cut b x)

bare_text : (v : Bool) (k : Kind) (ts : Trees) → v ≡ false → IfGroup v (Unit {0}) ((is_as_text (writing k) ≡ true → ts ≡ none) × AreBare ts)
    → is_as_text (writing k) ≡ true → ts ≡ none
bare_text true k ts e h = let no : true ≡ false = e in absurd (cc)
bare_text false k ts e h = h.0

texts_free : (b : ℕ) (ts : Trees) → AreBare ts → TextsFree b (all_cut_texts ts)
texts_free b none h = tt
texts_free b (more (tree l us) ts) h = (
  λ e.
      let g : is_group l.kind ≡ false = text_kind l.kind e in
      text_none b (is_group l.kind) (IsBeside b l.ranges) (texts_of_kind l.kind) us g (bare_text (is_group l.kind) l.kind us g h.0 e),
  texts_free b ts h.1,
)

inside_back : (v : Bool) (A C : Type 0) (b : ℕ) (x : Texts) (ts : Trees) → (AreBare ts → NoneGroupAt b (all_cut_texts ts) → NoneGroupAt b ts)
    → IfGroup v (Unit {0}) (C × AreBare ts) → IfGroup v A (NoneGroupAt b (cond v ts (cut_as x (all_cut_texts ts)))) → IfGroup v A (NoneGroupAt b ts)
inside_back true A C b x ts f s h = h
inside_back false A C b x ts f s h = f s.1 (as_back b x (all_cut_texts ts) (texts_free b ts s.1) h)

mutual
  texts_back : (b : ℕ) (t : Tree) → IsBare t → NoGroupAt b (cut_texts t) → NoGroupAt b t
  texts_back b (tree l ts) s h =
      inside_back (is_group l.kind) (IsBeside b l.ranges) (is_as_text (writing l.kind) ≡ true → ts ≡ none) b (texts_of_kind l.kind) ts (all_texts_back b ts) s h

  all_texts_back : (b : ℕ) (ts : Trees) → AreBare ts → NoneGroupAt b (all_cut_texts ts) → NoneGroupAt b ts
  all_texts_back b none s h = tt
  all_texts_back b (more t ts) s h = (texts_back b t s.0 h.0, all_texts_back b ts s.1 h.1)

-- ---- the page's tree

pub walk_free : (calls : List OuterCall) (carried : List Part → Option DataMw) (t : ItemTree) (b : ℕ) → NoGroupAt b (annotated calls carried t)
    → NoGroupAt b (walked calls carried None 0 None t)
unfolding annotated
walk_free calls carried t b h =
    let all : List Item = tree_items t in
    let u : Tree = placed calls carried all (grouped all 0 t) in
    subst (NoGroupAt b) (sym (walk_all calls carried t))
    (texts_back b u (placed_bare calls carried all (grouped all 0 t)) (numbers_back b 1 (cut_texts u) h))
