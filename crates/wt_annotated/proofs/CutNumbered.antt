-- Texts have no numbers: cutting them anew and giving numbers can change places.
use Rattle.std.proofs.Common.{◌≡◌, ℕ, ◌+◌, Bool, true, false, Option, List, [], ◌∷◌, ◌++◌, length, refl, sym, ap, ap₂, ◌∙◌, subst, cond, arith}
use Rattle.std.specs.Prelude.{◌||◌, ◌&&◌}
use Rattle.wt_tree.specs.declared.kind.Kind.{Kind}
use Rattle.wt_tree.specs.declared.kind.Kind.TheVariants as kind
use Rattle.wt_tree.specs.declared.kind.Ranges.{Ranges}
use Rattle.wt_tree.specs.declared.row.Texts.{Texts}
use Rattle.wt_tree.specs.declared.row.Texts.TheVariants.{Separators, Page, Bordered, OwnCharacter}
use Rattle.wt_tree.specs.Kinds.{writing, is_leaf, is_numbered, is_block, texts_of_kind}
use Rattle.wt_tree.specs.Leaves.{text_leaf, sep_leaf}
use Rattle.wt_recut.specs.Recut.{is_as_text, is_blank, is_text, is_border, is_passed, shows_block, any_shows_block, leads_to_block, front_ranges, rest_ranges, joined_ranges, text_onto, joined_texts, has_break, from_start, front_of, rest_of, parts_before, text_before, cut_from}
use Rattle.wt_tree.specs.Tiling.{is_group}
use Rattle.wt_tree.specs.Tree.{Label, Tree, tree, Trees, none, more, label}
use Rattle.wt_annotated.specs.Numbering.{next_after, count, count_all, with_numbers, all_with_numbers}
use Rattle.wt_annotated.specs.CutTexts.{cut_as, cut_texts, all_cut_texts}
use Rattle.wt_annotated.proofs.CutNumbers.{cut_texts_few}
use Rattle.wt_annotated.proofs.CutTexts.{leaf_text, BareInside, BareTexts, AllBareTexts}

-- ---- texts have no numbers

text_unnumbered : (k : Kind) → is_as_text (writing k) ≡ true → is_numbered k ≡ false
text_unnumbered kind.Text e = refl
text_unnumbered kind.Sep e = refl
text_unnumbered k e = absurd (subst (λ (b : Bool). cond b ⊥ (Unit {0})) e tt)

pub text_no_group : (k : Kind) → is_as_text (writing k) ≡ true → is_group k ≡ false
text_no_group kind.Text e = refl
text_no_group kind.Sep e = refl
text_no_group k e = absurd (subst (λ (b : Bool). cond b ⊥ (Unit {0})) e tt)

pub is_bare : (g leaf : Bool) (ts : Trees) (A : Type 0) → g ≡ false → leaf ≡ true → BareInside g leaf ts A → ts ≡ none
is_bare true leaf ts A e f b = cc
is_bare false true ts A e f b = b
is_bare false false ts A e f b = cc

-- a text counts none
abbrev CountsNone : Tree → Type 0
CountsNone t = is_text t ≡ true → count t ≡ 0

abbrev AllCountNone : Trees → Type 0
AllCountNone none = Unit {0}
AllCountNone (more t ts) = CountsNone t × AllCountNone ts

bare_count : (n g : Bool) (ts : Trees) → n ≡ false → g ≡ false → ts ≡ none → cond n 1 0 + cond g 0 (count_all ts) ≡ 0
bare_count true g ts e f b = cc
bare_count false true ts e f b = cc
bare_count false false ts e f b = omega (arith, ap count_all b)

bare_counts : (t : Tree) → BareTexts t → CountsNone t
bare_counts (tree l ts) b e =
    bare_count (is_numbered l.kind) (is_group l.kind) ts (text_unnumbered l.kind e) (text_no_group l.kind e)
    (is_bare (is_group l.kind) (is_leaf l.kind) ts (AllBareTexts ts) (text_no_group l.kind e) (leaf_text l.kind e) b.1)

cut_counts : (t : Tree) → CountsNone t → CountsNone (cut_texts t)
cut_counts (tree l ts) z e = let f = cut_texts_few (tree l ts) in omega (arith, z e, f)

all_cut_counts : (ts : Trees) → AllBareTexts ts → AllCountNone (all_cut_texts ts)
all_cut_counts none b = tt
all_cut_counts (more t ts) b = (cut_counts t (bare_counts t b.0), all_cut_counts ts b.1)

-- ---- as many numbers

onto_count : (v : Bool) (r s : Option Ranges) (own bs : List ℕ) (t : Tree) (ts : Trees) → (v ≡ true → count t ≡ 0)
    → count_all (cond v (more (sep_leaf s bs) ts) (more (sep_leaf r own) (more t ts))) ≡ count_all (more t ts)
onto_count true r s own bs t ts z = omega (arith, z refl)
onto_count false r s own bs t ts z = omega arith

text_onto_count : (r : Option Ranges) (own : List ℕ) (ts : Trees) → AllCountNone ts → count_all (text_onto r own ts) ≡ count_all ts
text_onto_count r [] ts z = refl
text_onto_count r (b ∷ bs) none z = omega arith
text_onto_count r (b ∷ bs) (more t ts) z =
    onto_count (is_text t) r (joined_ranges r (label t).ranges) (b ∷ bs) ((b ∷ bs) ++ (label t).own) t ts z.0

onto_none : (v : Bool) (r s : Option Ranges) (own bs : List ℕ) (t : Tree) (ts : Trees) → AllCountNone (more t ts)
    → AllCountNone (cond v (more (sep_leaf s bs) ts) (more (sep_leaf r own) (more t ts)))
onto_none true r s own bs t ts z = (λ e. omega arith, z.1)
onto_none false r s own bs t ts z = (λ e. omega arith, z)

text_onto_none : (r : Option Ranges) (own : List ℕ) (ts : Trees) → AllCountNone ts → AllCountNone (text_onto r own ts)
text_onto_none r [] ts z = z
text_onto_none r (b ∷ bs) none z = (λ e. omega arith, tt)
text_onto_none r (b ∷ bs) (more t ts) z =
    onto_none (is_text t) r (joined_ranges r (label t).ranges) (b ∷ bs) ((b ∷ bs) ++ (label t).own) t ts z

joined_none_by : (v : Bool) (t : Tree) (ts : Trees) → CountsNone t → AllCountNone ts
    → AllCountNone (cond v (text_onto (label t).ranges (label t).own ts) (more t ts))
joined_none_by true t ts y z = text_onto_none (label t).ranges (label t).own ts z
joined_none_by false t ts y z = (y, z)

joined_none : (ts : Trees) → AllCountNone ts → AllCountNone (joined_texts ts)
joined_none none z = tt
joined_none (more t ts) z = joined_none_by (is_text t) t (joined_texts ts) z.0 (joined_none ts z.1)

joined_count_by : (v : Bool) (t : Tree) (ts : Trees) → (v ≡ true → count t ≡ 0) → AllCountNone ts
    → count_all (cond v (text_onto (label t).ranges (label t).own ts) (more t ts)) ≡ count_all (more t ts)
joined_count_by true t ts y z = omega (arith, y refl, text_onto_count (label t).ranges (label t).own ts z)
joined_count_by false t ts y z = refl

joined_count : (ts : Trees) → AllCountNone ts → count_all (joined_texts ts) ≡ count_all ts
joined_count none z = refl
joined_count (more t ts) z =
    omega (arith, joined_count ts z.1, joined_count_by (is_text t) t (joined_texts ts) z.0 (joined_none ts z.1))

whole_count : (v : Bool) (r : Option Ranges) (own : List ℕ) (ts : Trees) → count_all (more (cond v (sep_leaf r own) (text_leaf r own)) ts) ≡ count_all ts
whole_count true r own ts = omega arith
whole_count false r own ts = omega arith

both_count : (v : Bool) (p q r : Option Ranges) (front rest own : List ℕ) (ts : Trees)
    → count_all (cond v (more (text_leaf p front) (more (sep_leaf q rest) ts)) (more (text_leaf r own) ts)) ≡ count_all ts
both_count true p q r front rest own ts = omega arith
both_count false p q r front rest own ts = omega arith

parts_count : (r : Option Ranges) (front rest : List ℕ) (ts : Trees) → count_all (parts_before r front rest ts) ≡ count_all ts
parts_count r front [] ts = omega arith
parts_count r [] (b ∷ bs) ts = whole_count (is_blank (b ∷ bs)) r (b ∷ bs) ts
parts_count r (c ∷ cs) (b ∷ bs) ts =
    both_count (is_blank (b ∷ bs)) (front_ranges (length (c ∷ cs)) r) (rest_ranges (length (c ∷ cs)) r) r (c ∷ cs) (b ∷ bs) ((c ∷ cs) ++ (b ∷ bs)) ts

cut_count_by : (v x : Bool) (t : Tree) (ts : Trees) → (v ≡ true → count t ≡ 0)
    → count_all (cond v (text_before x (label t).ranges (label t).own ts) (more t ts)) ≡ count_all (more t ts)
cut_count_by true x t ts z = omega (arith, z refl, parts_count (label t).ranges (front_of x (label t).own) (rest_of x (label t).own) ts)
cut_count_by false x t ts z = refl

cut_count : (behind : Bool) (ts : Trees) → AllCountNone ts → count_all (cut_from behind ts) ≡ count_all ts
cut_count behind none z = refl
cut_count behind (more t ts) z =
    omega (
      arith,
      cut_count (behind || is_border t) ts z.1,
      cut_count_by (is_text t) (from_start behind (leads_to_block ts) (label t).own) t (cut_from (behind || is_border t) ts) z.0,
    )

as_count : (x : Texts) (ts : Trees) → AllCountNone ts → count_all (cut_as x ts) ≡ count_all ts
as_count Separators ts z = refl
as_count Page ts z = refl
as_count Bordered ts z = cut_count false (joined_texts ts) (joined_none ts z) ∙ joined_count ts z
as_count OwnCharacter ts z = refl

pub nothing_cut : (x : Texts) → cut_as x none ≡ none
nothing_cut Separators = refl
nothing_cut Page = refl
nothing_cut Bordered = refl
nothing_cut OwnCharacter = refl

count_by_kind : (g leaf : Bool) (x : Texts) (ts : Trees) → BareInside g leaf ts (AllBareTexts ts)
    → (AllBareTexts ts → count_all (all_cut_texts ts) ≡ count_all ts)
    → cond g 0 (count_all (cond g ts (cut_as x (all_cut_texts ts)))) ≡ cond g 0 (count_all ts)
count_by_kind true leaf x ts b e = refl
count_by_kind false true x ts b e =
    ap (λ (us : Trees). count_all (cut_as x (all_cut_texts us))) b ∙ ap count_all (nothing_cut x) ∙ sym (ap count_all b)
count_by_kind false false x ts b e = as_count x (all_cut_texts ts) (all_cut_counts ts b) ∙ e b

mutual
  same_count : (t : Tree) → BareTexts t → count (cut_texts t) ≡ count t
  same_count (tree l ts) b =
      ap (λ (n : ℕ). cond (is_numbered l.kind) 1 0 + n)
      (count_by_kind (is_group l.kind) (is_leaf l.kind) (texts_of_kind l.kind) ts b.1 (all_same_count ts))

  all_same_count : (ts : Trees) → AllBareTexts ts → count_all (all_cut_texts ts) ≡ count_all ts
  all_same_count none b = refl
  all_same_count (more t ts) b = ap₂ (λ (m n : ℕ). m + n) (same_count t b.0) (all_same_count ts b.1)

-- ---- joined texts

onto_numbered : (v : Bool) (n : ℕ) (r s : Option Ranges) (own bs : List ℕ) (t : Tree) (ts : Trees) → (v ≡ true → count t ≡ 0)
    → cond v (more (sep_leaf s bs) (all_with_numbers (n + count t) ts)) (more (sep_leaf r own) (all_with_numbers n (more t ts)))
    ≡ all_with_numbers n (cond v (more (sep_leaf s bs) ts) (more (sep_leaf r own) (more t ts)))
onto_numbered true n r s own bs t ts z =
    let e : n + count t ≡ n + count (sep_leaf s bs) = omega (arith, z refl) in
    ap (λ (k : ℕ). more (sep_leaf s bs) (all_with_numbers k ts)) e
onto_numbered false n r s own bs t ts z =
    let e : n ≡ n + count (sep_leaf r own) = omega arith in
    ap (λ (k : ℕ). more (sep_leaf r own) (all_with_numbers k (more t ts))) e

text_onto_numbered : (n : ℕ) (r : Option Ranges) (own : List ℕ) (ts : Trees) → AllCountNone ts
    → text_onto r own (all_with_numbers n ts) ≡ all_with_numbers n (text_onto r own ts)
text_onto_numbered n r [] ts z = refl
text_onto_numbered n r (b ∷ bs) none z = refl
text_onto_numbered n r (b ∷ bs) (more (tree l us) ts) z =
    onto_numbered (is_as_text (writing l.kind)) n r (joined_ranges r l.ranges) (b ∷ bs) ((b ∷ bs) ++ l.own) (tree l us) ts z.0

joined_by : (v : Bool) (n : ℕ) (l : Label) (us ts : Trees) → (v ≡ true → count (tree l us) ≡ 0) → AllCountNone ts
    → cond v (text_onto l.ranges l.own (all_with_numbers (n + count (tree l us)) ts))
    (more (with_numbers n (tree l us)) (all_with_numbers (n + count (tree l us)) ts))
    ≡ all_with_numbers n (cond v (text_onto l.ranges l.own ts) (more (tree l us) ts))
joined_by true n l us ts y z =
    let e : n + count (tree l us) ≡ n = omega (arith, y refl) in
    ap (λ (k : ℕ). text_onto l.ranges l.own (all_with_numbers k ts)) e ∙ text_onto_numbered n l.ranges l.own ts z
joined_by false n l us ts y z = refl

joined_numbered : (n : ℕ) (ts : Trees) → AllCountNone ts → joined_texts (all_with_numbers n ts) ≡ all_with_numbers n (joined_texts ts)
joined_numbered n none z = refl
joined_numbered n (more (tree l us) ts) z =
    ap (λ (vs : Trees). cond (is_as_text (writing l.kind)) (text_onto l.ranges l.own vs) (more (with_numbers n (tree l us)) vs))
    (joined_numbered (n + count (tree l us)) ts z.1)
    ∙ joined_by (is_as_text (writing l.kind)) n l us (joined_texts ts) z.0 (joined_none ts z.1)

-- ---- cut texts

shows_by : (g b : Bool) (us vs : Trees) → cond g (any_shows_block (cond g us vs)) b ≡ cond g (any_shows_block us) b
shows_by true b us vs = refl
shows_by false b us vs = refl

shows_numbered : (n : ℕ) (t : Tree) → shows_block (with_numbers n t) ≡ shows_block t
shows_numbered n (tree l us) = shows_by (is_group l.kind) (is_block l.kind) us (all_with_numbers (next_after l.kind n) us)

border_numbered : (n : ℕ) (l : Label) (us : Trees) → is_border (with_numbers n (tree l us)) ≡ is_border (tree l us)
border_numbered n l us = ap (λ (v : Bool). cond (is_as_text (writing l.kind)) (has_break l.own) v) (shows_numbered n (tree l us))

leads_numbered : (n : ℕ) (ts : Trees) → leads_to_block (all_with_numbers n ts) ≡ leads_to_block ts
leads_numbered n none = refl
leads_numbered n (more (tree l us) ts) =
    ap₂ (λ (v w : Bool). v || (is_passed (tree l us) && w)) (shows_numbered n (tree l us)) (leads_numbered (n + count (tree l us)) ts)

leaf_numbered : (n : ℕ) (t : Tree) (ts : Trees) → count t ≡ 0 → with_numbers n t ≡ t → more t (all_with_numbers n ts) ≡ all_with_numbers n (more t ts)
leaf_numbered n t ts z e =
    let f : n ≡ n + count t = omega (arith, z) in
    ap (λ (k : ℕ). more t (all_with_numbers k ts)) f ∙ ap (λ (u : Tree). more u (all_with_numbers (n + count t) ts)) (sym e)

whole_numbered : (v : Bool) (n : ℕ) (r : Option Ranges) (own : List ℕ) (ts : Trees)
    → more (cond v (sep_leaf r own) (text_leaf r own)) (all_with_numbers n ts) ≡ all_with_numbers n (more (cond v (sep_leaf r own) (text_leaf r own)) ts)
whole_numbered true n r own ts = leaf_numbered n (sep_leaf r own) ts refl refl
whole_numbered false n r own ts = leaf_numbered n (text_leaf r own) ts refl refl

both_numbered : (v : Bool) (n : ℕ) (p q r : Option Ranges) (front rest own : List ℕ) (ts : Trees)
    → cond v (more (text_leaf p front) (more (sep_leaf q rest) (all_with_numbers n ts))) (more (text_leaf r own) (all_with_numbers n ts))
    ≡ all_with_numbers n (cond v (more (text_leaf p front) (more (sep_leaf q rest) ts)) (more (text_leaf r own) ts))
both_numbered true n p q r front rest own ts =
    ap (more (text_leaf p front)) (leaf_numbered n (sep_leaf q rest) ts refl refl)
    ∙ leaf_numbered n (text_leaf p front) (more (sep_leaf q rest) ts) refl refl
both_numbered false n p q r front rest own ts = leaf_numbered n (text_leaf r own) ts refl refl

parts_numbered : (n : ℕ) (r : Option Ranges) (front rest : List ℕ) (ts : Trees)
    → parts_before r front rest (all_with_numbers n ts) ≡ all_with_numbers n (parts_before r front rest ts)
parts_numbered n r front [] ts = leaf_numbered n (text_leaf r front) ts refl refl
parts_numbered n r [] (b ∷ bs) ts = whole_numbered (is_blank (b ∷ bs)) n r (b ∷ bs) ts
parts_numbered n r (c ∷ cs) (b ∷ bs) ts =
    both_numbered (is_blank (b ∷ bs)) n (front_ranges (length (c ∷ cs)) r) (rest_ranges (length (c ∷ cs)) r) r (c ∷ cs) (b ∷ bs) ((c ∷ cs) ++ (b ∷ bs)) ts

before_numbered : (v x : Bool) (n : ℕ) (l : Label) (us ts : Trees) → (v ≡ true → count (tree l us) ≡ 0)
    → cond v (text_before x l.ranges l.own (all_with_numbers (n + count (tree l us)) ts))
    (more (with_numbers n (tree l us)) (all_with_numbers (n + count (tree l us)) ts))
    ≡ all_with_numbers n (cond v (text_before x l.ranges l.own ts) (more (tree l us) ts))
before_numbered true x n l us ts z =
    let e : n + count (tree l us) ≡ n = omega (arith, z refl) in
    ap (λ (k : ℕ). text_before x l.ranges l.own (all_with_numbers k ts)) e
    ∙ parts_numbered n l.ranges (front_of x l.own) (rest_of x l.own) ts
before_numbered false x n l us ts z = refl

cut_from_numbered : (behind : Bool) (n : ℕ) (ts : Trees) → AllCountNone ts → cut_from behind (all_with_numbers n ts) ≡ all_with_numbers n (cut_from behind ts)
cut_from_numbered behind n none z = refl
cut_from_numbered behind n (more (tree l us) ts) z =
    let m : ℕ = n + count (tree l us) in
    let v : Bool = is_as_text (writing l.kind) in
    let after : Bool → Trees = λ b. cut_from (behind || b) (all_with_numbers m ts) in
    ap (λ (w : Bool). cond v (text_before (from_start behind w l.own) l.ranges l.own (after (is_border (with_numbers n (tree l us)))))
    (more (with_numbers n (tree l us)) (after (is_border (with_numbers n (tree l us)))))) (leads_numbered m ts)
    ∙ ap (λ (b : Bool). cond v (text_before (from_start behind (leads_to_block ts) l.own) l.ranges l.own (after b))
    (more (with_numbers n (tree l us)) (after b))) (border_numbered n l us)
    ∙ ap (λ (vs : Trees). cond v (text_before (from_start behind (leads_to_block ts) l.own) l.ranges l.own vs)
    (more (with_numbers n (tree l us)) vs)) (cut_from_numbered (behind || is_border (tree l us)) m ts z.1)
    ∙ before_numbered v (from_start behind (leads_to_block ts) l.own) n l us (cut_from (behind || is_border (tree l us)) ts) z.0

as_numbered : (x : Texts) (n : ℕ) (ts : Trees) → AllCountNone ts → cut_as x (all_with_numbers n ts) ≡ all_with_numbers n (cut_as x ts)
as_numbered Separators n ts z = refl
as_numbered Page n ts z = refl
as_numbered Bordered n ts z = ap (cut_from false) (joined_numbered n ts z) ∙ cut_from_numbered false n (joined_texts ts) (joined_none ts z)
as_numbered OwnCharacter n ts z = refl

-- ---- trees

inside_numbered : (g leaf : Bool) (x : Texts) (n : ℕ) (ts : Trees) → BareInside g leaf ts (AllBareTexts ts)
    → (AllBareTexts ts → all_cut_texts (all_with_numbers n ts) ≡ all_with_numbers n (all_cut_texts ts))
    → cond g (cond g ts (all_with_numbers n ts)) (cut_as x (all_cut_texts (cond g ts (all_with_numbers n ts))))
    ≡ cond g (cond g ts (cut_as x (all_cut_texts ts))) (all_with_numbers n (cond g ts (cut_as x (all_cut_texts ts))))
inside_numbered true leaf x n ts b e = refl
inside_numbered false true x n ts b e =
    ap (λ (us : Trees). cut_as x (all_cut_texts (all_with_numbers n us))) b ∙ nothing_cut x
    ∙ sym (ap (λ (us : Trees). all_with_numbers n us) (nothing_cut x))
    ∙ sym (ap (λ (us : Trees). all_with_numbers n (cut_as x (all_cut_texts us))) b)
inside_numbered false false x n ts b e = ap (cut_as x) (e b) ∙ as_numbered x n (all_cut_texts ts) (all_cut_counts ts b)

mutual
  pub cut_numbered : (n : ℕ) (t : Tree) → BareTexts t → cut_texts (with_numbers n t) ≡ with_numbers n (cut_texts t)
  cut_numbered n (tree l ts) b =
      ap (tree (label (with_numbers n (tree l ts))))
      (inside_numbered (is_group l.kind) (is_leaf l.kind) (texts_of_kind l.kind) (next_after l.kind n) ts b.1 (all_cut_numbered (next_after l.kind n) ts))

  all_cut_numbered : (n : ℕ) (ts : Trees) → AllBareTexts ts → all_cut_texts (all_with_numbers n ts) ≡ all_with_numbers n (all_cut_texts ts)
  all_cut_numbered n none b = refl
  all_cut_numbered n (more t ts) b =
      ap₂ more (cut_numbered n t b.0)
      (all_cut_numbered (n + count t) ts b.1
      ∙ ap (λ (k : ℕ). all_with_numbers (n + k) (all_cut_texts ts)) (sym (same_count t b.0)))
