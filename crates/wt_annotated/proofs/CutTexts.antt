-- Texts and separators cut anew: the source, the number of nodes and their tiling stay.
use Rattle.std.proofs.Common.{◌≡◌, ℕ, ◌+◌, ◌-◌, ◌<◌, ◌≤◌, Bool, true, false, Option, Some, None, List, [], ◌∷◌, ◌++◌, length, refl, sym, ap, subst, ◌∙◌, cond, arith, append-nil, length-append}
use Rattle.std.specs.Prelude.{nat_lt, ◌||◌, take}
use Rattle.std.specs.List.{AllByRecursion}
use Rattle.std.proofs.lemmas.Bool.Decides.{nat_tests}
use Rattle.wt_tree.specs.declared.kind.Kind.{Kind}
use Rattle.wt_tree.specs.declared.kind.Kind.TheVariants as kind
use Rattle.wt_tree.specs.declared.kind.Ranges.{Ranges}
use Rattle.wt_tree.specs.declared.row.Texts.{Texts}
use Rattle.wt_tree.specs.declared.row.Texts.TheVariants.{Separators, Page, Bordered, OwnCharacter}
use Rattle.wt_tree.specs.Kinds.{writing, is_leaf, texts_of_kind}
use Rattle.wt_tree.specs.Leaves.{text_leaf, sep_leaf}
use Rattle.wt_recut.specs.Recut.{is_blank, is_as_text, is_text, is_border, leads_to_block, place_in, front_ranges, rest_ranges, joined_ranges, text_onto, joined_texts, from_start, front_of, rest_of, parts_before, text_before, cut_from}
use Rattle.wt_tree.specs.Source.{flat, flat_of_all}
use Rattle.wt_tree.specs.Tiling.{BeginsAt, end_of, TiledBy, Tiled, TiledFrom, is_group}
use Rattle.wt_tree.specs.Tree.{Label, Tree, tree, Trees, none, more, label}
use Rattle.wt_recut.proofs.Cut.{all_parts, recut_source}
use Rattle.wt_annotated.specs.Labels.{leaf_open}
use Rattle.wt_annotated.specs.Slices.{slice, opening_by, opening_of, StandsIn, IsSlice}
use Rattle.wt_annotated.specs.CutTexts.{cut_as, cut_texts, all_cut_texts}
use Rattle.wt_annotated.specs.Reached.{reached, reached_in_all, AreReachedSlices}
use Rattle.wt_annotated.proofs.PageSlices.{slice_length, slice_join, same_halves}
use Rattle.wt_annotated.proofs.Tiles.{flat_by, group_leaf}

-- ---- the source

as_source : (x : Texts) (us : Trees) → flat_of_all (cut_as x us) ≡ flat_of_all us
as_source Separators us = refl
as_source Page us = refl
as_source Bordered us = recut_source us
as_source OwnCharacter us = refl

mutual
  pub cut_source : (t : Tree) → flat (cut_texts t) ≡ flat t
  cut_source (tree l ts) =
      flat_by (is_leaf l.kind) (is_group l.kind) l.own l.opening l.closing ts (cut_as (texts_of_kind l.kind) (all_cut_texts ts)) (group_leaf l.kind)
      (as_source (texts_of_kind l.kind) (all_cut_texts ts) ∙ all_cut_source ts)

  all_cut_source : (ts : Trees) → flat_of_all (all_cut_texts ts) ≡ flat_of_all ts
  all_cut_source none = refl
  all_cut_source (more t ts) = ap (λ bs. bs ++ flat_of_all (all_cut_texts ts)) (cut_source t) ∙ ap (λ bs. flat t ++ bs) (all_cut_source ts)

-- ---- a text with its range

-- a text with this source stands on the page at these ranges, from a place on
abbrev pub TextAt : List ℕ → ℕ → Option Ranges → List ℕ → Type 0
TextAt page from r own = BeginsAt from r × StandsIn page r own [] []

pub leaf_text : (k : Kind) → is_as_text (writing k) ≡ true → is_leaf k ≡ true
leaf_text kind.Text e = refl
leaf_text kind.Sep e = refl
leaf_text k e = absurd (subst (λ (b : Bool). cond b ⊥ (Unit {0})) e tt)

open_text : (k : Kind) (n : ℕ) → is_as_text (writing k) ≡ true → leaf_open k n ≡ 0
open_text kind.Text n e = refl
open_text kind.Sep n e = refl
open_text k n e = absurd (subst (λ (b : Bool). cond b ⊥ (Unit {0})) e tt)

-- a text without a closing delimiter has its source alone
bare_text : (page : List ℕ) (l : Label) (ts : Trees) → is_as_text (writing l.kind) ≡ true → l.closing ≡ [] → IsSlice page (tree l ts)
    → StandsIn page l.ranges l.own [] []
bare_text page l ts e c h =
    let own : flat (tree l ts) ≡ l.own = ap (λ v. cond v l.own (l.opening ++ flat_of_all ts ++ l.closing)) (leaf_text l.kind e) in
    let opening : opening_of l ≡ [] = ap (λ v. opening_by v l) (leaf_text l.kind e) ∙ ap (λ n. take n l.own) (open_text l.kind (length l.own) e) in
    subst (λ (bs : List ℕ). StandsIn page l.ranges l.own [] bs) c
    (subst (λ (bs : List ℕ). StandsIn page l.ranges l.own bs l.closing) opening
    (subst (λ (bs : List ℕ). StandsIn page l.ranges bs (opening_of l) l.closing) own h))

-- ---- children that follow one another

-- a node that begins there, tiles, is a slice with all that is reached in it, and has no closing delimiter if it is a text
abbrev pub Placed : List ℕ → ℕ → Tree → Type 0
Placed page from t = BeginsAt from (label t).ranges × Tiled t × AreReachedSlices page t × (is_text t ≡ true → (label t).closing ≡ [])

abbrev pub Stand : List ℕ → ℕ → Trees → ℕ → Type 0
Stand page from none to = from ≡ to
Stand page from (more t ts) to = Placed page from t × Stand page (end_of (label t).ranges) ts to

text_at : (page : List ℕ) (from : ℕ) (t : Tree) → is_text t ≡ true → Placed page from t → TextAt page from (label t).ranges (label t).own
text_at page from (tree l ts) e p = (p.0, bare_text page l ts e (p.3 e) p.2.0)

text_placed : (page : List ℕ) (from : ℕ) (r : Option Ranges) (own : List ℕ) → TextAt page from r own → Placed page from (text_leaf r own)
text_placed page from None own h = absurd h.0
text_placed page from (Some r) own h = (h.0, h.1.ordered, (h.1, tt), λ e. refl)

sep_placed : (page : List ℕ) (from : ℕ) (r : Option Ranges) (own : List ℕ) → TextAt page from r own → Placed page from (sep_leaf r own)
sep_placed page from None own h = absurd h.0
sep_placed page from (Some r) own h = (h.0, h.1.ordered, (h.1, tt), λ e. refl)

all_both : (P : Tree → Type 0) (us vs : List Tree) → AllByRecursion P us → AllByRecursion P vs → AllByRecursion P (us ++ vs)
all_both P [] vs g h = h
all_both P (u ∷ us) vs g h = (g.0, all_both P us vs g.1 h)

stand_tiles : (page : List ℕ) (from : ℕ) (ts : Trees) (to : ℕ) → Stand page from ts to → TiledFrom ts from to
stand_tiles page from none to h = h
stand_tiles page from (more t ts) to h = (h.0.0, h.0.1, stand_tiles page (end_of (label t).ranges) ts to h.1)

stand_slices : (page : List ℕ) (from : ℕ) (ts : Trees) (to : ℕ) → Stand page from ts to → AllByRecursion (IsSlice page) (reached_in_all ts)
stand_slices page from none to h = tt
stand_slices page from (more t ts) to h =
    all_both (IsSlice page) (reached t) (reached_in_all ts) h.0.2 (stand_slices page (end_of (label t).ranges) ts to h.1)

-- ---- joining

joined_at : (page : List ℕ) (from : ℕ) (r s : Option Ranges) (own rest : List ℕ) → TextAt page from r own → TextAt page (end_of r) s rest
    → TextAt page from (joined_ranges r s) (own ++ rest) × (end_of (joined_ranges r s) ≡ end_of s)
joined_at page from None s own rest h g = absurd h.0
joined_at page from (Some r) None own rest h g = absurd g.0
joined_at page from (Some r) (Some s) own rest h g =
    let m : r.end ≤ s.end = omega (arith, g.0, g.1.ordered) in (
      (
        h.0,
        record {
          ordered = omega (arith, h.1.ordered, m);
          within = g.1.within;
          stands =
              slice_join page r.start r.end s.end h.1.ordered m g.1.within
              ∙ ap (λ bs. bs ++ slice page r.end s.end) h.1.stands
              ∙ ap (λ n. own ++ slice page n s.end) (sym g.0)
              ∙ ap (λ bs. own ++ bs) g.1.stands;
          open_width = h.1.open_width;
          close_width = h.1.close_width;
        },
      ),
      refl,
    )

-- a text of no bytes has no range
empty_at : (page : List ℕ) (from : ℕ) (r : Option Ranges) → TextAt page from r [] → end_of r ≡ from
empty_at page from None h = absurd h.0
empty_at page from (Some r) h = omega (arith, h.0, h.1.ordered, ap length h.1.stands, slice_length page r.start r.end h.1.ordered h.1.within)

onto_by : (v : Bool) (page : List ℕ) (from : ℕ) (r : Option Ranges) (own : List ℕ) (t : Tree) (ts : Trees) (to : ℕ) → is_text t ≡ v → TextAt page from r own
    → Stand page (end_of r) (more t ts) to
    → Stand page from (cond v (more (sep_leaf (joined_ranges r (label t).ranges) (own ++ (label t).own)) ts) (more (sep_leaf r own) (more t ts))) to
onto_by true page from r own t ts to e h s =
    let j = joined_at page from r (label t).ranges own (label t).own h (text_at page (end_of r) t e s.0) in
    (sep_placed page from (joined_ranges r (label t).ranges) (own ++ (label t).own) j.0, subst (λ (n : ℕ). Stand page n ts to) (sym j.1) s.1)
onto_by false page from r own t ts to e h s = (sep_placed page from r own h, s)

text_onto_stands : (page : List ℕ) (from : ℕ) (r : Option Ranges) (own : List ℕ) (ts : Trees) (to : ℕ) → TextAt page from r own
    → Stand page (end_of r) ts to → Stand page from (text_onto r own ts) to
text_onto_stands page from r [] ts to h s = subst (λ (n : ℕ). Stand page n ts to) (empty_at page from r h) s
text_onto_stands page from r (b ∷ bs) none to h s = (sep_placed page from r (b ∷ bs) h, s)
text_onto_stands page from r (b ∷ bs) (more t ts) to h s = onto_by (is_text t) page from r (b ∷ bs) t ts to refl h s

joined_by : (v : Bool) (page : List ℕ) (from : ℕ) (t : Tree) (ts : Trees) (to : ℕ) → is_text t ≡ v → Placed page from t
    → Stand page (end_of (label t).ranges) ts to → Stand page from (cond v (text_onto (label t).ranges (label t).own ts) (more t ts)) to
joined_by true page from t ts to e p s = text_onto_stands page from (label t).ranges (label t).own ts to (text_at page from t e p) s
joined_by false page from t ts to e p s = (p, s)

joined_stand : (page : List ℕ) (from : ℕ) (ts : Trees) (to : ℕ) → Stand page from ts to → Stand page from (joined_texts ts) to
joined_stand page from none to h = h
joined_stand page from (more t ts) to h =
    joined_by (is_text t) page from t (joined_texts ts) to refl h.0 (joined_stand page (end_of (label t).ranges) ts to h.1)

-- ---- cutting

place_by : (v : Bool) (r : Ranges) (n : ℕ) → nat_lt n (r.end - r.start) ≡ v → n < r.end - r.start → cond v (r.start + n) r.end ≡ r.start + n
place_by true r n e l = refl
place_by false r n e l = let t : nat_lt n (r.end - r.start) ≡ true = grind (arith, nat_tests) in
    absurd (subst (λ (b : Bool). cond b (Unit {0}) ⊥) (sym t ∙ e) tt)

-- both parts of a text, of which the second isn't empty
split_at : (page : List ℕ) (from : ℕ) (r : Option Ranges) (front : List ℕ) (b : ℕ) (bs : List ℕ) → TextAt page from r (front ++ (b ∷ bs))
    → TextAt page from (front_ranges (length front) r) front
    × TextAt page (end_of (front_ranges (length front) r)) (rest_ranges (length front) r) (b ∷ bs)
    × (end_of (rest_ranges (length front) r) ≡ end_of r)
split_at page from None front b bs h = absurd h.0
split_at page from (Some r) front b bs h =
    let n : ℕ = length front in
    let size : r.end - r.start ≡ n + length (b ∷ bs) =
    sym (slice_length page r.start r.end h.1.ordered h.1.within) ∙ ap length h.1.stands ∙ length-append front (b ∷ bs) in
    let m : place_in r n ≡ r.start + n = place_by (nat_lt n (r.end - r.start)) r n refl (omega (arith, size)) in
    let low : r.start ≤ place_in r n = omega (arith, m) in
    let high : place_in r n ≤ r.end = omega (arith, m, size) in
    let halves = same_halves (slice page r.start (place_in r n)) (slice page (place_in r n) r.end) front (b ∷ bs)
    (sym (slice_join page r.start (place_in r n) r.end low high h.1.within) ∙ h.1.stands)
    (omega (arith, m, slice_length page r.start (place_in r n) low (omega (arith, high, h.1.within)))) in (
      (
        h.0,
        record { ordered = low; within = omega (arith, high, h.1.within); stands = halves.0; open_width = h.1.open_width; close_width = h.1.close_width },
      ),
      (
        refl,
        record { ordered = high; within = h.1.within; stands = halves.1; open_width = h.1.open_width; close_width = h.1.close_width },
      ),
      refl,
    )

whole_by : (v : Bool) (page : List ℕ) (from : ℕ) (r : Option Ranges) (own : List ℕ) (ts : Trees) (to : ℕ) → TextAt page from r own
    → Stand page (end_of r) ts to → Stand page from (more (cond v (sep_leaf r own) (text_leaf r own)) ts) to
whole_by true page from r own ts to h s = (sep_placed page from r own h, s)
whole_by false page from r own ts to h s = (text_placed page from r own h, s)

both_by : (v : Bool) (page : List ℕ) (from : ℕ) (r : Option Ranges) (front : List ℕ) (b : ℕ) (bs : List ℕ) (ts : Trees) (to : ℕ)
    → TextAt page from r (front ++ (b ∷ bs)) → Stand page (end_of r) ts to
    → Stand page from
    (cond v (more (text_leaf (front_ranges (length front) r) front) (more (sep_leaf (rest_ranges (length front) r) (b ∷ bs)) ts))
    (more (text_leaf r (front ++ (b ∷ bs))) ts)) to
both_by true page from r front b bs ts to h s =
    let p = split_at page from r front b bs h in (
      text_placed page from (front_ranges (length front) r) front p.0,
      (
        sep_placed page (end_of (front_ranges (length front) r)) (rest_ranges (length front) r) (b ∷ bs) p.1,
        subst (λ (n : ℕ). Stand page n ts to) (sym p.2) s,
      ),
    )
both_by false page from r front b bs ts to h s = (text_placed page from r (front ++ (b ∷ bs)) h, s)

parts_stand : (page : List ℕ) (from : ℕ) (r : Option Ranges) (front rest : List ℕ) (ts : Trees) (to : ℕ) → TextAt page from r (front ++ rest)
    → Stand page (end_of r) ts to → Stand page from (parts_before r front rest ts) to
parts_stand page from r front [] ts to h s =
    (text_placed page from r front (subst (λ (bs : List ℕ). TextAt page from r bs) (append-nil front) h), s)
parts_stand page from r [] (b ∷ bs) ts to h s = whole_by (is_blank (b ∷ bs)) page from r (b ∷ bs) ts to h s
parts_stand page from r (c ∷ cs) (b ∷ bs) ts to h s = both_by (is_blank (b ∷ bs)) page from r (c ∷ cs) b bs ts to h s

cut_by : (v : Bool) (page : List ℕ) (from : ℕ) (x : Bool) (t : Tree) (ts : Trees) (to : ℕ) → is_text t ≡ v → Placed page from t
    → Stand page (end_of (label t).ranges) ts to → Stand page from (cond v (text_before x (label t).ranges (label t).own ts) (more t ts)) to
cut_by true page from x t ts to e p s =
    parts_stand page from (label t).ranges (front_of x (label t).own) (rest_of x (label t).own) ts to
    (subst (λ (bs : List ℕ). TextAt page from (label t).ranges bs) (sym (all_parts x (label t).own)) (text_at page from t e p)) s
cut_by false page from x t ts to e p s = (p, s)

cut_stand : (page : List ℕ) (behind : Bool) (from : ℕ) (ts : Trees) (to : ℕ) → Stand page from ts to → Stand page from (cut_from behind ts) to
cut_stand page behind from none to h = h
cut_stand page behind from (more t ts) to h =
    cut_by (is_text t) page from (from_start behind (leads_to_block ts) (label t).own) t (cut_from (behind || is_border t) ts) to refl h.0
    (cut_stand page (behind || is_border t) (end_of (label t).ranges) ts to h.1)

as_stand : (page : List ℕ) (x : Texts) (from : ℕ) (ts : Trees) (to : ℕ) → Stand page from ts to → Stand page from (cut_as x ts) to
as_stand page Separators from ts to h = h
as_stand page Page from ts to h = h
as_stand page Bordered from ts to h = cut_stand page false from (joined_texts ts) to (joined_stand page from ts to h)
as_stand page OwnCharacter from ts to h = h

-- ---- the tree

-- A text has no closing delimiter, and a leaf no children, but for a group.
abbrev pub BareInside : Bool → Bool → Trees → Type 0 → Type 0
BareInside true leaf ts rest = Unit {0}
BareInside false true ts rest = ts ≡ none
BareInside false false ts rest = rest

abbrev mutual
  pub BareTexts : Tree → Type 0
  BareTexts (tree l ts) = (is_as_text (writing l.kind) ≡ true → l.closing ≡ []) × BareInside (is_group l.kind) (is_leaf l.kind) ts (AllBareTexts ts)

  pub AllBareTexts : Trees → Type 0
  AllBareTexts none = Unit {0}
  AllBareTexts (more t ts) = BareTexts t × AllBareTexts ts

-- children, before they are cut and when they are
abbrev pub StandAll : List ℕ → Trees → Type 0
StandAll page ts = (from to : ℕ) → TiledFrom ts from to → AllByRecursion (IsSlice page) (reached_in_all ts) → AllBareTexts ts
    → Stand page from (all_cut_texts ts) to

tiled_cut : (page : List ℕ) (leaf g : Bool) (x : Texts) (r : Option Ranges) (ts : Trees) → (g ≡ true → leaf ≡ true) → StandAll page ts
    → BareInside g leaf ts (AllBareTexts ts) → AllByRecursion (IsSlice page) (cond g [] (reached_in_all ts))
    → TiledBy leaf r (λ from to. TiledFrom ts from to) → TiledBy leaf r (λ from to. TiledFrom (cond g ts (cut_as x (all_cut_texts ts))) from to)
tiled_cut page leaf g x None ts q m b s h = h
tiled_cut page true g x (Some r) ts q m b s h = h
tiled_cut page false true x (Some r) ts q m b s h = absurd (subst (λ (v : Bool). cond v ⊥ (Unit {0})) (q refl) tt)
tiled_cut page false false x (Some r) ts q m b s h =
    let from : ℕ = r.start + r.open_w in
    let to : ℕ = r.end - r.close_w in
    (h.0, stand_tiles page from (cut_as x (all_cut_texts ts)) to (as_stand page x from (all_cut_texts ts) to (m from to h.1 s b)))

no_slices : (page : List ℕ) (x : Texts) → AllByRecursion (IsSlice page) (reached_in_all (cut_as x none))
no_slices page Separators = tt
no_slices page Page = tt
no_slices page Bordered = tt
no_slices page OwnCharacter = tt

slices_cut : (page : List ℕ) (leaf g : Bool) (x : Texts) (r : Option Ranges) (ts : Trees) → StandAll page ts → BareInside g leaf ts (AllBareTexts ts)
    → AllByRecursion (IsSlice page) (cond g [] (reached_in_all ts)) → TiledBy leaf r (λ from to. TiledFrom ts from to)
    → AllByRecursion (IsSlice page) (cond g [] (reached_in_all (cond g ts (cut_as x (all_cut_texts ts)))))
slices_cut page leaf true x r ts m b s h = tt
slices_cut page true false x r ts m b s h =
    subst (λ (us : Trees). AllByRecursion (IsSlice page) (reached_in_all (cut_as x (all_cut_texts us)))) (sym b) (no_slices page x)
slices_cut page false false x None ts m b s h = absurd h
slices_cut page false false x (Some r) ts m b s h =
    let from : ℕ = r.start + r.open_w in
    let to : ℕ = r.end - r.close_w in
    stand_slices page from (cut_as x (all_cut_texts ts)) to (as_stand page x from (all_cut_texts ts) to (m from to h.1 s b))

all_left : (P : Tree → Type 0) (us vs : List Tree) → AllByRecursion P (us ++ vs) → AllByRecursion P us × AllByRecursion P vs
all_left P [] vs h = (tt, h)
all_left P (u ∷ us) vs h = let r = all_left P us vs h.1 in ((h.0, r.0), r.1)

same_label : (t : Tree) → label (cut_texts t) ≡ label t
same_label (tree l ts) = refl

mutual
  pub cut_tiles : (page : List ℕ) (t : Tree) → Tiled t → AreReachedSlices page t → BareTexts t → Tiled (cut_texts t)
  cut_tiles page (tree l ts) h s b =
      tiled_cut page (is_leaf l.kind) (is_group l.kind) (texts_of_kind l.kind) l.ranges ts (group_leaf l.kind) (all_cut_stand page ts) b.1 s.1 h

  pub cut_slices : (page : List ℕ) (t : Tree) → Tiled t → AreReachedSlices page t → BareTexts t → AreReachedSlices page (cut_texts t)
  cut_slices page (tree l ts) h s b = (
    subst (λ (bs : List ℕ). StandsIn page l.ranges bs (opening_of l) l.closing) (sym (cut_source (tree l ts))) s.0,
    slices_cut page (is_leaf l.kind) (is_group l.kind) (texts_of_kind l.kind) l.ranges ts (all_cut_stand page ts) b.1 s.1 h,
  )

  cut_bare : (t : Tree) → BareTexts t → is_text (cut_texts t) ≡ true → (label (cut_texts t)).closing ≡ []
  cut_bare (tree l ts) b e = b.0 e

  all_cut_stand : (page : List ℕ) (ts : Trees) → StandAll page ts
  all_cut_stand page none from to h s b = h
  all_cut_stand page (more t ts) from to h s b =
      let r = all_left (IsSlice page) (reached t) (reached_in_all ts) s in
      let e : (label t).ranges ≡ (label (cut_texts t)).ranges = ap (λ (l : Label). l.ranges) (sym (same_label t)) in (
        (
          subst (λ (x : Option Ranges). BeginsAt from x) e h.0,
          cut_tiles page t h.1 r.0 b.0,
          cut_slices page t h.1 r.0 b.0,
          cut_bare t b.0,
        ),
        subst (λ (x : Option Ranges). Stand page (end_of x) (all_cut_texts ts) to) e (all_cut_stand page ts (end_of (label t).ranges) to h.2 r.1 b.1),
      )
