-- What is made by cutting is cut.
use Rattle.std.proofs.Common.{◌≡◌, ℕ, Bool, true, false, Option, List, [], ◌∷◌, length, refl, sym, ap, ap₂, ◌∙◌, subst}
use Rattle.std.specs.Prelude.{◌&&◌, ◌||◌, not, if◌then◌else◌}
use Rattle.std.proofs.lemmas.List.Folds.{list_all-append}
use Rattle.wt_tree.specs.declared.kind.Ranges.{Ranges}
use Rattle.wt_tree.specs.Tree.{Tree, Trees, none, more, label}
use Rattle.wt_tree.specs.Leaves.{text_leaf, sep_leaf}
use Rattle.wt_recut.specs.Recut.{is_white, is_space, is_break, is_blank, are_spaces, before_break, from_break, has_break, is_text, is_border, shows_block, leads_to_block, front_ranges, rest_ranges, joined_texts, from_start, parts_before, text_before, cut_from, recut}
use Rattle.wt_recut.specs.Recutting.{is_empty, bare}
use Rattle.wt_recut.specs.Cutting.{begins_with_text, begins_with_break, is_sep_at, has_tail, IsWholeBy, IsWhole, IsFront, StandsBy, AreCut}
use Rattle.wt_recut.proofs.Recuts.{both_halves, whole_before, none_from}
use Rattle.wt_recut.proofs.Cut.{JoinedBy, AreJoined, joined_are, cut_joins, ranges_joined}
use Rattle.wt_recut.proofs.CutOnly.{parts_text, parts_sep, parts_both, joined_leads, or_true, and_right, and_none, begun, all_from, nothing_before, text_border}

-- what follows doesn't begin with a text
next_cut : (behind : Bool) (ts : Trees) → begins_with_text ts ≡ false → begins_with_text (cut_from behind ts) ≡ false
next_cut behind none e = refl
next_cut behind (more t ts) e =
    ap (λ x. begins_with_text (if x then text_before (from_start behind (leads_to_block ts) (label t).own) (label t).ranges
    (label t).own (cut_from (behind || is_border t) ts)
    else more t (cut_from (behind || is_border t) ts))) e ∙ e

cut_leads : (behind : Bool) (ts : Trees) → AreJoined ts → leads_to_block (cut_from behind ts) ≡ leads_to_block ts
cut_leads behind ts h = sym (joined_leads (cut_from behind ts)) ∙ ap leads_to_block (cut_joins behind ts h)

spaces_blank : (own : List ℕ) → are_spaces own ≡ true → is_blank own ≡ true
spaces_blank [] e = refl
spaces_blank (b ∷ bs) e = by_test (is_space b) e (λ f. spaces_blank bs f)
  where
    by_test : (x : Bool) → (x && are_spaces bs) ≡ true → (are_spaces bs ≡ true → is_blank bs ≡ true) → ((x || is_break b) && is_blank bs) ≡ true
    by_test true e h = h e
    by_test false e h = absurd (cc e)

-- a leaf before others that don't begin with a text
leaf_stands : (behind : Bool) (t : Tree) (ts : Trees) → is_text t ≡ true → begins_with_text ts ≡ false
    → IsWhole behind (leads_to_block ts) t → AreCut (behind || has_break (label t).own) ts → AreCut behind (more t ts)
leaf_stands behind t ts e f h g = (
  subst (λ x. StandsBy x (begins_with_text ts) (IsWhole behind (leads_to_block ts) t) (IsFront behind t ts)) (sym e)
      (subst (λ y. StandsBy true y (IsWhole behind (leads_to_block ts) t) (IsFront behind t ts)) (sym f) h),
  subst (λ x. AreCut (behind || x) ts) (sym (ap (λ x. if x then has_break (label t).own else shows_block t) e)) g,
)

sep_whole : (behind leads : Bool) (r : Option Ranges) (own : List ℕ) → is_empty own ≡ false → is_sep_at behind leads own ≡ true
    → IsWhole behind leads (sep_leaf r own)
sep_whole behind leads r own e f = (e, subst (λ x. IsWholeBy x behind r own (sep_leaf r own)) (sym f) refl)

text_whole : (behind leads : Bool) (r : Option Ranges) (own : List ℕ) → is_empty own ≡ false → is_sep_at behind leads own ≡ false
    → has_tail behind own ≡ false → IsWhole behind leads (text_leaf r own)
text_whole behind leads r own e f g = (e, subst (λ x. IsWholeBy x behind r own (text_leaf r own)) (sym f) (refl, g))

and_false : (a b : Bool) → a ≡ false → (a && b) ≡ false
and_false a b e = ap (λ x. x && b) e

-- the text is a separator from its start on, or whole
start_stands : (behind : Bool) (r : Option Ranges) (own : List ℕ) (ts : Trees) → is_empty own ≡ false
    → begins_with_text ts ≡ false → from_start behind (leads_to_block ts) own ≡ true
    → AreCut (behind || has_break own) ts → AreCut behind (parts_before r [] own ts)
start_stands behind r own ts e f a g = by_test (is_blank own) refl
  where
    no_tail : (x y : Bool) → (x || (y && are_spaces own)) ≡ true → is_blank own ≡ false → (not x && (has_break own && is_blank (from_break own))) ≡ false
    no_tail true y h d = refl
    no_tail false y h d = absurd (cc (sym d ∙ spaces_blank own (and_right y (are_spaces own) h)))

    by_test : (x : Bool) → is_blank own ≡ x → AreCut behind (parts_before r [] own ts)
    by_test true d =
        subst (AreCut behind) (sym (parts_sep r own ts e d))
        (leaf_stands behind (sep_leaf r own) ts refl f (sep_whole behind (leads_to_block ts) r own e (ap₂ (λ x y. x && (y || begins_with_break own)) d a)) g)
    by_test false d =
        subst (AreCut behind) (sym (parts_text r [] own ts d))
        (leaf_stands behind (text_leaf r own) ts refl f
        (text_whole behind (leads_to_block ts) r own e
        (and_false (is_blank own) (from_start behind (leads_to_block ts) own || begins_with_break own) d)
        (no_tail behind (leads_to_block ts) a d)) g)

-- ---- cut at a line break

front_unbroken : (own : List ℕ) → has_break (before_break own) ≡ false
front_unbroken [] = refl
front_unbroken (b ∷ bs) = by_test (is_break b) refl (front_unbroken bs)
  where
    by_test : (x : Bool) → is_break b ≡ x → has_break (before_break bs) ≡ false → has_break (if x then [] else b ∷ before_break bs) ≡ false
    by_test true e h = refl
    by_test false e h = ap₂ (λ x y. x || y) e h

rest_begins : (own : List ℕ) → has_break own ≡ true → begins_with_break (from_break own) ≡ true
rest_begins [] e = absurd (cc e)
rest_begins (b ∷ bs) e = by_test (is_break b) refl e (λ f. rest_begins bs f)
  where
    by_test : (x : Bool) → is_break b ≡ x → (x || has_break bs) ≡ true
        → (has_break bs ≡ true → begins_with_break (from_break bs) ≡ true) → begins_with_break (if x then b ∷ bs else from_break bs) ≡ true
    by_test true d e h = d
    by_test false d e h = h e

front_some : (own : List ℕ) → is_empty own ≡ false → begins_with_break own ≡ false → is_empty (before_break own) ≡ false
front_some [] e f = absurd (cc e)
front_some (b ∷ bs) e f = ap (λ x. is_empty (if x then [] else b ∷ before_break bs)) f

unbroken : (own : List ℕ) → has_break own ≡ false → begins_with_break own ≡ false
unbroken [] e = refl
unbroken (b ∷ bs) e = by_test (is_break b) refl e
  where
    by_test : (x : Bool) → is_break b ≡ x → (x || has_break bs) ≡ false → is_break b ≡ false
    by_test true d e = absurd (cc e)
    by_test false d e = d

sep_by : (a b c : Bool) → a ≡ true → c ≡ true → (a && (b || c)) ≡ true
sep_by a b c e f = ap₂ (λ x y. x && (b || y)) e f ∙ or_true b

no_sep : (a b c : Bool) → b ≡ false → c ≡ false → (a && (b || c)) ≡ false
no_sep a b c e f = ap₂ (λ x y. a && (x || y)) e f ∙ and_none a

first_stands : (r : Option Ranges) (own : List ℕ) (ts : Trees) → is_empty own ≡ false → begins_with_text ts ≡ false
    → begins_with_break own ≡ true → AreCut true ts → AreCut false (parts_before r [] own ts)
first_stands r own ts e f a g = by_test (is_blank own) refl
  where
    here : AreCut (false || has_break own) ts
    here = subst (λ x. AreCut x ts) (sym (begun own a).0) g

    by_test : (x : Bool) → is_blank own ≡ x → AreCut false (parts_before r [] own ts)
    by_test true d =
        subst (AreCut false) (sym (parts_sep r own ts e d))
        (leaf_stands false (sep_leaf r own) ts refl f
        (sep_whole false (leads_to_block ts) r own e
        (sep_by (is_blank own) (leads_to_block ts && are_spaces own) (begins_with_break own) d a)) here)
    by_test false d =
        subst (AreCut false) (sym (parts_text r [] own ts d))
        (leaf_stands false (text_leaf r own) ts refl f
        (text_whole false (leads_to_block ts) r own e (and_false (is_blank own) ((leads_to_block ts && are_spaces own) || begins_with_break own) d)
        (ap (λ x. has_break own && is_blank x) (all_from own a) ∙ ap (λ x. has_break own && x) d ∙ and_none (has_break own)))
        here)

later_stands : (r : Option Ranges) (own : List ℕ) (ts : Trees) → is_empty own ≡ false → begins_with_text ts ≡ false
    → begins_with_break own ≡ false → has_break own ≡ true → AreCut true ts
    → AreCut false (parts_before r (before_break own) (from_break own) ts)
later_stands r own ts e f a b g = by_test (is_blank rest) refl
  where
    front : List ℕ
    front = before_break own

    rest : List ℕ
    rest = from_break own

    begins : begins_with_break rest ≡ true
    begins = rest_begins own b

    n : ℕ
    n = length front

    by_test : (x : Bool) → is_blank rest ≡ x → AreCut false (parts_before r front rest ts)
    by_test true d =
        subst (AreCut false) (sym (parts_both r front rest ts (front_some own e a) (begun rest begins).1 d)) (
          (
            refl,
            front_unbroken own,
            front_some own e a,
            begins,
            d,
            ap (λ x. text_leaf (front_ranges n x) front) (sym (ranges_joined n r)),
            ap (λ x. sep_leaf (rest_ranges n x) rest) (sym (ranges_joined n r)),
          ),
          subst (λ x. AreCut x (more (sep_leaf (rest_ranges n r) rest) ts)) (sym (front_unbroken own))
              (leaf_stands false (sep_leaf (rest_ranges n r) rest) ts refl f
              (sep_whole false (leads_to_block ts) (rest_ranges n r) rest (begun rest begins).1
              (sep_by (is_blank rest) (leads_to_block ts && are_spaces rest) (begins_with_break rest) d begins))
              (subst (λ x. AreCut x ts) (sym (begun rest begins).0) g)),
        )
    by_test false d =
        subst (AreCut false) (sym (parts_text r front rest ts d ∙ ap (λ x. more (text_leaf r x) ts) (both_halves own)))
        (leaf_stands false (text_leaf r own) ts refl f
        (text_whole false (leads_to_block ts) r own e
        (and_false (is_blank own) ((leads_to_block ts && are_spaces own) || begins_with_break own)
        (sym (ap is_blank (both_halves own)) ∙ list_all-append is_white front rest ∙ ap (λ x. is_blank front && x) d ∙ and_none (is_blank front)))
        (ap (λ x. has_break own && x) d ∙ and_none (has_break own)))
        (subst (λ x. AreCut x ts) (sym b) g))

break_stands : (r : Option Ranges) (own : List ℕ) (ts : Trees) → is_empty own ≡ false → begins_with_text ts ≡ false
    → (leads_to_block ts && are_spaces own) ≡ false → AreCut (has_break own) ts
    → AreCut false (parts_before r (before_break own) (from_break own) ts)
break_stands r own ts e f a g = by_test (has_break own) refl (begins_with_break own) refl
  where
    by_test : (x : Bool) → has_break own ≡ x → (y : Bool) → begins_with_break own ≡ y → AreCut false (parts_before r (before_break own) (from_break own) ts)
    by_test true d true b =
        subst (AreCut false) (sym (ap₂ (λ x y. parts_before r x y ts) (nothing_before own b) (all_from own b)))
        (first_stands r own ts e f b (subst (λ x. AreCut x ts) d g))
    by_test true d false b = later_stands r own ts e f b d (subst (λ x. AreCut x ts) d g)
    by_test false d y b =
        subst (AreCut false) (sym (ap₂ (λ x y. parts_before r x y ts) (whole_before own d) (none_from own d)))
        (leaf_stands false (text_leaf r own) ts refl f
        (text_whole false (leads_to_block ts) r own e
        (no_sep (is_blank own) (leads_to_block ts && are_spaces own) (begins_with_break own) a (unbroken own d))
        (ap (λ x. x && is_blank (from_break own)) d))
        g)

text_stands : (behind : Bool) (r : Option Ranges) (own : List ℕ) (ts : Trees) → is_empty own ≡ false → begins_with_text ts ≡ false
    → AreCut (behind || has_break own) ts
    → AreCut behind (text_before (from_start behind (leads_to_block ts) own) r own ts)
text_stands true r own ts e f g = start_stands true r own ts e f refl g
text_stands false r own ts e f g = by_test (leads_to_block ts && are_spaces own) refl
  where
    by_test : (x : Bool) → (leads_to_block ts && are_spaces own) ≡ x → AreCut false (text_before x r own ts)
    by_test true a = start_stands false r own ts e f a g
    by_test false a = break_stands r own ts e f a g

cut_is : (ts : Trees) (behind : Bool) → AreJoined ts → AreCut behind (cut_from behind ts)
cut_is none behind h = tt
cut_is (more t ts) behind h = by_test (is_text t) refl (cut_is ts (behind || is_border t) h.1)
  where
    us : Trees
    us = cut_from (behind || is_border t) ts

    by_test : (x : Bool) → is_text t ≡ x → AreCut (behind || is_border t) us
        → AreCut behind (if x then text_before (from_start behind (leads_to_block ts) (label t).own) (label t).ranges (label t).own us else more t us)
    by_test true e i =
        let g = subst (λ x. JoinedBy x ((t ≡ bare t) × (is_empty (label t).own ≡ false) × (begins_with_text ts ≡ false))) e h.0 in
        subst (λ l. AreCut behind (text_before (from_start behind l (label t).own) (label t).ranges (label t).own us))
        (cut_leads (behind || is_border t) ts h.1)
        (text_stands behind (label t).ranges (label t).own us g.1 (next_cut (behind || is_border t) ts g.2)
        (subst (λ x. AreCut (behind || x) us) (text_border t e) i))
    by_test false e i = (subst (λ x. StandsBy x (begins_with_text us) (IsWhole behind (leads_to_block us) t) (IsFront behind t us)) (sym e) tt, i)

pub recut_is : (ts : Trees) → AreCut false (recut ts)
recut_is ts = cut_is (joined_texts ts) false (joined_are ts)
