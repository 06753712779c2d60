-- Cutting anew joins to the same texts, and what is cut is cut so and not otherwise.
use Rattle.std.proofs.Common.{◌≡◌, ℕ, Bool, true, false, Option, Some, None, List, [], ◌∷◌, ◌++◌, length, refl, sym, ap, ap₂, ◌∙◌, subst, append_assoc, append-nil}
use Rattle.std.specs.Prelude.{◌||◌, if◌then◌else◌}
use Rattle.wt_tree.specs.declared.kind.Kind.{Kind}
use Rattle.wt_tree.specs.declared.kind.Kind.TheVariants as kind
use Rattle.wt_tree.specs.declared.kind.Ranges.{Ranges}
use Rattle.wt_tree.specs.Kinds.{writing, is_leaf}
use Rattle.wt_tree.specs.Source.{flat, flat_of_all}
use Rattle.wt_tree.specs.Tree.{Tree, tree, Trees, none, more, label}
use Rattle.wt_tree.specs.Leaves.{text_leaf, sep_leaf}
use Rattle.wt_recut.specs.Recut.{is_blank, is_as_text, is_text, is_border, leads_to_block, front_ranges, rest_ranges, joined_ranges, text_onto, onto, joined_texts, from_start, front_of, rest_of, parts_before, text_before, cut_from, recut}
use Rattle.wt_recut.specs.Recutting.{is_empty, bare}
use Rattle.wt_recut.specs.Cutting.{begins_with_text}
use Rattle.wt_recut.proofs.Recuts.{both_halves}

-- ---- joined texts

abbrev pub JoinedBy : Bool → Type 0 → Type 0
JoinedBy false H = Unit {0}
JoinedBy true H = H

abbrev pub AreJoined : Trees → Type 0
AreJoined none = Unit {0}
AreJoined (more t ts) = JoinedBy (is_text t) ((t ≡ bare t) × (is_empty (label t).own ≡ false) × (begins_with_text ts ≡ false)) × AreJoined ts

text_joined : (r : Option Ranges) (own : List ℕ) (ts : Trees) → AreJoined ts → AreJoined (text_onto r own ts)
text_joined r [] ts h = h
text_joined r (b ∷ bs) none h = ((refl, refl, refl), tt)
text_joined r (b ∷ bs) (more t ts) h = by_test (is_text t) refl
  where
    by_test : (x : Bool) → is_text t ≡ x
        → AreJoined (if x then more (sep_leaf (joined_ranges r (label t).ranges) ((b ∷ bs) ++ (label t).own)) ts else more (sep_leaf r (b ∷ bs)) (more t ts))
    by_test true e = let g = subst (λ x. JoinedBy x
        ((t ≡ bare t) × (is_empty (label t).own ≡ false) × (begins_with_text ts ≡ false))) e h.0 in ((refl, refl, g.2), h.1)
    by_test false e = ((refl, refl, e), h)

onto_joined : (t : Tree) (ts : Trees) → AreJoined ts → AreJoined (onto t ts)
onto_joined t ts h = by_test (is_text t) refl
  where
    by_test : (x : Bool) → is_text t ≡ x → AreJoined (if x then text_onto (label t).ranges (label t).own ts else more t ts)
    by_test true e = text_joined (label t).ranges (label t).own ts h
    by_test false e = (subst (λ x. JoinedBy x ((t ≡ bare t) × (is_empty (label t).own ≡ false) × (begins_with_text ts ≡ false))) (sym e) tt, h)

pub joined_are : (ts : Trees) → AreJoined (joined_texts ts)
joined_are none = tt
joined_are (more t ts) = onto_joined t (joined_texts ts) (joined_are ts)

-- a text before what doesn't begin with one
pub onto_alone : (r : Option Ranges) (own : List ℕ) (ts : Trees) → is_empty own ≡ false → begins_with_text ts ≡ false
    → text_onto r own ts ≡ more (sep_leaf r own) ts
onto_alone r [] ts e f = absurd (cc e)
onto_alone r (b ∷ bs) none e f = refl
onto_alone r (b ∷ bs) (more t ts) e f = ap (λ x. if x then
    more (sep_leaf (joined_ranges r (label t).ranges) ((b ∷ bs) ++ (label t).own)) ts else more (sep_leaf r (b ∷ bs)) (more t ts)) f

pub ranges_joined : (n : ℕ) (r : Option Ranges) → joined_ranges (front_ranges n r) (rest_ranges n r) ≡ r
ranges_joined n None = refl
ranges_joined n (Some r) = refl

parts_joined : (r : Option Ranges) (front rest : List ℕ) (ts : Trees) → is_empty (front ++ rest) ≡ false → begins_with_text (joined_texts ts) ≡ false
    → joined_texts (parts_before r front rest ts) ≡ more (sep_leaf r (front ++ rest)) (joined_texts ts)
parts_joined r front [] ts e f =
    onto_alone r front (joined_texts ts) (ap is_empty (sym (append-nil front)) ∙ e) f ∙ ap (λ x. more (sep_leaf r x) (joined_texts ts)) (sym (append-nil front))
parts_joined r [] (b ∷ bs) ts e f = by_test (is_blank (b ∷ bs))
  where
    by_test : (x : Bool) → joined_texts (more (if x then sep_leaf r (b ∷ bs) else text_leaf r (b ∷ bs)) ts) ≡ more (sep_leaf r (b ∷ bs)) (joined_texts ts)
    by_test true = onto_alone r (b ∷ bs) (joined_texts ts) refl f
    by_test false = onto_alone r (b ∷ bs) (joined_texts ts) refl f
parts_joined r (c ∷ cs) (b ∷ bs) ts e f = by_test (is_blank (b ∷ bs))
  where
    by_test : (x : Bool)
        → joined_texts (if x then more (text_leaf (front_ranges (length (c ∷ cs)) r) (c ∷ cs))
        (more (sep_leaf (rest_ranges (length (c ∷ cs)) r) (b ∷ bs)) ts) else more (text_leaf r ((c ∷ cs) ++ (b ∷ bs))) ts)
        ≡ more (sep_leaf r ((c ∷ cs) ++ (b ∷ bs))) (joined_texts ts)
    by_test true =
        ap (text_onto (front_ranges (length (c ∷ cs)) r) (c ∷ cs)) (onto_alone (rest_ranges (length (c ∷ cs)) r) (b ∷ bs) (joined_texts ts) refl f)
        ∙ ap (λ x. more (sep_leaf x ((c ∷ cs) ++ (b ∷ bs))) (joined_texts ts)) (ranges_joined (length (c ∷ cs)) r)
    by_test false = onto_alone r ((c ∷ cs) ++ (b ∷ bs)) (joined_texts ts) refl f

pub all_parts : (x : Bool) (own : List ℕ) → front_of x own ++ rest_of x own ≡ own
all_parts true own = refl
all_parts false own = both_halves own

pub cut_joins : (behind : Bool) (ts : Trees) → AreJoined ts → joined_texts (cut_from behind ts) ≡ ts
cut_joins behind none h = refl
cut_joins behind (more t ts) h = by_test (is_text t) refl (cut_joins (behind || is_border t) ts h.1)
  where
    by_test : (x : Bool) → is_text t ≡ x → joined_texts (cut_from (behind || is_border t) ts) ≡ ts
        → joined_texts (if x then text_before (from_start behind (leads_to_block ts) (label t).own) (label t).ranges (label t).own
        (cut_from (behind || is_border t) ts) else more t (cut_from (behind || is_border t) ts)) ≡ more t ts
    by_test true e i =
        let g = subst (λ x. JoinedBy x ((t ≡ bare t) × (is_empty (label t).own ≡ false) × (begins_with_text ts ≡ false))) e h.0 in
        let x = from_start behind (leads_to_block ts) (label t).own in
        parts_joined (label t).ranges (front_of x (label t).own) (rest_of x (label t).own) (cut_from (behind || is_border t) ts)
        (ap is_empty (all_parts x (label t).own) ∙ g.1) (ap begins_with_text i ∙ g.2)
        ∙ ap₂ (λ bs us. more (sep_leaf (label t).ranges bs) us) (all_parts x (label t).own) i
        ∙ ap (λ u. more u ts) (sym g.0)
    by_test false e i = ap (λ b. if b then text_onto (label t).ranges (label t).own
        (joined_texts (cut_from (behind || is_border t) ts)) else more t (joined_texts (cut_from (behind || is_border t) ts))) e
        ∙ ap (more t) i

pub recut_joins : (ts : Trees) → joined_texts (recut ts) ≡ joined_texts ts
recut_joins ts = cut_joins false (joined_texts ts) (joined_are ts)

pub recut_again : (ts : Trees) → recut (recut ts) ≡ recut ts
recut_again ts = ap (cut_from false) (recut_joins ts)

-- ---- the source

text_leafs : (k : Kind) → is_as_text (writing k) ≡ true → is_leaf k ≡ true
text_leafs kind.Sep e = refl
text_leafs kind.Text e = refl
text_leafs k e = absurd cc

text_flat : (t : Tree) → is_text t ≡ true → flat t ≡ (label t).own
text_flat (tree l ts) e = ap (λ b. if b then l.own else l.opening ++ flat_of_all ts ++ l.closing) (text_leafs l.kind e)

onto_flat : (t : Tree) (ts : Trees) → flat_of_all (onto t ts) ≡ flat t ++ flat_of_all ts
onto_flat t ts = by_test (is_text t) refl
  where
    by_own : (r : Option Ranges) (own : List ℕ) (ts : Trees) → flat_of_all (text_onto r own ts) ≡ own ++ flat_of_all ts
    by_own r [] ts = refl
    by_own r (b ∷ bs) none = refl
    by_own r (b ∷ bs) (more u us) = by_next (is_text u) refl
      where
        by_next : (x : Bool) → is_text u ≡ x
            → flat_of_all (if x then more (sep_leaf (joined_ranges r (label u).ranges) ((b ∷ bs) ++ (label u).own)) us else
            more (sep_leaf r (b ∷ bs)) (more u us)) ≡ (b ∷ bs) ++ (flat u ++ flat_of_all us)
        by_next true e = append_assoc (b ∷ bs) (label u).own (flat_of_all us) ∙ ap (λ x. (b ∷ bs) ++ (x ++ flat_of_all us)) (sym (text_flat u e))
        by_next false e = refl

    by_test : (x : Bool) → is_text t ≡ x → flat_of_all (if x then text_onto (label t).ranges (label t).own ts else more t ts) ≡ flat t ++ flat_of_all ts
    by_test true e = by_own (label t).ranges (label t).own ts ∙ ap (λ x. x ++ flat_of_all ts) (sym (text_flat t e))
    by_test false e = refl

joined_flat : (ts : Trees) → flat_of_all (joined_texts ts) ≡ flat_of_all ts
joined_flat none = refl
joined_flat (more t ts) = onto_flat t (joined_texts ts) ∙ ap (λ x. flat t ++ x) (joined_flat ts)

pub recut_source : (ts : Trees) → flat_of_all (recut ts) ≡ flat_of_all ts
recut_source ts = sym (joined_flat (recut ts)) ∙ ap flat_of_all (recut_joins ts) ∙ joined_flat ts
