-- What is cut is cut so and not otherwise.
use Rattle.std.proofs.Common.{◌≡◌, ℕ, Bool, true, false, Option, List, [], ◌∷◌, ◌++◌, length, refl, sym, ap, ap₂, ◌∙◌, subst, append-nil}
use Rattle.std.specs.Prelude.{◌&&◌, ◌||◌, if◌then◌else◌}
use Rattle.std.proofs.lemmas.Bool.{eqb-true}
use Rattle.std.proofs.lemmas.List.Folds.{list_all-append, list_any-append}
use Rattle.wt_tree.specs.declared.kind.Kind.{Kind}
use Rattle.wt_tree.specs.declared.kind.Kind.TheVariants as kind
use Rattle.wt_tree.specs.declared.kind.Ranges.{Ranges}
use Rattle.wt_tree.specs.Kinds.{writing, is_block, is_mark}
use Rattle.wt_tree.specs.Tiling.{is_group}
use Rattle.wt_tree.specs.Tree.{Tree, tree, Trees, none, more, label}
use Rattle.wt_tree.specs.Leaves.{text_leaf, sep_leaf}
use Rattle.wt_recut.specs.Recut.{is_space, is_break, is_blank, are_spaces, before_break, from_break, has_break, is_as_text, is_text, is_border, shows_block, any_shows_block, is_passed, leads_to_block, front_ranges, rest_ranges, joined_ranges, text_onto, onto, joined_texts, from_start, parts_before, text_before, cut_from, recut}
use Rattle.wt_recut.specs.Recutting.{is_empty}
use Rattle.wt_recut.specs.Cutting.{begins_with_text, begins_with_break, is_sep_at, has_tail, IsWholeBy, IsWhole, IsFront, StandsBy, AreCut}
use Rattle.wt_recut.proofs.Recuts.{both_halves, whole_before, none_from, before_unfound, from_unfound}
use Rattle.wt_recut.proofs.Cut.{onto_alone}

pub and_left : (a b : Bool) → (a && b) ≡ true → a ≡ true
and_left true b e = refl
and_left false b e = absurd (cc e)

pub and_right : (a b : Bool) → (a && b) ≡ true → b ≡ true
and_right true b e = e
and_right false b e = absurd (cc e)

-- ---- one text

pub parts_text : (r : Option Ranges) (front rest : List ℕ) (ts : Trees) → is_blank rest ≡ false
    → parts_before r front rest ts ≡ more (text_leaf r (front ++ rest)) ts
parts_text r front [] ts e = absurd (cc e)
parts_text r [] (b ∷ bs) ts e = ap (λ x. more (if x then sep_leaf r (b ∷ bs) else text_leaf r (b ∷ bs)) ts) e
parts_text r (c ∷ cs) (b ∷ bs) ts e =
    ap (λ x. if x then more (text_leaf (front_ranges (length (c ∷ cs)) r) (c ∷ cs))
    (more (sep_leaf (rest_ranges (length (c ∷ cs)) r) (b ∷ bs)) ts) else more (text_leaf r ((c ∷ cs) ++ (b ∷ bs))) ts) e

pub parts_sep : (r : Option Ranges) (own : List ℕ) (ts : Trees) → is_empty own ≡ false → is_blank own ≡ true
    → parts_before r [] own ts ≡ more (sep_leaf r own) ts
parts_sep r [] ts e f = absurd (cc e)
parts_sep r (b ∷ bs) ts e f = ap (λ x. more (if x then sep_leaf r (b ∷ bs) else text_leaf r (b ∷ bs)) ts) f

pub parts_both : (r : Option Ranges) (front rest : List ℕ) (ts : Trees) → is_empty front ≡ false → is_empty rest ≡ false → is_blank rest ≡ true
    → parts_before r front rest ts ≡ more (text_leaf (front_ranges (length front) r) front) (more (sep_leaf (rest_ranges (length front) r) rest) ts)
parts_both r front [] ts d e f = absurd (cc e)
parts_both r [] (b ∷ bs) ts d e f = absurd (cc d)
parts_both r (c ∷ cs) (b ∷ bs) ts d e f =
    ap (λ x. if x then more (text_leaf (front_ranges (length (c ∷ cs)) r) (c ∷ cs))
    (more (sep_leaf (rest_ranges (length (c ∷ cs)) r) (b ∷ bs)) ts) else more (text_leaf r ((c ∷ cs) ++ (b ∷ bs))) ts) f

pub nothing_before : (own : List ℕ) → begins_with_break own ≡ true → before_break own ≡ []
nothing_before [] e = absurd (cc e)
nothing_before (b ∷ bs) e = ap (λ x. if x then [] else b ∷ before_break bs) e

pub all_from : (own : List ℕ) → begins_with_break own ≡ true → from_break own ≡ own
all_from [] e = absurd (cc e)
all_from (b ∷ bs) e = ap (λ x. if x then b ∷ bs else from_break bs) e

sep_cut : (r : Option Ranges) (own : List ℕ) (behind leads : Bool) (ts : Trees) → is_empty own ≡ false → is_sep_at behind leads own ≡ true
    → text_before (from_start behind leads own) r own ts ≡ more (sep_leaf r own) ts
sep_cut r own behind leads ts e f = by_test (from_start behind leads own) f
  where
    by_test : (x : Bool) → (is_blank own && (x || begins_with_break own)) ≡ true → text_before x r own ts ≡ more (sep_leaf r own) ts
    by_test true f = parts_sep r own ts e (and_left (is_blank own) true f)
    by_test false f =
        let g = and_right (is_blank own) (begins_with_break own) f in
        ap₂ (λ x y. parts_before r x y ts) (nothing_before own g) (all_from own g) ∙ parts_sep r own ts e (and_left (is_blank own) (begins_with_break own) f)

not_blank : (a b : Bool) → b ≡ true → (a && b) ≡ false → a ≡ false
not_blank false b e f = refl
not_blank true b e f = absurd (cc (sym e ∙ f))

text_cut : (r : Option Ranges) (own : List ℕ) (behind leads : Bool) (ts : Trees) → is_sep_at behind leads own ≡ false → has_tail behind own ≡ false
    → text_before (from_start behind leads own) r own ts ≡ more (text_leaf r own) ts
text_cut r own true leads ts f g = parts_text r [] own ts (not_blank (is_blank own) true refl f)
text_cut r own false leads ts f g = by_test (leads && are_spaces own) f
  where
    by_break : (x : Bool) → has_break own ≡ x → (x && is_blank (from_break own)) ≡ false
        → parts_before r (before_break own) (from_break own) ts ≡ more (text_leaf r own) ts
    by_break true d g = parts_text r (before_break own) (from_break own) ts g ∙ ap (λ x. more (text_leaf r x) ts) (both_halves own)
    by_break false d g = ap₂ (λ x y. parts_before r x y ts) (whole_before own d) (none_from own d)

    by_test : (x : Bool) → (is_blank own && (x || begins_with_break own)) ≡ false → text_before x r own ts ≡ more (text_leaf r own) ts
    by_test true f = parts_text r [] own ts (not_blank (is_blank own) true refl f)
    by_test false f = by_break (has_break own) refl g

whole_cut : (behind leads : Bool) (t : Tree) (ts : Trees) → IsWhole behind leads t
    → text_before (from_start behind leads (label t).own) (label t).ranges (label t).own ts ≡ more t ts
whole_cut behind leads t ts h = by_test (is_sep_at behind leads (label t).own) refl h.1
  where
    by_test : (x : Bool) → is_sep_at behind leads (label t).own ≡ x → IsWholeBy x behind (label t).ranges (label t).own t
        → text_before (from_start behind leads (label t).own) (label t).ranges (label t).own ts ≡ more t ts
    by_test true e g = sep_cut (label t).ranges (label t).own behind leads ts h.0 e ∙ ap (λ x. more x ts) (sym g)
    by_test false e g = text_cut (label t).ranges (label t).own behind leads ts e g.1 ∙ ap (λ x. more x ts) (sym g.0)

-- ---- what leads to a block

text_shows : (t : Tree) → is_text t ≡ true → shows_block t ≡ false
text_shows (tree l ts) e = by_kind l.kind e (any_shows_block ts)
  where
    by_kind : (k : Kind) → is_as_text (writing k) ≡ true → (x : Bool) → (if is_group k then x else is_block k) ≡ false
    by_kind kind.Sep e x = refl
    by_kind kind.Text e x = refl
    by_kind k e x = absurd cc

and_assoc : (a b c : Bool) → ((a && b) && c) ≡ (a && (b && c))
and_assoc true b c = refl
and_assoc false b c = refl

text_passed : (u : Tree) → is_text u ≡ true → is_passed u ≡ are_spaces (label u).own
text_passed u e = ap (λ x. if x then are_spaces (label u).own else is_mark (label u).kind) e

text_leads : (r : Option Ranges) (own : List ℕ) (ts : Trees) → leads_to_block (text_onto r own ts) ≡ (are_spaces own && leads_to_block ts)
text_leads r [] ts = refl
text_leads r (b ∷ bs) none = refl
text_leads r (b ∷ bs) (more u us) = by_test (is_text u) refl
  where
    by_test : (x : Bool) → is_text u ≡ x
        → leads_to_block (if x then more (sep_leaf (joined_ranges r (label u).ranges) ((b ∷ bs) ++ (label u).own)) us else
        more (sep_leaf r (b ∷ bs)) (more u us))
        ≡ (are_spaces (b ∷ bs) && (shows_block u || (is_passed u && leads_to_block us)))
    by_test true e =
        ap (λ x. x && leads_to_block us) (list_all-append is_space (b ∷ bs) (label u).own)
        ∙ and_assoc (are_spaces (b ∷ bs)) (are_spaces (label u).own) (leads_to_block us)
        ∙ ap₂ (λ x y. are_spaces (b ∷ bs) && (x || (y && leads_to_block us))) (sym (text_shows u e)) (sym (text_passed u e))
    by_test false e = refl

onto_leads : (t : Tree) (ts : Trees) → leads_to_block (onto t ts) ≡ leads_to_block (more t ts)
onto_leads t ts = by_test (is_text t) refl
  where
    by_test : (x : Bool) → is_text t ≡ x → leads_to_block (if x then text_onto (label t).ranges (label t).own ts else more t ts)
        ≡ (shows_block t || (is_passed t && leads_to_block ts))
    by_test true e =
        text_leads (label t).ranges (label t).own ts
        ∙ ap₂ (λ x y. x || (y && leads_to_block ts)) (sym (text_shows t e)) (sym (ap (λ x. if x then are_spaces (label t).own else is_mark (label t).kind) e))
    by_test false e = refl

pub joined_leads : (ts : Trees) → leads_to_block (joined_texts ts) ≡ leads_to_block ts
joined_leads none = refl
joined_leads (more t ts) = onto_leads t (joined_texts ts) ∙ ap (λ x. shows_block t || (is_passed t && x)) (joined_leads ts)

-- ---- all of them

pub begins_joined : (ts : Trees) → begins_with_text ts ≡ false → begins_with_text (joined_texts ts) ≡ false
begins_joined none e = refl
begins_joined (more t ts) e = ap (λ x. begins_with_text
    (if x then text_onto (label t).ranges (label t).own (joined_texts ts) else more t (joined_texts ts))) e ∙ e

pub text_border : (t : Tree) → is_text t ≡ true → is_border t ≡ has_break (label t).own
text_border t e = ap (λ x. if x then has_break (label t).own else shows_block t) e

alone_cut : (behind : Bool) (t : Tree) (ts : Trees) → is_text t ≡ true → begins_with_text ts ≡ false
    → IsWhole behind (leads_to_block ts) t → cut_from (behind || is_border t) (joined_texts ts) ≡ ts
    → cut_from behind (joined_texts (more t ts)) ≡ more t ts
alone_cut behind t ts e f h i =
    ap (cut_from behind) (ap (λ x. if x then text_onto (label t).ranges (label t).own (joined_texts ts) else
    more t (joined_texts ts)) e ∙ onto_alone (label t).ranges (label t).own (joined_texts ts) h.0 (begins_joined ts f))
    ∙ ap₂ (λ l b. text_before (from_start behind l (label t).own) (label t).ranges (label t).own
    (cut_from (behind || b) (joined_texts ts))) (joined_leads ts) (sym (text_border t e))
    ∙ ap (text_before (from_start behind (leads_to_block ts) (label t).own) (label t).ranges (label t).own) i
    ∙ whole_cut behind (leads_to_block ts) t ts h

other_cut : (behind : Bool) (t : Tree) (ts : Trees) → is_text t ≡ false → cut_from (behind || is_border t) (joined_texts ts) ≡ ts
    → cut_from behind (joined_texts (more t ts)) ≡ more t ts
other_cut behind t ts e i =
    ap (λ x. cut_from behind (if x then text_onto (label t).ranges (label t).own (joined_texts ts) else more t (joined_texts ts))) e
    ∙ ap (λ x. if x then text_before (from_start behind (leads_to_block (joined_texts ts)) (label t).own) (label t).ranges
    (label t).own (cut_from (behind || is_border t) (joined_texts ts))
    else more t (cut_from (behind || is_border t) (joined_texts ts))) e
    ∙ ap (more t) i

no_space : (b : ℕ) → is_break b ≡ true → is_space b ≡ false
no_space b e = ap is_space (eqb-true b 10 e)

no_spaces : (own : List ℕ) → begins_with_break own ≡ true → are_spaces own ≡ false
no_spaces [] e = absurd (cc e)
no_spaces (b ∷ bs) e = ap (λ x. x && are_spaces bs) (no_space b e)

pub begun : (own : List ℕ) → begins_with_break own ≡ true → (has_break own ≡ true) × (is_empty own ≡ false)
begun [] e = absurd (cc e)
begun (b ∷ bs) e = (ap (λ x. x || has_break bs) e, refl)

onto_next : (r q : Option Ranges) (own bs : List ℕ) (ts : Trees) → is_empty own ≡ false
    → text_onto r own (more (sep_leaf q bs) ts) ≡ more (sep_leaf (joined_ranges r q) (own ++ bs)) ts
onto_next r q [] bs ts e = absurd (cc e)
onto_next r q (c ∷ cs) bs ts e = refl

pub and_none : (a : Bool) → (a && false) ≡ false
and_none true = refl
and_none false = refl

front_cut : (t s : Tree) (ts : Trees) → is_text t ≡ true → is_text s ≡ true → begins_with_text ts ≡ false
    → IsFront false t (more s ts) → cut_from true (joined_texts ts) ≡ ts
    → cut_from false (joined_texts (more t (more s ts))) ≡ more t (more s ts)
front_cut t s ts e f b h i =
    let r = joined_ranges (label t).ranges (label s).ranges in
    let own = (label t).own in
    let bs = (label s).own in
    let g = begun bs h.3 in
    let spaces : are_spaces (own ++ bs) ≡ false = list_all-append is_space own bs
    ∙ ap (λ x. are_spaces own && x) (no_spaces bs h.3) ∙ and_none (are_spaces own) in
    let breaks : has_break (own ++ bs) ≡ true = list_any-append is_break own bs ∙ ap₂ (λ x y. x || y) h.1 g.0 in
    let joins : joined_texts (more t (more s ts)) ≡ more (sep_leaf r (own ++ bs)) (joined_texts ts) =
    ap (λ x. if x then text_onto (label t).ranges own (joined_texts (more s ts)) else more t (joined_texts (more s ts))) e
    ∙ ap (λ x. text_onto (label t).ranges own (if x then text_onto (label s).ranges bs (joined_texts ts) else more s (joined_texts ts))) f
    ∙ ap (text_onto (label t).ranges own) (onto_alone (label s).ranges bs (joined_texts ts) g.1 (begins_joined ts b))
    ∙ onto_next (label t).ranges (label s).ranges own bs (joined_texts ts) h.2 in
    ap (cut_from false) joins
    ∙ ap₂ (λ x y. text_before (leads_to_block (joined_texts ts) && x) r (own ++ bs) (cut_from y (joined_texts ts))) spaces breaks
    ∙ ap₂ (λ x us. text_before x r (own ++ bs) us) (and_none (leads_to_block (joined_texts ts))) i
    ∙ ap₂ (λ x y. parts_before r x y ts) (before_unfound own bs h.1 ∙ ap (λ x. own ++ x) (nothing_before bs h.3) ∙ append-nil own)
    (from_unfound own bs h.1 ∙ all_from bs h.3)
    ∙ parts_both r own bs ts h.2 g.1 h.4
    ∙ ap₂ (λ x y. more x (more y ts)) (sym h.5) (sym h.6)

pub or_true : (a : Bool) → (a || true) ≡ true
or_true true = refl
or_true false = refl

-- no text follows a separator behind a text
last_text : (behind : Bool) (s : Tree) (ts : Trees) → begins_with_break (label s).own ≡ true
    → StandsBy true (begins_with_text ts) (IsWhole behind (leads_to_block ts) s) (IsFront behind s ts) → begins_with_text ts ≡ false
last_text behind s none e h = refl
last_text behind s (more u us) e h = by_test (is_text u) h
  where
    by_test : (x : Bool) → StandsBy true x (IsWhole behind (leads_to_block (more u us)) s) (IsFront behind s (more u us)) → x ≡ false
    by_test true h = absurd (cc (sym (begun (label s).own e).0 ∙ h.1))
    by_test false h = refl

pub only_cut : (ts : Trees) (behind : Bool) → AreCut behind ts → cut_from behind (joined_texts ts) ≡ ts
only_cut none behind h = refl
only_cut (more t none) behind h = by_test (is_text t) refl h.0
  where
    by_test : (x : Bool) → is_text t ≡ x → StandsBy x false (IsWhole behind false t) (IsFront behind t none)
        → cut_from behind (joined_texts (more t none)) ≡ more t none
    by_test true e g = alone_cut behind t none e refl g refl
    by_test false e g = other_cut behind t none e refl
only_cut (more t (more s ss)) behind h = by_test (is_text t) refl (is_text s) refl h.0
    (only_cut (more s ss) (behind || is_border t) h.1) (λ b g. only_cut ss b g)
  where
    by_test : (x : Bool) → is_text t ≡ x → (y : Bool) → is_text s ≡ y
        → StandsBy x y (IsWhole behind (leads_to_block (more s ss)) t) (IsFront behind t (more s ss))
        → cut_from (behind || is_border t) (joined_texts (more s ss)) ≡ more s ss → ((b : Bool) → AreCut b ss → cut_from b (joined_texts ss) ≡ ss)
        → cut_from behind (joined_texts (more t (more s ss))) ≡ more t (more s ss)
    by_test true e true f g i j =
        let d : behind ≡ false = g.0 in
        let k : AreCut (behind || is_border t) (more s ss) = h.1 in
        let st = subst (λ x. StandsBy x (begins_with_text ss) (IsWhole (behind || is_border t) (leads_to_block ss) s)
        (IsFront (behind || is_border t) s ss)) f k.0 in
        let b : begins_with_text ss ≡ false = last_text (behind || is_border t) s ss g.3 st in
        let past : ((behind || is_border t) || is_border s) ≡ true =
        ap₂ (λ x y. (behind || x) || y) (text_border t e ∙ g.1) (text_border s f ∙ (begun (label s).own g.3).0) ∙ or_true (behind || false) in
        ap (λ x. cut_from x (joined_texts (more t (more s ss)))) d ∙ front_cut t s ss e f b (refl, g.1, g.2, g.3, g.4, g.5, g.6)
        (j true (subst (λ x. AreCut x ss) past k.1))
    by_test true e false f g i j = alone_cut behind t (more s ss) e f g i
    by_test false e y f g i j = other_cut behind t (more s ss) e i

pub cut_alone : (ts rs : Trees) → AreCut false rs → joined_texts rs ≡ joined_texts ts → rs ≡ recut ts
cut_alone ts rs h e = sym (only_cut rs false h) ∙ ap (cut_from false) e
