-- Texts and separators cut anew: what the loops of the code go by.
use Rattle.std.proofs.Common.{◌≡◌, ℕ, zero, suc, ◌+◌, ◌<◌, ◌≤◌, Bool, true, false, Option, Some, None, List, [], ◌∷◌, ◌++◌, length, take, drop, get_or, refl, sym, ap, ap₂, ◌∙◌, append_assoc, append-nil, arith, reverse, length-append}
use Rattle.std.specs.Prelude.{◌&&◌, ◌||◌, if◌then◌else◌}
use Rattle.std.specs.List.{list_all, list_any}
use Rattle.std.proofs.lemmas.List.Folds.{list_all-append, list_any-append}
use Rattle.std.proofs.lemmas.List.{take_more, reverse-append}
use Rattle.std.proofs.lemmas.Grind.{flat_map-append}
use Rattle.wt_span.specs.declared.text.Text.{Text}
use Rattle.wt_span.specs.Slice.{bytes_of}
use Rattle.wt_tree.specs.declared.kind.Ranges.{Ranges}
use Rattle.wt_tree.specs.declared.node.Node.{Node}
use Rattle.wt_recut.specs.declared.recut.Halves.{Halves}
use Rattle.wt_tree.specs.Tree.{Tree, Trees, none, more, label}
use Rattle.wt_tree.specs.View.{texts_of, view, views}
use Rattle.wt_tree.specs.Leaves.{text_leaf, sep_leaf}
use Rattle.wt_recut.specs.Recut.{is_white, is_break, before_break, from_break, has_break, is_text, is_border, leads_to_block, front_ranges, rest_ranges, joined_ranges, text_onto, onto, joined_texts, from_start, front_of, rest_of, parts_before, text_before, cut_before, cut_from}
use Rattle.wt_recut.specs.Recutting.{is_empty, appended, joined_pair, bare, push_text, push_joined, leads_of, HalvesGrow, NoBreakBefore}

-- ---- characters of several texts

pub all_texts : (p : ℕ → Bool) (t : Text) (ts : List Text) → list_all p (texts_of (t ∷ ts)) ≡ (list_all p (bytes_of t) && list_all p (texts_of ts))
all_texts p t ts = list_all-append p (bytes_of t) (texts_of ts)

pub any_texts : (p : ℕ → Bool) (t : Text) (ts : List Text) → list_any p (texts_of (t ∷ ts)) ≡ (list_any p (bytes_of t) || list_any p (texts_of ts))
any_texts p t ts = list_any-append p (bytes_of t) (texts_of ts)

-- ---- the first line break

-- before the line break at n no other stands
pub halves_at : (bs : List ℕ) (n : ℕ) → n < length bs → is_break (get_or bs n 0) ≡ true → ((k : ℕ) → k < n → is_break (get_or bs k 0) ≡ false)
    → (take n bs ≡ before_break bs) × (drop n bs ≡ from_break bs) × (has_break bs ≡ true)
halves_at [] n lt e h = absurd (omega (arith, lt))
halves_at (b ∷ bs) zero lt e h = (rw e refl, rw e refl, rw e refl)
halves_at (b ∷ bs) (suc n) lt e h =
    let none_here : is_break b ≡ false = h 0 (omega arith) in
    let rest = halves_at bs n (omega (arith, lt)) e (λ k l. h (suc k) (omega (arith, l))) in
    (rw none_here (ap (λ xs. b ∷ xs) rest.0), rw none_here rest.1, rw none_here rest.2)

pub no_break : (bs : List ℕ) → ((k : ℕ) → k < length bs → is_break (get_or bs k 0) ≡ false) → has_break bs ≡ false
no_break [] h = refl
no_break (b ∷ bs) h = ap₂ (λ x y. x || y) (h 0 (omega arith)) (no_break bs (λ k l. h (suc k) (omega (arith, l))))

pub whole_before : (bs : List ℕ) → has_break bs ≡ false → before_break bs ≡ bs
whole_before [] e = refl
whole_before (b ∷ bs) e = by_test (is_break b) e (λ f. whole_before bs f)
  where
    by_test : (t : Bool) → (t || has_break bs) ≡ false → (has_break bs ≡ false → before_break bs ≡ bs) → (if t then [] else b ∷ before_break bs) ≡ b ∷ bs
    by_test true e h = absurd (cc e)
    by_test false e h = ap (λ xs. b ∷ xs) (h e)

pub none_from : (bs : List ℕ) → has_break bs ≡ false → from_break bs ≡ []
none_from [] e = refl
none_from (b ∷ bs) e = by_test (is_break b) e (λ f. none_from bs f)
  where
    by_test : (t : Bool) → (t || has_break bs) ≡ false → (has_break bs ≡ false → from_break bs ≡ []) → (if t then b ∷ bs else from_break bs) ≡ []
    by_test true e h = absurd (cc e)
    by_test false e h = h e

pub both_halves : (bs : List ℕ) → before_break bs ++ from_break bs ≡ bs
both_halves [] = refl
both_halves (b ∷ bs) = by_test (is_break b) (both_halves bs)
  where
    by_test : (t : Bool) → before_break bs ++ from_break bs ≡ bs → (if t then [] else b ∷ before_break bs) ++ (if t then b ∷ bs else from_break bs) ≡ b ∷ bs
    by_test true h = refl
    by_test false h = ap (λ xs. b ∷ xs) h

pub record IsHalved (h : Halves) (now : Bool) (bs : List ℕ) : Type 0 where
  pub front : texts_of h.front ≡ before_break bs
  pub rest : texts_of h.rest ≡ from_break bs
  pub found : now ≡ has_break bs

-- one text more: behind a line break it goes to the rest whole
before_found : (bs cs : List ℕ) → has_break bs ≡ true → before_break (bs ++ cs) ≡ before_break bs
before_found [] cs e = absurd (cc e)
before_found (b ∷ bs) cs e = by_test (is_break b) e (λ f. before_found bs cs f)
  where
    by_test : (t : Bool) → (t || has_break bs) ≡ true → (has_break bs ≡ true → before_break (bs ++ cs) ≡ before_break bs)
        → (if t then [] else b ∷ before_break (bs ++ cs)) ≡ (if t then [] else b ∷ before_break bs)
    by_test true e h = refl
    by_test false e h = ap (λ xs. b ∷ xs) (h e)

from_found : (bs cs : List ℕ) → has_break bs ≡ true → from_break (bs ++ cs) ≡ from_break bs ++ cs
from_found [] cs e = absurd (cc e)
from_found (b ∷ bs) cs e = by_test (is_break b) e (λ f. from_found bs cs f)
  where
    by_test : (t : Bool) → (t || has_break bs) ≡ true → (has_break bs ≡ true → from_break (bs ++ cs) ≡ from_break bs ++ cs)
        → (if t then b ∷ bs ++ cs else from_break (bs ++ cs)) ≡ (if t then b ∷ bs else from_break bs) ++ cs
    by_test true e h = refl
    by_test false e h = h e

pub before_unfound : (bs cs : List ℕ) → has_break bs ≡ false → before_break (bs ++ cs) ≡ bs ++ before_break cs
before_unfound [] cs e = refl
before_unfound (b ∷ bs) cs e = by_test (is_break b) e (λ f. before_unfound bs cs f)
  where
    by_test : (t : Bool) → (t || has_break bs) ≡ false → (has_break bs ≡ false → before_break (bs ++ cs) ≡ bs ++ before_break cs)
        → (if t then [] else b ∷ before_break (bs ++ cs)) ≡ b ∷ bs ++ before_break cs
    by_test true e h = absurd (cc e)
    by_test false e h = ap (λ xs. b ∷ xs) (h e)

pub from_unfound : (bs cs : List ℕ) → has_break bs ≡ false → from_break (bs ++ cs) ≡ from_break cs
from_unfound [] cs e = refl
from_unfound (b ∷ bs) cs e = by_test (is_break b) e (λ f. from_unfound bs cs f)
  where
    by_test : (t : Bool) → (t || has_break bs) ≡ false → (has_break bs ≡ false → from_break (bs ++ cs) ≡ from_break cs)
        → (if t then b ∷ bs ++ cs else from_break (bs ++ cs)) ≡ from_break cs
    by_test true e h = absurd (cc e)
    by_test false e h = h e

pub halved_more : (h j : Halves) (f now : Bool) (bs cs : List ℕ) → IsHalved h f bs → HalvesGrow h j f cs now → IsHalved j now (bs ++ cs)
halved_more h j true now bs cs i g =
    let found : has_break bs ≡ true = sym i.found in
    record {
      front = g.0 ∙ i.front ∙ sym (before_found bs cs found);
      rest = g.1 ∙ ap (λ xs. xs ++ cs) i.rest ∙ sym (from_found bs cs found);
      found = g.2 ∙ sym (list_any-append is_break bs cs ∙ ap (λ b. b || has_break cs) found);
    }
halved_more h j false now bs cs i g =
    let not_found : has_break bs ≡ false = sym i.found in
    record {
      front = g.0 ∙ ap (λ xs. xs ++ before_break cs) (i.front ∙ whole_before bs not_found) ∙ sym (before_unfound bs cs not_found);
      rest = g.1 ∙ ap (λ xs. xs ++ from_break cs) (i.rest ∙ none_from bs not_found) ∙ sym (from_unfound bs cs not_found);
      found = g.2 ∙ sym (list_any-append is_break bs cs ∙ ap (λ b. b || has_break cs) not_found);
    }

-- ---- lists of nodes

pub appended_none : (ts : Trees) → appended ts none ≡ ts
appended_none none = refl
appended_none (more t ts) = ap (more t) (appended_none ts)

pub appended_assoc : (ts us vs : Trees) → appended (appended ts us) vs ≡ appended ts (appended us vs)
appended_assoc none us vs = refl
appended_assoc (more t ts) us vs = ap (more t) (appended_assoc ts us vs)

pub views_append : (ns ms : List Node) → views (ns ++ ms) ≡ appended (views ns) (views ms)
views_append [] ms = refl
views_append (n ∷ ns) ms = ap (more (view n)) (views_append ns ms)

-- ---- which children lead to a block, from the last

pub record AreLeads (ns : List Node) (at : ℕ) (flags : List Bool) (leads : Bool) : Type 0 where
  pub within : at ≤ length ns
  pub flags_are : flags ≡ reverse (leads_of (views (drop at ns)))
  pub leads_is : leads ≡ leads_to_block (views (drop at ns))

-- ---- joining

abbrev pub pushed_all : Trees → Trees → Trees
pushed_all acc none = acc
pushed_all acc (more t ts) = pushed_all (push_joined acc t) ts

-- children before others, where the last of them is joined with the first of these
abbrev glue : Trees → Trees → Trees
glue none us = us
glue (more t none) none = more t none
glue (more t none) (more u us) = if is_text t && is_text u then more (joined_pair t u) us else more t (more u us)
glue (more t (more s ts)) us = more t (glue (more s ts) us)

ranges_assoc : (a b c : Option Ranges) → joined_ranges (joined_ranges a b) c ≡ joined_ranges a (joined_ranges b c)
ranges_assoc None b c = refl
ranges_assoc (Some a) None c = refl
ranges_assoc (Some a) (Some b) None = refl
ranges_assoc (Some a) (Some b) (Some c) = refl

push_last : (ts : Trees) (t u : Tree) → push_text (appended ts (more t none)) u ≡ appended ts (push_text (more t none) u)
push_last none t u = refl
push_last (more s none) t u = refl
push_last (more s (more r ts)) t u = ap (more s) (push_last (more r ts) t u)

glue_last : (ts : Trees) (t : Tree) (us : Trees) → is_text t ≡ false → glue (appended ts (more t none)) us ≡ appended ts (more t us)
glue_last none t none e = refl
glue_last none t (more u us) e = ap (λ b. if b && is_text u then more (joined_pair t u) us else more t (more u us)) e
glue_last (more s none) t us e = ap (more s) (glue_last none t us e)
glue_last (more s (more r ts)) t us e = ap (more s) (glue_last (more r ts) t us e)

glue_other : (ts : Trees) (t : Tree) (us : Trees) → is_text t ≡ false → glue ts (more t us) ≡ appended ts (more t us)
glue_other none t us e = refl
glue_other (more s none) t us e = by_test (is_text s)
  where
    by_test : (b : Bool) → (if b && is_text t then more (joined_pair s t) us else more s (more t us)) ≡ more s (more t us)
    by_test true = ap (λ c. if c then more (joined_pair s t) us else more s (more t us)) e
    by_test false = refl
glue_other (more s (more r ts)) t us e = ap (more s) (glue_other (more r ts) t us e)

-- a text that isn't empty, before others
onto_some : (u : Tree) (us : Trees) → is_text u ≡ true → is_empty (label u).own ≡ false → onto u us ≡ glue (more (bare u) none) us
onto_some u none e f = rw e (by_own (label u).own f)
  where
    by_own : (bs : List ℕ) → is_empty bs ≡ false → text_onto (label u).ranges bs none ≡ more (sep_leaf (label u).ranges bs) none
    by_own [] g = absurd (cc g)
    by_own (b ∷ bs) g = refl
onto_some u (more t ts) e f = rw e (by_own (label u).own f)
  where
    by_own : (bs : List ℕ) → is_empty bs ≡ false
        → text_onto (label u).ranges bs (more t ts) ≡
        (if is_text t then more (sep_leaf (joined_ranges (label u).ranges (label t).ranges) (bs ++ (label t).own)) ts else
        more (sep_leaf (label u).ranges bs) (more t ts))
    by_own [] g = absurd (cc g)
    by_own (b ∷ bs) g = refl

onto_empty : (u : Tree) (us : Trees) → is_text u ≡ true → is_empty (label u).own ≡ true → onto u us ≡ us
onto_empty u us e f = rw e (by_own (label u).own f)
  where
    by_own : (bs : List ℕ) → is_empty bs ≡ true → text_onto (label u).ranges bs us ≡ us
    by_own [] g = refl
    by_own (b ∷ bs) g = absurd (cc g)

pair_assoc : (t u v : Tree) → joined_pair (joined_pair t u) v ≡ joined_pair t (joined_pair u v)
pair_assoc t u v = ap₂ sep_leaf (ranges_assoc (label t).ranges (label u).ranges (label v).ranges) (append_assoc (label t).own (label u).own (label v).own)

glue_text : (ts : Trees) (u : Tree) (us : Trees) → glue (push_text ts u) us ≡ glue ts (glue (more (bare u) none) us)
glue_text none u us = refl
glue_text (more t none) u us = by_test (is_text t) refl us
  where
    by_test : (b : Bool) → is_text t ≡ b → (us : Trees)
        → glue (if b then more (joined_pair t u) none else more t (more (bare u) none)) us
        ≡ glue (more t none) (glue (more (bare u) none) us)
    by_test true e none = sym (ap (λ c. if c && true then more (joined_pair t u) none else more t (more (bare u) none)) e)
    by_test true e (more v vs) = by_next (is_text v)
      where
        by_next : (c : Bool) → (if c then more (joined_pair (joined_pair t u) v) vs else more (joined_pair t u) (more v vs))
            ≡ glue (more t none) (if c then more (joined_pair (bare u) v) vs else more (bare u) (more v vs))
        by_next true = ap (λ x. more x vs) (pair_assoc t u v)
            ∙ sym (ap (λ c. if c && true then more (joined_pair t (joined_pair (bare u) v)) vs else
            more t (more (joined_pair (bare u) v) vs)) e)
        by_next false = sym (ap (λ c. if c && true then more (joined_pair t u) (more v vs) else more t (more (bare u) (more v vs))) e)
    by_test false e none = sym (ap (λ c. if c && true then more (joined_pair t u) none else more t (more (bare u) none)) e)
    by_test false e (more v vs) = by_next (is_text v)
      where
        by_next : (c : Bool) → more t (if c then more (joined_pair (bare u) v) vs else more (bare u) (more v vs))
            ≡ glue (more t none) (if c then more (joined_pair (bare u) v) vs else more (bare u) (more v vs))
        by_next true = sym (ap (λ c. if c && true then more (joined_pair t (joined_pair (bare u) v)) vs else more t (more (joined_pair (bare u) v) vs)) e)
        by_next false = sym (ap (λ c. if c && true then more (joined_pair t u) (more v vs) else more t (more (bare u) (more v vs))) e)
glue_text (more t (more s ts)) u us = glue_more t (push_text (more s ts) u) us (some_pushed (more s ts) u) ∙ ap (more t) (glue_text (more s ts) u us)
  where
    is_some : Trees → Bool
    is_some none = false
    is_some (more t ts) = true

    some_pushed : (ts : Trees) (u : Tree) → is_some (push_text ts u) ≡ true
    some_pushed none u = refl
    some_pushed (more t none) u = by_test (is_text t)
      where
        by_test : (b : Bool) → is_some (if b then more (joined_pair t u) none else more t (more (bare u) none)) ≡ true
        by_test true = refl
        by_test false = refl
    some_pushed (more t (more s ts)) u = refl

    glue_more : (t : Tree) (ts us : Trees) → is_some ts ≡ true → glue (more t ts) us ≡ more t (glue ts us)
    glue_more t none us e = absurd (cc e)
    glue_more t (more s ts) us e = refl

glue_joined : (ts : Trees) (u : Tree) (us : Trees) → glue (push_joined ts u) us ≡ glue ts (onto u us)
glue_joined ts u us = by_test (is_text u) refl (is_empty (label u).own) refl
  where
    by_test : (b : Bool) → is_text u ≡ b → (c : Bool) → is_empty (label u).own ≡ c
        → glue (if b then (if c then ts else push_text ts u) else appended ts (more u none)) us ≡ glue ts (onto u us)
    by_test true e true f = ap (glue ts) (sym (onto_empty u us e f))
    by_test true e false f = glue_text ts u us ∙ ap (glue ts) (sym (onto_some u us e f))
    by_test false e c f = glue_last ts u us e ∙ sym (glue_other ts u us e)
        ∙ ap (glue ts) (sym (ap (λ b. if b then text_onto (label u).ranges (label u).own us else more u us) e))

all_glued : (acc ts : Trees) → pushed_all acc ts ≡ glue acc (joined_texts ts)
all_glued acc none = sym (glue_none acc)
  where
    glue_none : (ts : Trees) → glue ts none ≡ ts
    glue_none none = refl
    glue_none (more t none) = refl
    glue_none (more t (more s ts)) = ap (more t) (glue_none (more s ts))
all_glued acc (more t ts) = all_glued (push_joined acc t) ts ∙ glue_joined acc t (joined_texts ts)

pub all_joined : (ts : Trees) → pushed_all none ts ≡ joined_texts ts
all_joined ts = all_glued none ts

-- ---- cutting

pub record IsCutting (all : Trees) (behind : Bool) (done rest : Trees) (flags : List Bool) : Type 0 where
  pub cut : appended done (cut_from behind rest) ≡ cut_from false all
  pub flags_are : flags ≡ reverse (leads_of rest)

parts_split : (r : Option Ranges) (front rest : List ℕ) (us : Trees) → parts_before r front rest us ≡ appended (parts_before r front rest none) us
parts_split r front [] us = refl
parts_split r [] (b ∷ bs) us = refl
parts_split r (c ∷ cs) (b ∷ bs) us = by_test (list_all is_white (b ∷ bs))
  where
    by_test : (t : Bool)
        → (if t then more (text_leaf (front_ranges (length (c ∷ cs)) r) (c ∷ cs))
        (more (sep_leaf (rest_ranges (length (c ∷ cs)) r) (b ∷ bs)) us) else more (text_leaf r ((c ∷ cs) ++ (b ∷ bs))) us)
        ≡ appended (if t then more (text_leaf (front_ranges (length (c ∷ cs)) r) (c ∷ cs))
        (more (sep_leaf (rest_ranges (length (c ∷ cs)) r) (b ∷ bs)) none) else more (text_leaf r ((c ∷ cs) ++ (b ∷ bs))) none) us
    by_test true = refl
    by_test false = refl

cut_split : (behind leads : Bool) (t : Tree) (us : Trees) → cut_before behind leads t us ≡ appended (cut_before behind leads t none) us
cut_split behind leads t us = by_test (is_text t)
  where
    by_test : (b : Bool) → (if b then text_before (from_start behind leads (label t).own) (label t).ranges (label t).own us else more t us)
        ≡ appended (if b then text_before (from_start behind leads (label t).own) (label t).ranges (label t).own none else more t none) us
    by_test true = parts_split (label t).ranges (front_of (from_start behind leads (label t).own) (label t).own)
        (rest_of (from_start behind leads (label t).own) (label t).own) us
    by_test false = refl

pub cut_step : (all : Trees) (behind : Bool) (done : Trees) (t : Tree) (ts parts : Trees) → appended done (cut_from behind (more t ts)) ≡ cut_from false all
    → parts ≡ cut_before behind (leads_to_block ts) t none → appended (appended done parts) (cut_from (behind || is_border t) ts) ≡ cut_from false all
cut_step all behind done t ts parts e f =
    let x : Trees = cut_from (behind || is_border t) ts in
    appended_assoc done parts x ∙ ap (appended done) (ap (λ p. appended p x) f ∙ sym (cut_split behind (leads_to_block ts) t x)) ∙ e

-- ---- what the steps push

some_first : (bs : List Bool) (b c : Bool) → [] ≡ bs ++ b ∷ [] → ⊥
some_first [] b c e = cc e
some_first (x ∷ xs) b c e = cc e

tail_of : List Bool → List Bool
tail_of [] = []
tail_of (b ∷ bs) = bs

head_of : List Bool → Bool
head_of [] = false
head_of (b ∷ bs) = b

same_front : (bs cs : List Bool) (b c : Bool) → bs ++ b ∷ [] ≡ cs ++ c ∷ [] → bs ≡ cs
unfolding tail_of head_of
same_front [] [] b c e = refl
same_front [] (y ∷ ys) b c e = absurd (some_first ys c c (ap tail_of e))
same_front (x ∷ xs) [] b c e = absurd (some_first xs b b (sym (ap tail_of e)))
same_front (x ∷ xs) (y ∷ ys) b c e = ap₂ (λ h t. h ∷ t) (ap head_of e) (same_front xs ys b c (ap tail_of e))

same_last : (bs cs : List Bool) (b c : Bool) → bs ++ b ∷ [] ≡ cs ++ c ∷ [] → b ≡ c
unfolding tail_of head_of
same_last [] [] b c e = ap head_of e
same_last [] (y ∷ ys) b c e = absurd (some_first ys c c (ap tail_of e))
same_last (x ∷ xs) [] b c e = absurd (some_first xs b b (sym (ap tail_of e)))
same_last (x ∷ xs) (y ∷ ys) b c e = same_last xs ys b c (ap tail_of e)

pub push_one : (old new : List Node) (a : Node) → new ≡ old ++ a ∷ [] → views new ≡ appended (views old) (more (view a) none)
push_one old new a e = ap views e ∙ views_append old (a ∷ [])

pub push_two : (old mid new : List Node) (a b : Node) → mid ≡ old ++ a ∷ [] → new ≡ mid ++ b ∷ []
    → views new ≡ appended (views old) (more (view a) (more (view b) none))
push_two old mid new a b e f =
    push_one mid new b f ∙ ap (λ ts. appended ts (more (view b) none)) (push_one old mid a e)
    ∙ appended_assoc (views old) (more (view a) none) (more (view b) none)

-- the last of them is a text, or isn't
pub pushed_joined : (all old new : List Node) (last u n : Node) → all ≡ old ++ last ∷ [] → is_text (view last) ≡ true
    → view n ≡ joined_pair (view last) (view u) → new ≡ old ++ n ∷ []
    → views new ≡ push_text (views all) (view u)
pushed_joined all old new last u n e f g h =
    push_one old new n h ∙ ap (λ x. appended (views old) (more x none)) g
    ∙ sym (ap (λ ts. push_text ts (view u)) (push_one old all last e) ∙ push_last (views old) (view last) (view u)
    ∙ ap (λ b. appended (views old) (if b then more (joined_pair (view last) (view u)) none else more (view last) (more (bare (view u)) none))) f)

pub pushed_beside : (all old mid new : List Node) (last u n : Node) → all ≡ old ++ last ∷ [] → is_text (view last) ≡ false
    → view n ≡ bare (view u) → mid ≡ old ++ last ∷ [] → new ≡ mid ++ n ∷ []
    → views new ≡ push_text (views all) (view u)
pushed_beside all old mid new last u n e f g h i =
    push_two old mid new last n h i ∙ ap (λ x. appended (views old) (more (view last) (more x none))) g
    ∙ sym (ap (λ ts. push_text ts (view u)) (push_one old all last e) ∙ push_last (views old) (view last) (view u)
    ∙ ap (λ b. appended (views old) (if b then more (joined_pair (view last) (view u)) none else more (view last) (more (bare (view u)) none))) f)

pub pushed_other : (old new : List Node) (n : Node) → is_text (view n) ≡ false → new ≡ old ++ n ∷ [] → views new ≡ push_joined (views old) (view n)
pushed_other old new n e f = push_one old new n f
    ∙ sym (ap (λ b. if b then (if is_empty (label (view n)).own then views old else push_text (views old) (view n)) else
    appended (views old) (more (view n) none)) e)

pub texts_more : (ts : List Text) (i : ℕ) (t : Text) → i < length ts → t ≡ get_or ts i t → texts_of (take (i + 1) ts) ≡ texts_of (take i ts) ++ bytes_of t
texts_more ts i t lt e =
    ap texts_of (take_more ts i t lt ∙ ap (λ x. take i ts ++ x ∷ []) (sym e)) ∙ flat_map-append bytes_of (take i ts) (t ∷ [])
    ∙ ap (λ x. texts_of (take i ts) ++ x) (append-nil (bytes_of t))

pub flags_popped : (flags left : List Bool) (lead : Bool) (t : Tree) (ts : Trees) → flags ≡ reverse (leads_of (more t ts))
    → flags ≡ left ++ lead ∷ [] → (left ≡ reverse (leads_of ts)) × (lead ≡ leads_to_block ts)
flags_popped flags left lead t ts e f =
    let g : left ++ lead ∷ [] ≡ reverse (leads_of ts) ++ leads_to_block ts ∷ [] = sym f ∙ e ∙ reverse-append (leads_to_block ts ∷ []) (leads_of ts) in
    (same_front left (reverse (leads_of ts)) lead (leads_to_block ts) g, same_last left (reverse (leads_of ts)) lead (leads_to_block ts) g)

pub split_found : (bs cs p q : List ℕ) (n m : ℕ) → cs ≡ bs → n < length cs → NoBreakBefore cs n → is_break (get_or cs n 0) ≡ true
    → m ≡ n → p ≡ take m bs → q ≡ drop m bs
    → (has_break bs ≡ true) × (p ≡ before_break bs) × (q ≡ from_break bs)
split_found bs cs p q n m e lt before here same f g =
    let h = halves_at cs n lt here before in
    (sym (ap has_break e) ∙ h.2, f ∙ ap₂ take same (sym e) ∙ h.0 ∙ ap before_break e, g ∙ ap₂ drop same (sym e) ∙ h.1 ∙ ap from_break e)

pub split_none : (bs cs : List ℕ) (n : ℕ) → cs ≡ bs → length cs ≤ n → NoBreakBefore cs n → has_break bs ≡ false
split_none bs cs n e le before = sym (ap has_break e) ∙ no_break cs (λ k l. before k (omega (arith, l, le)))

pub some_flags : (t : Tree) (ts : Trees) (flags : List Bool) → flags ≡ reverse (leads_of (more t ts)) → 0 < length flags
some_flags t ts flags e = omega (
  arith,
  ap length (e ∙ reverse-append (leads_to_block ts ∷ []) (leads_of ts)),
  length-append (reverse (leads_of ts)) (leads_to_block ts ∷ []),
)

pub no_items : {A : Type 0} (xs : List A) → length xs ≡ 0 → xs ≡ []
no_items [] e = refl
no_items (x ∷ xs) e = absurd (omega (arith, e))

-- a text without a line break goes to the front whole
pub half_whole : (h : Halves) (front : List Text) (t : Text) (found : Bool) → found ≡ false → has_break (bytes_of t) ≡ false → front ≡ h.front ++ t ∷ []
    → HalvesGrow h (record { front = front; rest = h.rest }) found (bytes_of t) false
half_whole h front t true e f g = absurd (cc e)
half_whole h front t false e f g = (
  ap texts_of g ∙ flat_map-append bytes_of h.front (t ∷ []) ∙ ap (λ x. texts_of h.front ++ x) (append-nil (bytes_of t) ∙ sym (whole_before (bytes_of t) f)),
  sym (append-nil (texts_of h.rest)) ∙ ap (λ x. texts_of h.rest ++ x) (sym (none_from (bytes_of t) f)),
  sym f,
)

-- one node more was cut
pub cutting_more : (all : Trees) (behind : Bool) (done now : List Node) (t : Node) (ts : Trees) (parts : Trees) (flags left : List Bool) (lead next : Bool)
    → IsCutting all behind (views done) (more (view t) ts) flags → flags ≡ left ++ lead ∷ []
    → parts ≡ cut_before behind lead (view t) none → next ≡ (behind || is_border (view t)) → views now ≡ appended (views done) parts
    → IsCutting all next (views now) ts left
cutting_more all behind done now t ts parts flags left lead next h e f g i =
    let p = flags_popped flags left lead (view t) ts h.flags_are e in
    record {
      cut = ap₂ (λ x b. appended x (cut_from b ts)) i g ∙ cut_step all behind (views done) (view t) ts parts h.cut
          (f ∙ ap (λ l. cut_before behind l (view t) none) p.1);
      flags_are = p.0;
    }
