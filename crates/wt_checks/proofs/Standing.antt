-- What stands for the page's children of a node that is marked `children`: where with it the list is the
-- page's, each child with a number is the page's.
use Rattle.std.proofs.Common.{◌≡◌, ◌≢◌, ◌≤◌, ℕ, suc, Bool, true, false, List, [], ◌∷◌, ◌++◌, refl, sym, ap, ◌∙◌, arith}
use Rattle.std.specs.Prelude.{◌==◌, ◌||◌, not, if◌then◌else◌, Some}
use Rattle.std.specs.List.{AllByRecursion}
use Rattle.wt_tree.specs.Kinds.{showing}
use Rattle.wt_tree.specs.Tree.{Tree, tree, Trees, none, more, label, listed}
use Rattle.wt_checks.specs.Gist.{Gist, Gists, ended, along, gist, gists}
use Rattle.wt_checks.specs.Ids.{stands, is_repeated}
use Rattle.wt_checks.specs.Kept.{children}
use Rattle.wt_checks.specs.Places.{Place, placed, all_placed, places, number, is_kept, is_content, Page, parent_below}
use Rattle.wt_checks.specs.PutBack.{numbered_or, as_they_stand, all_put_back}
use Rattle.wt_checks.specs.Unmarked.{is_compared}
use Rattle.wt_checks.proofs.Found.{Found}
use Rattle.wt_checks.proofs.InOrder.{Nowhere, kept_not_zero, not_zero_kept, same_by, test_equal, test_other}
use Rattle.wt_checks.proofs.Lookups.{each_split, each_join}
use Rattle.wt_checks.proofs.Repeated.{or_false, and_not}

abbrev pub is_shown : Tree → Bool
is_shown t = is_compared (showing (label t).kind)

-- what stands for a child of the page's
abbrev pub standing : Tree → Trees → Tree
standing t vs = if (label t).id == 0 then t else numbered_or t (label t).id vs

-- ---- the lists are one: so are their members

abbrev count : Gists → ℕ
count ended = 0
count (along g gs) = suc (count gs)

-- what is compared in the page is compared as it stands
abbrev pub StaysShown : Trees → Tree → Type 0
StaysShown vs t = is_shown t ≡ true → is_shown (standing t vs) ≡ true

no_fewer_by : (c b : Bool) (g k : Gist) (xs ys : Gists) → (c ≡ true → b ≡ true) → count xs ≤ count ys
    → count (if c then along g xs else xs) ≤ count (if b then along k ys else ys)
no_fewer_by true true g k xs ys f h = omega (arith, h)
no_fewer_by true false g k xs ys f h = let e : false ≡ true = f refl in absurd (cc)
no_fewer_by false true g k xs ys f h = omega (arith, h)
no_fewer_by false false g k xs ys f h = h

no_fewer : (ts vs : Trees) → AllByRecursion (StaysShown vs) (listed ts) → count (gists ts) ≤ count (gists (as_they_stand ts vs))
no_fewer none vs h = omega arith
no_fewer (more t ts) vs h =
    no_fewer_by (is_shown t) (is_shown (standing t vs)) (gist t) (gist (standing t vs)) (gists ts) (gists (as_they_stand ts vs)) h.0
    (no_fewer ts vs h.1)

one_by : (c b : Bool) (g k : Gist) (xs ys : Gists) → (c ≡ true → b ≡ true) → count xs ≤ count ys
    → (if b then along k ys else ys) ≡ (if c then along g xs else xs) → (b ≡ true → k ≡ g) × (ys ≡ xs)
one_by true true g k xs ys f h e = ((λ b. cc), cc)
one_by true false g k xs ys f h e = let d : false ≡ true = f refl in absurd (cc)
one_by false true g k xs ys f h e = let d : suc (count ys) ≡ count xs = ap count e in absurd (omega (arith, h, d))
one_by false false g k xs ys f h e = ((λ b. absurd (cc)), e)

-- each child as it stands is the page's
abbrev pub StandsAlike : Trees → Tree → Type 0
StandsAlike vs t = is_shown (standing t vs) ≡ true → gist (standing t vs) ≡ gist t

pub stand_alike : (ts vs : Trees) → gists (as_they_stand ts vs) ≡ gists ts → AllByRecursion (StaysShown vs) (listed ts)
    → AllByRecursion (StandsAlike vs) (listed ts)
stand_alike none vs e h = tt
stand_alike (more t ts) vs e h =
    let r = one_by (is_shown t) (is_shown (standing t vs)) (gist t) (gist (standing t vs)) (gists ts) (gists (as_they_stand ts vs)) h.0
    (no_fewer ts vs h.1) e in
    (r.0, stand_alike ts vs r.1 h.1)

-- ---- what isn't compared as it stands isn't compared in the page

abbrev pub HiddenThere : Page → Tree → Type 0
HiddenThere page v = (label v).id ≢ 0 → is_shown v ≡ false → (r : Place) → page (label v).id ≡ Some r → is_shown r.node ≡ false

not_both : (b : Bool) → b ≡ true → b ≡ false → ⊥
not_both b e f = absurd (cc)

numbered_shown : (page : Page) (t : Tree) (r : Place) (vs : Trees) → (label t).id ≢ 0 → page (label t).id ≡ Some r → r.node ≡ t
    → AllByRecursion (HiddenThere page) (listed vs) → is_shown t ≡ true → is_shown (numbered_or t (label t).id vs) ≡ true
numbered_shown page t r none z e n h s = s
numbered_shown page t r (more v vs) z e n h s =
    by_number ((label v).id == (label t).id) refl (is_shown v) refl (numbered_shown page t r vs z e n h.1 s)
  where
    by_number : (b : Bool) → ((label v).id == (label t).id) ≡ b → (c : Bool) → is_shown v ≡ c → is_shown (numbered_or t (label t).id vs) ≡ true
        → is_shown (if b then v else numbered_or t (label t).id vs) ≡ true
    by_number true i true c f = c
    by_number true i false c f =
        let d : (label v).id ≡ (label t).id = same_by (label v).id (label t).id i in
        absurd (not_both (is_shown t) s (sym (ap is_shown n) ∙ h.0 (λ y. z (sym d ∙ y)) c r (ap page d ∙ e)))
    by_number false i c k f = f

standing_shown : (page : Page) (t : Tree) (vs : Trees) → Found page t → AllByRecursion (HiddenThere page) (listed vs) → StaysShown vs t
standing_shown page t vs f h = λ s. by_zero ((label t).id == 0) refl s
  where
    by_zero : (b : Bool) → ((label t).id == 0) ≡ b → is_shown t ≡ true → is_shown (if b then t else numbered_or t (label t).id vs) ≡ true
    by_zero true e s = s
    by_zero false e s =
        let z : (label t).id ≢ 0 = kept_not_zero (label t).id (ap not e) in
        let r = f z in
        numbered_shown page t r.0 vs z r.1 r.2 h s

pub all_shown : (page : Page) (ts vs : Trees) → AllByRecursion (Found page) (listed ts) → AllByRecursion (HiddenThere page) (listed vs)
    → AllByRecursion (StaysShown vs) (listed ts)
all_shown page none vs f h = tt
all_shown page (more t ts) vs f h = (standing_shown page t vs f.0 h, all_shown page ts vs f.1 h)

-- ---- where no number stands twice, each tree stands for the child with its number

abbrev pub Distinct : Trees → Type 0
Distinct none = Unit {0}
Distinct (more v vs) = ((label v).id ≢ 0 → AllByRecursion (λ u. (label v).id ≢ (label u).id) (listed vs)) × Distinct vs

abbrev pub Picked : Trees → Tree → Type 0
Picked vs v = (label v).id ≢ 0 → (t : Tree) → (label t).id ≡ (label v).id → standing t vs ≡ v

-- a tree with a number is looked for
sought : (t : Tree) (vs : Trees) → (label t).id ≢ 0 → standing t vs ≡ numbered_or t (label t).id vs
sought t vs z = ap (λ b. if b then t else numbered_or t (label t).id vs) (test_other (label t).id 0 z)

picked_first : (v : Tree) (vs : Trees) → Picked (more v vs) v
picked_first v vs z t e =
    sought t (more v vs) (λ i. z (sym e ∙ i))
    ∙ ap (λ b. if b then v else numbered_or t (label t).id vs) (test_equal (label v).id (label t).id (sym e))

picked_later : (v : Tree) (all ws : Trees) → ((label v).id ≢ 0 → AllByRecursion (λ u. (label v).id ≢ (label u).id) (listed ws))
    → AllByRecursion (Picked all) (listed ws) → AllByRecursion (Picked (more v all)) (listed ws)
picked_later v all none d p = tt
picked_later v all (more w ws) d p = (
  λ z t e. sought t (more v all) (λ i. z (sym e ∙ i))
      ∙ ap (λ b. if b then v else numbered_or t (label t).id all)
      (test_other (label v).id (label t).id (λ i. (d (λ y. z (sym e ∙ sym i ∙ y))).0 (i ∙ e)))
      ∙ sym (sought t all (λ i. z (sym e ∙ i))) ∙ p.0 z t e,
  picked_later v all ws (λ y. (d y).1) p.1,
)

pub all_picked : (vs : Trees) → Distinct vs → AllByRecursion (Picked vs) (listed vs)
all_picked none d = tt
all_picked (more v vs) d = (picked_first v vs, picked_later v vs vs d.0 (all_picked vs d.1))

-- ---- no number stands twice among the children of a node

abbrev Unrepeated : List Place → Type 0
Unrepeated [] = Unit {0}
Unrepeated (p ∷ ps) = (is_kept p ≡ true → AllByRecursion (λ q. number p ≢ number q) ps) × Unrepeated ps

others : (n : ℕ) (ps : List Place) → stands n ps ≡ false → AllByRecursion (λ q. n ≢ number q) ps
others n [] e = tt
others n (q ∷ ps) e =
    let h = or_false (number q == n) (stands n ps) e in
    ((λ i. not_both (number q == n) (test_equal (number q) n (sym i)) h.0), others n ps h.1)

unrepeated : (before ps : List Place) → Nowhere is_repeated before ps → Unrepeated ps
unrepeated before [] h = tt
unrepeated before (p ∷ ps) h = (
  λ k. others (number p) ps
      (or_false (stands (number p) before) (stands (number p) ps)
      (and_not (is_kept p) (stands (number p) before || stands (number p) ps) h.0 k)).1,
  unrepeated (before ++ p ∷ []) ps h.1,
)

unrepeated_split : (xs ys : List Place) → Unrepeated (xs ++ ys) → Unrepeated xs × Unrepeated ys
unrepeated_split [] ys h = (tt, h)
unrepeated_split (x ∷ xs) ys h =
    let r = unrepeated_split xs ys h.1 in
    (((λ k. (each_split (λ q. number x ≢ number q) xs ys (h.0 k)).0), r.0), r.1)

other_children : (n parent : ℕ) (within : Bool) (ts : Trees) → AllByRecursion (λ q. n ≢ number q) (all_placed parent within ts)
    → AllByRecursion (λ u. n ≢ (label u).id) (listed ts)
other_children n parent within none h = tt
other_children n parent within (more (tree l us) ts) h =
    let s = each_split (λ q. n ≢ number q) (placed parent within (tree l us)) (all_placed parent within ts) h in
    (s.0.0, other_children n parent within ts s.1)

distinct_children : (parent : ℕ) (within : Bool) (ts : Trees) → Unrepeated (all_placed parent within ts) → Distinct ts
distinct_children parent within none h = tt
distinct_children parent within (more (tree l us) ts) h =
    let s = unrepeated_split (placed parent within (tree l us)) (all_placed parent within ts) h in (
      λ z. other_children l.id parent within ts
          (each_split (λ q. l.id ≢ number q) (all_placed (parent_below parent l.id) (within || is_content l.mark) us) (all_placed parent within ts)
          (h.0 (not_zero_kept l.id z))).1,
      distinct_children parent within ts s.1,
    )

mutual
  distinct_below : (parent : ℕ) (within : Bool) (t : Tree) → Unrepeated (placed parent within t)
      → AllByRecursion (λ p. Distinct (children p.node)) (placed parent within t)
  distinct_below parent within (tree l ts) h = (
    distinct_children (parent_below parent l.id) (within || is_content l.mark) ts h.1,
    all_distinct_below (parent_below parent l.id) (within || is_content l.mark) ts h.1,
  )

  all_distinct_below : (parent : ℕ) (within : Bool) (ts : Trees) → Unrepeated (all_placed parent within ts)
      → AllByRecursion (λ p. Distinct (children p.node)) (all_placed parent within ts)
  all_distinct_below parent within none h = tt
  all_distinct_below parent within (more t ts) h =
      let s = unrepeated_split (placed parent within t) (all_placed parent within ts) h in
      each_join (λ p. Distinct (children p.node)) (placed parent within t) (all_placed parent within ts) (distinct_below parent within t s.0)
      (all_distinct_below parent within ts s.1)

pub all_distinct : (t : Tree) → Nowhere is_repeated [] (places t) → AllByRecursion (λ p. Distinct (children p.node)) (places t)
all_distinct t h = distinct_below 0 false t (unrepeated [] (places t) h)

-- the same with all put back
back_others : (n : ℕ) (values : Bool) (page : Page) (ts : Trees) → AllByRecursion (λ u. n ≢ (label u).id) (listed ts)
    → AllByRecursion (λ u. n ≢ (label u).id) (listed (all_put_back values page ts))
back_others n values page none h = tt
back_others n values page (more (tree l us) ts) h = (h.0, back_others n values page ts h.1)

pub back_distinct : (values : Bool) (page : Page) (ts : Trees) → Distinct ts → Distinct (all_put_back values page ts)
back_distinct values page none d = tt
back_distinct values page (more (tree l us) ts) d = ((λ z. back_others l.id values page ts (d.0 z)), back_distinct values page ts d.1)
