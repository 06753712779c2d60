-- Where a block of the page doesn't stay there is a place that it lies in.
use Rattle.std.proofs.Common.{◌≡◌, ◌≢◌, ◌≤◌, ◌<◌, ◌⊎◌, ℕ, zero, suc, Bool, true, false, Some, List, [], ◌∷◌, ◌++◌, map, refl, sym, ap, ap₂, ◌∙◌, subst, inl, inr, arith, true≢false, leb-true, leb-false}
use Rattle.std.specs.Prelude.{◌==◌, ◌||◌, nat_le, not, if◌then◌else◌, filter, slice_get}
use Rattle.std.specs.List.{AllByRecursion}
use Rattle.wt_tree.specs.declared.kind.Kind.{Kind}
use Rattle.wt_tree.specs.declared.kind.Kind.TheVariants as kind
use Rattle.wt_tree.specs.Kinds.{is_leaf, is_numbered, showing}
use Rattle.wt_tree.specs.Opened.{opened, without_sections}
use Rattle.wt_tree.specs.Tiling.{ids_of_all}
use Rattle.wt_tree.specs.Tree.{Label, Tree, tree, Trees, none, more, label, listed}
use Rattle.wt_checks.specs.Kept.{children}
use Rattle.wt_checks.specs.Places.{Page, Place, all_placed, is_content, is_kept, number, page_of, parent_below, placed, places as all_places}
use Rattle.wt_checks.specs.PutBack.{IsOneBody, is_frame}
use Rattle.wt_checks.specs.Unmarked.{is_compared}
use Rattle.wt_checks.proofs.Found.{IsKnown, found_has, page_nodes}
use Rattle.wt_checks.proofs.InOrder.{Increasing, same_by, test_equal, test_other, zero_of}
use Rattle.wt_checks.proofs.Lookups.{AllZero, all_page_numbers, each_join}
use Rattle.wt_checks.proofs.Sections.{are_alike}
use Rattle.wt_checks.proofs.WhatIsKept.{increasing}
use Rattle.wt_difference.specs.Insides.{behind_inside, from_blocks, has_inside, held}
use Rattle.wt_places.specs.declared.reached.Reached.{Reached}
use Rattle.wt_places.specs.declared.slot.Slot.{Slot}
use Rattle.wt_places.specs.Places.{along, arrived, before_number, begun, behind_number, gap_before, gap_end, inside_place, inside_stop, partner, places, rest_behind, slot, some_count}
use Rattle.wt_places.specs.Turns.{is_in_turn, turns}
use Rattle.wt_places.proofs.Walking.{places_out}
use Rattle.wt_call_laws.specs.Changed.{IsAmong, IsGone, IsSectionedPage, IsThere, LiesInPlace, StaysBlock}
use Rattle.wt_call_laws.specs.Untouched.{AllLeavesAreBare, LeavesAreBare}
use Rattle.wt_call_laws.proofs.Alone.{Child, Has, body_behind, body_inside, child, own_of, partner_of, root_begins}
use Rattle.wt_call_laws.proofs.Choosing.{InTurn, in_turn}
use Rattle.wt_call_laws.proofs.Fitting.{end_at, start_at}
use Rattle.wt_call_laws.proofs.Standing.{AllStand, Greater, IfKept, InNumber, Rising, Sound, Stands, Under, Within, all_under, in_number, kept_found, none_kept_of, number_split, positive, root_holds, root_number, sound}
use Rattle.wt_call_laws.proofs.Touching.{InTurnAt, gap_there, in_front, in_rest, out}

-- ---- lists of nodes whose numbers rise

abbrev pub HasNumber : ℕ → Trees → Type 0
HasNumber n none = ⊥
HasNumber n (more t ts) = ((label t).id ≡ n) ⊎ HasNumber n ts

rising_more : (k m : ℕ) (ts : Trees) → k ≤ m → Rising m ts → Rising k ts
rising_more k m none le h = tt
rising_more k m (more t ts) le (inl h) = inl (h.0, rising_more k m ts le h.1)
rising_more k m (more t ts) le (inr h) = let lt = h.0 in inr (omega (arith, le, lt), h.1)

rising_rest : (k : ℕ) (t : Tree) (ts : Trees) → Rising k (more t ts) → Rising k ts
rising_rest k t ts (inl h) = h.1
rising_rest k t ts (inr h) = let lt = h.0 in rising_more k (label t).id ts (omega (arith, lt)) h.1

-- a number that isn't 0 and is there is greater
greater_there : (k n : ℕ) (ts : Trees) → n ≢ 0 → Rising k ts → HasNumber n ts → k < n
greater_there k n none z r h = absurd h
greater_there k n (more t ts) z (inl r) (inl e) = absurd (z (sym e ∙ r.0))
greater_there k n (more t ts) z (inr r) (inl e) = let lt = r.0 in omega (arith, lt, e)
greater_there k n (more t ts) z (inl r) (inr h) = greater_there k n ts z r.1 h
greater_there k n (more t ts) z (inr r) (inr h) = let lt = r.0 in let g = greater_there (label t).id n ts z r.1 h in omega (arith, lt, g)

number_there : (x : Tree) (ts : Trees) → IsThere x ts → HasNumber (label x).id ts
number_there x none h = absurd h
number_there x (more t ts) (inl e) = inl (ap (λ (y : Tree). (label y).id) (sym e))
number_there x (more t ts) (inr h) = inr (number_there x ts h)

-- after a node with a number that isn't 0 come greater ones
rising_after : (k : ℕ) (t : Tree) (ts : Trees) → (label t).id ≢ 0 → Rising k (more t ts) → Rising (label t).id ts
rising_after k t ts z (inl h) = absurd (z h.0)
rising_after k t ts z (inr h) = h.1

-- ---- before and behind a number

counts : (x : Tree) (ts : Trees) → is_compared (showing (label x).kind) ≡ true → IsThere x ts → some_count ts ≡ true
counts x none c h = absurd h
counts x (more t ts) c (inl e) = ap (λ b. b || some_count ts) (ap (λ (y : Tree). is_compared (showing (label y).kind)) (sym e) ∙ c)
counts x (more t ts) c (inr h) = by (is_compared (showing (label t).kind)) (counts x ts c h)
  where
    by : (b : Bool) → some_count ts ≡ true → (b || some_count ts) ≡ true
    by true e = refl
    by false e = e

before_there : (k n : ℕ) (x : Tree) (ts : Trees) → (label x).id ≢ 0 → n ≢ 0 → (label x).id < n → Rising k ts → IsThere x ts → IsThere x (before_number n ts)
before_there k n x none z nz lt r h = absurd h
before_there k n x (more t ts) z nz lt r h =
    by ((label t).id == n) refl h (λ g. before_there k n x ts z nz lt (rising_rest k t ts r) g)
  where
    by : (b : Bool) → ((label t).id == n) ≡ b → IsThere x (more t ts) → (IsThere x ts → IsThere x (before_number n ts))
        → IsThere x (if b then none else more t (before_number n ts))
    by true e (inl s) f = let a = same_by (label t).id n e in let w = ap (λ (y : Tree). (label y).id) s in absurd (omega (arith, a, w, lt))
    by true e (inr g) f =
        let a = same_by (label t).id n e in
        let up = greater_there (label t).id (label x).id ts z (rising_after k t ts (λ y. nz (sym a ∙ y)) r) (number_there x ts g) in absurd (omega (arith, a, up, lt))
    by false e (inl s) f = inl s
    by false e (inr g) f = inr (f g)

behind_there : (k n : ℕ) (x : Tree) (ts : Trees) → (label x).id ≢ 0 → n ≢ 0 → n < (label x).id → Rising k ts → HasNumber n ts → IsThere x ts
    → IsThere x (behind_number n ts)
behind_there k n x none z nz lt r m h = absurd h
behind_there k n x (more t ts) z nz lt r m h =
    by ((label t).id == n) refl m h (λ i g. behind_there k n x ts z nz lt (rising_rest k t ts r) i g)
  where
    by : (b : Bool) → ((label t).id == n) ≡ b → HasNumber n (more t ts) → IsThere x (more t ts)
        → (HasNumber n ts → IsThere x ts → IsThere x (behind_number n ts)) → IsThere x (if b then ts else behind_number n ts)
    by true e i (inl s) f = let a = same_by (label t).id n e in let w = ap (λ (y : Tree). (label y).id) s in absurd (omega (arith, a, w, lt))
    by true e i (inr g) f = g
    by false e (inl a) g f = absurd (true≢false (sym (test_equal (label t).id n a) ∙ e))
    by false e (inr i) (inl s) f =
        let w : (label x).id ≡ (label t).id = ap (λ (y : Tree). (label y).id) s in
        let up = greater_there (label t).id n ts nz (rising_after k t ts (λ y. z (w ∙ y)) r) i in absurd (omega (arith, w, up, lt))
    by false e (inr i) (inr g) f = f i g

behind_number_there : (k n m : ℕ) (ts : Trees) → m ≢ 0 → n ≢ 0 → n < m → Rising k ts → HasNumber n ts → HasNumber m ts → HasNumber m (behind_number n ts)
behind_number_there k n m none z nz lt r i h = absurd h
behind_number_there k n m (more t ts) z nz lt r i h =
    by ((label t).id == n) refl i h (λ j g. behind_number_there k n m ts z nz lt (rising_rest k t ts r) j g)
  where
    by : (b : Bool) → ((label t).id == n) ≡ b → HasNumber n (more t ts) → HasNumber m (more t ts)
        → (HasNumber n ts → HasNumber m ts → HasNumber m (behind_number n ts)) → HasNumber m (if b then ts else behind_number n ts)
    by true e j (inl s) f = let a = same_by (label t).id n e in absurd (omega (arith, a, s, lt))
    by true e j (inr g) f = g
    by false e (inl a) g f = absurd (true≢false (sym (test_equal (label t).id n a) ∙ e))
    by false e (inr j) (inl s) f =
        let up = greater_there (label t).id n ts nz (rising_after k t ts (λ y. z (sym s ∙ y)) r) j in absurd (omega (arith, s, up, lt))
    by false e (inr j) (inr g) f = f j g

rising_behind : (k n : ℕ) (ts : Trees) → n ≢ 0 → Rising k ts → HasNumber n ts → Rising n (behind_number n ts)
rising_behind k n none nz r h = absurd h
rising_behind k n (more t ts) nz r h = by ((label t).id == n) refl h (λ g. rising_behind k n ts nz (rising_rest k t ts r) g)
  where
    by : (b : Bool) → ((label t).id == n) ≡ b → HasNumber n (more t ts) → (HasNumber n ts → Rising n (behind_number n ts))
        → Rising n (if b then ts else behind_number n ts)
    by true e g f = let a = same_by (label t).id n e in subst (λ (m : ℕ). Rising m ts) a (rising_after k t ts (λ y. nz (sym a ∙ y)) r)
    by false e (inl a) f = absurd (true≢false (sym (test_equal (label t).id n a) ∙ e))
    by false e (inr g) f = f g

order : (a b : ℕ) → a ≢ b → (a < b) ⊎ (b < a)
order a b z = by (nat_le b a) (nat_le a b) refl refl
  where
    by : (v w : Bool) → nat_le b a ≡ v → nat_le a b ≡ w → (a < b) ⊎ (b < a)
    by true true f g =
        let x = leb-true b a f in
        let y = leb-true a b g in
        let same : a ≡ b = omega (arith, x, y) in absurd (z same)
    by true false f g = inr (leb-false a b g)
    by false w f g = inl (leb-false b a f)

-- ---- along the edited children

-- a place in which a node lies
record Holds (x : Tree) (ss : List Slot) : Type 0 where
  place : Slot
  is : IsAmong place ss
  least : place.start ≤ start_at x
  most : end_at x ≤ place.end

-- a node of the page that a node holds, and that isn't among those that stay
record Gone (page : Page) (t x : Tree) : Type 0 where
  numbered : (label x).id ≢ 0
  shows : is_compared (showing (label x).kind) ≡ true
  place : Place
  found : page (label x).id ≡ Some place
  is : place.node ≡ x
  under : place.parent ≡ (label t).id
  ends : end_at x ≤ inside_stop (label t).ranges

-- how far one has come: what is left has its number, and all greater ones
record Left (page : Page) (t x : Tree) (all left : Trees) (r : Reached) : Type 0 where
  there : IsThere x left
  rise : Rising r.number left
  has : (n : ℕ) → n ≢ 0 → r.number < n → HasNumber n all → HasNumber n left
  begins : r.end ≤ start_at x
  before : r.number < (label x).id

either_true : (a b : Bool) → b ≡ true → (a || b) ≡ true
either_true true b e = refl
either_true false b e = e

-- the numbers of children that stay are among these
abbrev AllTold : Page → Tree → Trees → Type 0
AllTold page t all = (n : ℕ) (q : Place) → n ≢ 0 → page n ≡ Some q → q.parent ≡ (label t).id → HasNumber n all

goes : (page : Page) → Sound page → (us left : Trees) (t x : Tree) (all : Trees) (r : Reached) → Has page t → Gone page t x → AllTold page t all
    → Left page t x all left r → ((j : ℕ) (w : Tree) → InTurnAt page (label t).id r.number us j w → (label w).id ≢ (label x).id)
    → Holds x (along page t false r left us)
goes page s none left t x all r has g told l other = record {
  place = slot r.end (inside_stop (label t).ranges);
  is = gap_there (r.came || some_count left) r.end (inside_stop (label t).ranges) (either_true r.came (some_count left) (counts x left g.shows l.there));
  least = l.begins;
  most = g.ends;
}
goes page s (more u us) left t x all r has g told l other =
    by (is_in_turn page (label t).id r.number u us) refl (λ p rest m f. goes page s us rest t x all p has g told m f)
  where
    others : (b : Bool) → is_in_turn page (label t).id r.number u us ≡ b → (j : ℕ) (w : Tree)
        → InTurnAt page (label t).id (if b then (label u).id else r.number) us j w → (label w).id ≢ (label x).id
    others b e j w h =
        other (suc j) w (h.0, subst (λ (v : Bool). slice_get (turns page (label t).id (if v then (label u).id else r.number) us) j ≡ Some true) (sym e) h.1)

    stands : is_in_turn page (label t).id r.number u us ≡ true → (label u).id ≢ (label x).id
    stands e = other zero u (refl, ap Some e)

    gap_here : InTurn page (label t).id r.number u us → is_in_turn page (label t).id r.number u us ≡ true → (label x).id < (label u).id
        → Holds x (along page t false r left (more u us))
    gap_here turn e lt =
        let c = partner_of page (label t).id u turn.stays in
        let d : Child page t u (partner page u) = child page s t u has turn.stays in
        let after : end_at g.place.node ≤ start_at c.place.node =
        s.ordered (label x).id (label u).id g.place c.place g.numbered lt g.found c.found (g.under ∙ sym c.under) in
        let mine = ap end_at g.is in
        let its = ap start_at c.is in
        let sign = d.fitting.before_gap in
        let y : Slot = slot r.end (gap_end (partner page u)) in
        record {
          place = y;
          is =
              out page t u us left r true e y
              (in_front y (gap_before r left (partner page u) u ++ own_of page u) (along page t false (arrived true (partner page u) r u) (rest_behind true u left) us)
              (in_front y (gap_before r left (partner page u) u) (own_of page u)
              (gap_there (r.came || some_count (before_number (label u).id left)) r.end (gap_end (partner page u))
              (either_true r.came (some_count (before_number (label u).id left))
              (counts x (before_number (label u).id left) g.shows
              (before_there r.number (label u).id x left g.numbered c.numbered lt l.rise l.there))))));
          least = l.begins;
          most = omega (arith, after, mine, its, sign);
        }

    by : (b : Bool) → is_in_turn page (label t).id r.number u us ≡ b
        → ((p : Reached) (rest : Trees) → Left page t x all rest p
        → ((j : ℕ) (w : Tree) → InTurnAt page (label t).id p.number us j w → (label w).id ≢ (label x).id) → Holds x (along page t false p rest us))
        → Holds x (along page t false r left (more u us))
    by false e next =
        let k : Holds x (along page t false (arrived false (partner page u) r u) left us) =
        next (arrived false (partner page u) r u) left
        (record { there = l.there; rise = l.rise; has = l.has; begins = l.begins; before = l.before }) (others false e) in
        record { place = k.place; is = out page t u us left r false e k.place k.is; least = k.least; most = k.most }
    by true e next =
        let turn : InTurn page (label t).id r.number u us = in_turn page (label t).id r.number u us e in
        elim (order (label u).id (label x).id (stands e)) [
          | inr lt ↦ gap_here turn e lt
          | inl lt ↦
              let c = partner_of page (label t).id u turn.stays in
              let mine : HasNumber (label u).id left = l.has (label u).id c.numbered turn.greater (told (label u).id c.place c.numbered c.found c.under) in
              let after : end_at c.place.node ≤ start_at g.place.node =
              s.ordered (label u).id (label x).id c.place g.place c.numbered lt c.found g.found (c.under ∙ sym g.under) in
              let its = ap end_at c.is in
              let own = ap start_at g.is in
              let k : Holds x (along page t false (arrived true (partner page u) r u) (rest_behind true u left) us) =
              next (arrived true (partner page u) r u) (rest_behind true u left)
              (record {
                there = behind_there r.number (label u).id x left g.numbered c.numbered lt l.rise mine l.there;
                rise = rising_behind r.number (label u).id left c.numbered l.rise mine;
                has = λ n z less h. behind_number_there r.number (label u).id n left z c.numbered less l.rise mine
                    (l.has n z (let up = turn.greater in omega (arith, less, up)) h);
                begins = omega (arith, after, its, own);
                before = lt;
              })
              (others true e) in
              record {
                place = k.place;
                is =
                    out page t u us left r true e k.place
                    (in_rest k.place (gap_before r left (partner page u) u ++ own_of page u)
                    (along page t false (arrived true (partner page u) r u) (rest_behind true u left) us) k.is);
                least = k.least;
                most = k.most;
              }
        ]

-- ---- the nodes that the body holds

unnumbered_leaf : (k : Kind) → is_frame k ≡ false → is_numbered k ≡ false → is_leaf k ≡ true
unnumbered_leaf kind.Body f e = absurd (cc)
unnumbered_leaf (kind.Section n) f e = absurd (cc)
unnumbered_leaf kind.Sep f e = refl
unnumbered_leaf kind.Text f e = refl
unnumbered_leaf k f e = absurd (cc)

not_numbered : (t : Tree) → IsKnown t → (label t).id ≡ 0 → is_numbered (label t).kind ≡ false
not_numbered t h z = by (is_numbered (label t).kind) refl
  where
    by : (b : Bool) → is_numbered (label t).kind ≡ b → b ≡ false
    by true e = absurd (h.has e z)
    by false e = refl

-- a place that the body itself keeps has one of these numbers
abbrev IsTop : Trees → Place → Type 0
IsTop all q = q.parent ≡ 0 → HasNumber (number q) all

none_top : (all : Trees) (n : ℕ) (ps : List Place) → n ≢ 0 → AllByRecursion (Under n n) ps → AllByRecursion (IfKept (IsTop all)) ps
none_top all n [] z h = tt
none_top all n (q ∷ ps) z h = (λ k e. absurd (other q h.0 e), none_top all n ps z h.1)
  where
    other : (q : Place) → Under n n q → q.parent ≡ 0 → ⊥
    other q (inl u) e = z (sym u ∙ e)
    other q (inr u) e = omega (arith, u, e)

below_by : (all : Trees) (w : Bool) (m : Label) (us : Trees) (v : Bool) → (m.id == 0) ≡ v → (m.id ≡ 0 → AllZero (ids_of_all us))
    → (not (m.id == 0) ≡ true → AllByRecursion (IfKept (Greater m.id)) (all_placed (if v then 0 else m.id) w us))
    → AllByRecursion (IfKept (IsTop all)) (all_placed (if v then 0 else m.id) w us)
below_by all w m us true e f g = none_kept_of (IsTop all) 0 w us (f (zero_of m.id (ap not e)))
below_by all w m us false e f g =
    none_top all m.id (all_placed m.id w us) (λ z. true≢false (sym (test_equal m.id 0 z) ∙ e)) (all_under m.id m.id w us (g (ap not e)))

tops : (all : Trees) (w : Bool) (ts : Trees) → ((n : ℕ) → HasNumber n ts → HasNumber n all) → AllByRecursion IsKnown (listed ts) → AllLeavesAreBare ts
    → InNumber (all_placed 0 w ts) → AllByRecursion (IfKept (IsTop all)) (all_placed 0 w ts)
tops all w none f known bare i = tt
tops all w (more (tree m us) ts) f known bare i =
    let n = number_split (placed 0 w (tree m us)) (all_placed 0 w ts) i in
    let below : List Place = all_placed (parent_below 0 m.id) (w || is_content m.mark) us in
    each_join (IfKept (IsTop all)) (placed 0 w (tree m us)) (all_placed 0 w ts) (
      λ k e. f m.id (inl refl),
      below_by all (w || is_content m.mark) m us (m.id == 0) refl
          (λ z. bare.0.0 (unnumbered_leaf m.kind known.0.other (not_numbered (tree m us) known.0 z))) n.0.0,
    )
    (tops all w ts (λ j h. f j (inr h)) known.1 bare.1 n.1)

top_by : (l : Label) (ts : Trees) → l.id ≡ 0 → AllByRecursion IsKnown (listed ts) → LeavesAreBare (tree l ts) → InNumber (all_places (tree l ts))
    → AllByRecursion (IfKept (IsTop ts)) (all_places (tree l ts))
top_by l ts z known bare i = (
  λ k. absurd (not_zero_at l.id z k),
  subst (λ (n : ℕ). AllByRecursion (IfKept (IsTop ts)) (all_placed n (is_content l.mark) ts)) (sym (ap (parent_below 0) z))
      (tops ts (is_content l.mark) ts (λ n h. h) known bare.1 (subst (λ (n : ℕ). InNumber (all_placed n (is_content l.mark) ts)) (ap (parent_below 0) z) i.1)),
)
  where
    not_zero_at : (n : ℕ) → n ≡ 0 → not (n == 0) ≡ true → ⊥
    not_zero_at n e k = true≢false (sym k ∙ ap not (test_equal n 0 e))

-- ---- a page

stands_there : (page : Page) (x : Tree) (ts : Trees) → IsThere x ts → AllStand page 0 ts → Stands page 0 x
stands_there page x none h a = absurd h
stands_there page x (more t ts) (inl e) a = subst (Stands page 0) (sym e) a.0
stands_there page x (more t ts) (inr h) a = stands_there page x ts h a.1

record Stood (page : Page) (x : Tree) : Type 0 where
  place : Place
  found : page (label x).id ≡ Some place
  is : place.node ≡ x
  under : place.parent ≡ 0

stood : (page : Page) (x : Tree) → (label x).id ≢ 0 → Stands page 0 x → Stood page x
stood page (tree l ts) z h =
    let f = h.0 z in record { place = record { node = tree l ts; parent = 0; in_content = f.0 }; found = f.1; is = refl; under = refl }

no_zero : (n : ℕ) → n ≢ 0 → (n == 0) ≡ false
no_zero n z = test_other n 0 z

body_held : (t : Tree) → (label t).kind ≡ kind.Body → held t ≡ opened (children t)
body_held (tree l ts) e = ap (λ (k : Kind). if has_inside k then from_blocks ts else opened ts) e

opened_children : (t : Tree) → children (without_sections t) ≡ opened (children t)
opened_children (tree l ts) = refl

all_told : (t : Tree) → IsSectionedPage t → (n : ℕ) (q : Place) → n ≢ 0 → page_of t n ≡ Some q → q.parent ≡ 0 → HasNumber n (opened (children t))
all_told (tree l ts) p n q z e u =
    let w : Tree = tree l (opened ts) in
    let up : Increasing (map number (filter is_kept (all_places w))) = increasing w p.opened_whole.body p.opened_whole.numbered in
    let numbers = all_page_numbers w p.opened_whole.body p.opened_whole.numbered in
    let nodes = page_nodes w p.opened_body numbers.root numbers.unnumbered numbers.counted up in
    let all : AllByRecursion (IfKept (IsTop (opened ts))) (all_places w) =
    top_by l (opened ts) numbers.root nodes.known p.opened_whole.leaves (in_number (all_places w) up) in
    let f = found_has (IfKept (IsTop (opened ts))) n q (all_places w) all (sym ((are_alike (tree l ts) p.sections).each n (no_zero n z)) ∙ e) in
    subst (λ (m : ℕ). HasNumber m (opened ts)) f.1 (f.0 (kept_found n q z f.1) u)

gone_stands : (t x : Tree) → IsSectionedPage t → IsThere x (opened (children t)) → (label x).id ≢ 0 → Stood (page_of t) x
gone_stands (tree l ts) x p h z =
    let w : Tree = tree l (opened ts) in
    let zero_root : l.id ≡ 0 = root_number w p.opened_whole in
    let a : AllStand (page_of w) 0 (opened ts) = subst (λ (n : ℕ). AllStand (page_of w) n (opened ts)) zero_root (root_holds w p.opened_whole).1 in
    let s : Stood (page_of w) x = stood (page_of w) x z (stands_there (page_of w) x (opened ts) h a) in
    record { place = s.place; found = (are_alike (tree l ts) p.sections).each (label x).id (no_zero (label x).id z) ∙ s.found; is = s.is; under = s.under }

opened_rise : (t : Tree) → IsSectionedPage t → Rising 0 (opened (children t))
opened_rise t p = subst (Rising 0) (opened_children t) (root_holds (without_sections t) p.opened_whole).0

pub gone_lies : (page edited x : Tree) → IsSectionedPage page → IsOneBody edited → IsGone page edited x → LiesInPlace x (places page edited)
gone_lies t u x p o g =
    let page : Page = page_of t in
    let s : Sound page = sound t p.whole in
    let z : (label t).id ≡ 0 = root_number t p.whole in
    let b = root_begins t u p.whole o in
    let us : Trees = behind_inside u in
    let whole : us ≡ children u = body_behind u o.root in
    let k : Stood page x = gone_stands t x p g.there g.numbered in
    let inner : Within b.has.place.node k.place.node =
    s.lies (label x).id k.place b.has.place g.numbered k.found (ap page (k.under ∙ sym z) ∙ b.has.found) in
    let here : Within t x = subst (λ (r : Tree). Within r x) b.has.is (subst (Within b.has.place.node) k.is inner) in
    let least = here.least in
    let begin = body_inside t p.whole.body in
    let top : held t ≡ opened (children t) = body_held t p.whole.body in
    let first : Left page t x (opened (children t)) (opened (children t)) (begun t) = record {
      there = g.there;
      rise = opened_rise t p;
      has = λ n y less h. h;
      begins = omega (arith, least, begin);
      before = positive (label x).id g.numbered;
    } in
    let h : Holds x (along page t false (begun t) (opened (children t)) us) =
    goes page s us (opened (children t)) t x (opened (children t)) (begun t) b.has
    (record { numbered = g.numbered; shows = g.shows; place = k.place; found = k.found; is = k.is; under = k.under ∙ sym z; ends = here.most })
    (λ n q y e f. all_told t p n q y e (f ∙ z)) first
    (λ j w i. g.gone j w (back page us whole z j w i)) in
    record {
      place = h.place;
      is =
          subst (IsAmong h.place) (sym (places_out page t u))
          (in_rest h.place (inside_place t u) (along page t false (begun t) (held t) us)
          (subst (λ (ts : Trees). IsAmong h.place (along page t false (begun t) ts us)) (sym top) h.is));
      from = h.least;
      to = h.most;
    }
  where
    back : (page : Page) (us : Trees) → us ≡ children u → (label t).id ≡ 0 → (j : ℕ) (w : Tree) → InTurnAt page (label t).id 0 us j w → StaysBlock page u j w
    back page us whole z j w i = record {
      is = ap (λ (vs : Trees). slice_get (listed vs) j) (sym whole) ∙ i.0;
      turn = ap₂ (λ n (vs : Trees). slice_get (turns page n 0 vs) j) (sym z) (sym whole) ∙ i.1;
    }
