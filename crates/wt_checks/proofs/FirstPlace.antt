-- The first refusal of the order that holds anywhere is answered, at the first place where it holds.
use Rattle.std.proofs.Common.{◌≡◌, ◌<◌, ℕ, suc, Bool, true, false, List, [], ◌∷◌, ◌++◌, length, refl, sym, ap, ◌∙◌, subst, arith, append_assoc, append-nil, inl, inr, ◌⊎◌}
use Rattle.std.specs.Prelude.{if◌then◌else◌, Option, Some, None}
use Rattle.wt_tree.specs.Tree.{Tree}
use Rattle.wt_checks.specs.declared.refusal.TreeRefusal.{TreeRefusal}
use Rattle.wt_checks.specs.declared.refusal.TreeRefusal.TheVariants.{UnknownId, RepeatedId, Moved, InTemplate, NotEditable, UnmarkedChange}
use Rattle.wt_checks.specs.Checked.{or_else, checked}
use Rattle.wt_checks.specs.FirstRefusal.{condition, node_of, rank, NotBefore, IsFirst, IsFirstRefusal}
use Rattle.wt_checks.specs.Groups.{is_in_template}
use Rattle.wt_checks.specs.Ids.{is_unknown, is_repeated, is_moved}
use Rattle.wt_checks.specs.Marks.{is_wrongly_marked}
use Rattle.wt_checks.specs.Places.{Place, number, places, Page, page_of, Condition, first_after, first}
use Rattle.wt_checks.specs.Unmarked.{is_unmarked_change}

-- ---- one condition

-- from some places on, with others before
record FirstFrom (holds : Condition) (passed ps : List Place) (n : ℕ) : Type 0 where
  before : List Place
  place : Place
  after : List Place
  all : ps ≡ before ++ place ∷ after
  here : holds (passed ++ before) place after ≡ true
  named : number place ≡ n
  first : (xs : List Place) (q : Place) (ys : List Place) → ps ≡ xs ++ q ∷ ys → length xs < length before → holds (passed ++ xs) q ys ≡ false

if_some : (b : Bool) (m n : ℕ) (o : Option ℕ) → b ≡ true → (if b then Some m else o) ≡ Some n → m ≡ n
if_some true m n o e h = cc
if_some false m n o e h = absurd (cc)

if_other : {A : Type 0} (b : Bool) (x y z : A) → b ≡ false → (if b then x else y) ≡ z → y ≡ z
if_other true x y z e h = absurd (cc)
if_other false x y z e h = h

if_none : (b : Bool) (m : ℕ) (o : Option ℕ) → (if b then Some m else o) ≡ None → (b ≡ false) × (o ≡ None)
if_none true m o h = absurd (cc)
if_none false m o h = (refl, h)

nil_more : (holds : Condition) (passed : List Place) (p : Place) (after : List Place) (b : Bool) → holds passed p after ≡ b → holds (passed ++ []) p after ≡ b
nil_more holds passed p after b e = ap (λ xs. holds xs p after) (append-nil passed) ∙ e

one_more : (holds : Condition) (passed xs : List Place) (p q : Place) (after : List Place) (b : Bool)
    → holds ((passed ++ p ∷ []) ++ xs) q after ≡ b → holds (passed ++ p ∷ xs) q after ≡ b
one_more holds passed xs p q after b e = ap (λ ys. holds ys q after) (sym (append_assoc passed (p ∷ []) xs)) ∙ e

heads : (p q : Place) (xs ys : List Place) → p ∷ xs ≡ q ∷ ys → (p ≡ q) × (xs ≡ ys)
heads p q xs ys e = (cc, cc)

not_here : (holds : Condition) (passed : List Place) (p : Place) (after : List Place) (xs : List Place) (q : Place) (ys : List Place)
    → p ∷ after ≡ xs ++ q ∷ ys → holds passed p after ≡ false
    → ((zs : List Place) → after ≡ zs ++ q ∷ ys → suc (length zs) ≡ length xs → holds ((passed ++ p ∷ []) ++ zs) q ys ≡ false)
    → holds (passed ++ xs) q ys ≡ false
not_here holds passed p after [] q ys e h f =
    let d = heads p q after ys e in
    nil_more holds passed q ys false (ap (λ r. holds passed r ys) (sym d.0) ∙ ap (λ zs. holds passed p zs) (sym d.1) ∙ h)
not_here holds passed p after (x ∷ xs) q ys e h f =
    let d = heads p x after (xs ++ q ∷ ys) e in
    one_more holds passed xs x q ys false (ap (λ r. holds ((passed ++ r ∷ []) ++ xs) q ys) (sym d.0) ∙ f xs d.1 refl)

nowhere_from : (holds : Condition) (passed ps : List Place) → first_after holds passed ps ≡ None
    → (xs : List Place) (q : Place) (ys : List Place) → ps ≡ xs ++ q ∷ ys → holds (passed ++ xs) q ys ≡ false
nowhere_from holds passed [] h [] q ys e = absurd (cc)
nowhere_from holds passed [] h (x ∷ xs) q ys e = absurd (cc)
nowhere_from holds passed (p ∷ after) h xs q ys e =
    let d = if_none (holds passed p after) (number p) (first_after holds (passed ++ p ∷ []) after) h in
    not_here holds passed p after xs q ys e d.0 (λ zs f l. nowhere_from holds (passed ++ p ∷ []) after d.1 zs q ys f)

first_by : (b : Bool) (holds : Condition) (passed : List Place) (p : Place) (after : List Place) (n : ℕ) → holds passed p after ≡ b
    → first_after holds passed (p ∷ after) ≡ Some n
    → (first_after holds (passed ++ p ∷ []) after ≡ Some n → FirstFrom holds (passed ++ p ∷ []) after n) → FirstFrom holds passed (p ∷ after) n
first_by true holds passed p after n b h f =
    record {
      before = [];
      place = p;
      after = after;
      all = refl;
      here = nil_more holds passed p after true b;
      named = if_some (holds passed p after) (number p) n (first_after holds (passed ++ p ∷ []) after) b h;
      first = λ xs q ys e l. absurd (omega (arith, l));
    }
first_by false holds passed p after n b h f =
    let r = f (if_other (holds passed p after) (Some (number p)) (first_after holds (passed ++ p ∷ []) after) (Some n) b h) in
    record {
      before = p ∷ r.before;
      place = r.place;
      after = r.after;
      all = ap (λ xs. p ∷ xs) r.all;
      here = one_more holds passed r.before p r.place r.after true r.here;
      named = r.named;
      first = λ xs q ys e l. not_here holds passed p after xs q ys e b (λ zs g m. r.first zs q ys g (omega (arith, m, l)));
    }

first_from : (holds : Condition) (passed ps : List Place) (n : ℕ) → first_after holds passed ps ≡ Some n → FirstFrom holds passed ps n
first_from holds passed [] n h = absurd (cc)
first_from holds passed (p ∷ after) n h =
    first_by (holds passed p after) holds passed p after n refl h (λ e. first_from holds (passed ++ p ∷ []) after n e)

is_first : (holds : Condition) (ps : List Place) (n : ℕ) → first holds ps ≡ Some n → IsFirst holds ps n
is_first holds ps n h =
    let r = first_from holds [] ps n h in
    record { before = r.before; place = r.place; after = r.after; all = r.all; here = r.here; named = r.named; first = r.first }

nowhere : (holds : Condition) (ps : List Place) (n : ℕ) → first holds ps ≡ None → NotBefore holds ps n
nowhere holds ps n h = λ before p after e l. nowhere_from holds [] ps h before p after e

-- ---- all of them

or_is : (o : Option ℕ) (f : ℕ → TreeRefusal) (rest : Option TreeRefusal) (c : TreeRefusal) → or_else o f rest ≡ Some c
    → ((n : ℕ) × (o ≡ Some n) × (f n ≡ c)) ⊎ ((o ≡ None) × (rest ≡ Some c))
or_is None f rest c e = inr (refl, e)
or_is (Some n) f rest c e = let d : f n ≡ c = cc in inl (n, refl, d)

-- the refusals before one hold nowhere
record Before (values : Bool) (page : Page) (ps : List Place) (k : ℕ) : Type 0 where
  unknown : 1 < k → first (is_unknown page) ps ≡ None
  repeated : 2 < k → first is_repeated ps ≡ None
  moved : 3 < k → first (is_moved page) ps ≡ None
  in_template : 4 < k → first (is_in_template values page) ps ≡ None
  marked : 5 < k → first (is_wrongly_marked page) ps ≡ None
  last : k < 7

order_of : (values : Bool) (page : Page) (ps : List Place) (k : ℕ) → Before values page ps k
    → (d : TreeRefusal) → rank d < k → NotBefore (condition values page d) ps (length ps)
order_of values page ps k b (UnknownId n) l = nowhere (is_unknown page) ps (length ps) (b.unknown l)
order_of values page ps k b (RepeatedId n) l = nowhere is_repeated ps (length ps) (b.repeated l)
order_of values page ps k b (Moved n) l = nowhere (is_moved page) ps (length ps) (b.moved l)
order_of values page ps k b (InTemplate n) l = nowhere (is_in_template values page) ps (length ps) (b.in_template l)
order_of values page ps k b (NotEditable n) l = nowhere (is_wrongly_marked page) ps (length ps) (b.marked l)
order_of values page ps k b (UnmarkedChange n) l = absurd (omega (arith, l, b.last))

refusal_is : (values : Bool) (page edited : Tree) (c d : TreeRefusal) → d ≡ c → first (condition values (page_of page) d) (places edited) ≡ Some (node_of d)
    → Before values (page_of page) (places edited) (rank d) → IsFirstRefusal values page edited c
refusal_is values page edited c d e f b =
    subst (λ (x : TreeRefusal). IsFirstRefusal values page edited x) e (record {
      place = is_first (condition values (page_of page) d) (places edited) (node_of d) f;
      order = order_of values (page_of page) (places edited) (rank d) b;
    })

pub answered : (values : Bool) (page edited : Tree) (c : TreeRefusal) → checked values page edited ≡ Some c → IsFirstRefusal values page edited c
unfolding checked
answered values page edited c e =
    let p : Page = page_of page in
    let es : List Place = places edited in
    let six : Option TreeRefusal = or_else (first (is_unmarked_change p) es) UnmarkedChange None in
    let five : Option TreeRefusal = or_else (first (is_wrongly_marked p) es) NotEditable six in
    let four : Option TreeRefusal = or_else (first (is_in_template values p) es) InTemplate five in
    let three : Option TreeRefusal = or_else (first (is_moved p) es) Moved four in
    let two : Option TreeRefusal = or_else (first is_repeated es) RepeatedId three in
    elim (or_is (first (is_unknown p) es) UnknownId two c e) [
      | inl a ↦ refusal_is values page edited c (UnknownId a.0) a.2 a.1 (record {
        unknown = λ l. absurd (omega (arith, l));
        repeated = λ l. absurd (omega (arith, l));
        moved = λ l. absurd (omega (arith, l));
        in_template = λ l. absurd (omega (arith, l));
        marked = λ l. absurd (omega (arith, l));
        last = omega arith;
      })
      | inr n1 ↦ elim (or_is (first is_repeated es) RepeatedId three c n1.1) [
        | inl a ↦ refusal_is values page edited c (RepeatedId a.0) a.2 a.1 (record {
          unknown = λ l. n1.0;
          repeated = λ l. absurd (omega (arith, l));
          moved = λ l. absurd (omega (arith, l));
          in_template = λ l. absurd (omega (arith, l));
          marked = λ l. absurd (omega (arith, l));
          last = omega arith;
        })
        | inr n2 ↦ elim (or_is (first (is_moved p) es) Moved four c n2.1) [
          | inl a ↦ refusal_is values page edited c (Moved a.0) a.2 a.1 (record {
            unknown = λ l. n1.0;
            repeated = λ l. n2.0;
            moved = λ l. absurd (omega (arith, l));
            in_template = λ l. absurd (omega (arith, l));
            marked = λ l. absurd (omega (arith, l));
            last = omega arith;
          })
          | inr n3 ↦ elim (or_is (first (is_in_template values p) es) InTemplate five c n3.1) [
            | inl a ↦ refusal_is values page edited c (InTemplate a.0) a.2 a.1 (record {
              unknown = λ l. n1.0;
              repeated = λ l. n2.0;
              moved = λ l. n3.0;
              in_template = λ l. absurd (omega (arith, l));
              marked = λ l. absurd (omega (arith, l));
              last = omega arith;
            })
            | inr n4 ↦ elim (or_is (first (is_wrongly_marked p) es) NotEditable six c n4.1) [
              | inl a ↦ refusal_is values page edited c (NotEditable a.0) a.2 a.1 (record {
                unknown = λ l. n1.0;
                repeated = λ l. n2.0;
                moved = λ l. n3.0;
                in_template = λ l. n4.0;
                marked = λ l. absurd (omega (arith, l));
                last = omega arith;
              })
              | inr n5 ↦ elim (or_is (first (is_unmarked_change p) es) UnmarkedChange None c n5.1) [
                | inl a ↦ refusal_is values page edited c (UnmarkedChange a.0) a.2 a.1 (record {
                  unknown = λ l. n1.0;
                  repeated = λ l. n2.0;
                  moved = λ l. n3.0;
                  in_template = λ l. n4.0;
                  marked = λ l. n5.0;
                  last = omega arith;
                })
                | inr n6 ↦ absurd (none_some c n6.1)
              ]
            ]
          ]
        ]
      ]
    ]
  where
    none_some : (d : TreeRefusal) → None ≡ Some d → ⊥
    none_some d h = absurd (cc)
