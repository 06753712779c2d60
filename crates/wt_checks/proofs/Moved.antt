-- The greatest numbers so far under each kept parent.
use Rattle.std.proofs.Common.{◌≡◌, ℕ, ◌<◌, ◌+◌, Bool, true, false, List, [], ◌∷◌, ◌++◌, length, get_or, refl, sym, ap, ◌∙◌}
use Rattle.std.specs.Prelude.{◌==◌, ◌&&◌, ◌||◌, not, nat_lt, if◌then◌else◌}
use Rattle.std.specs.List.{slice_set}
use Rattle.std.proofs.Common.{◌≢◌, arith, take, inl, inr}
use Rattle.std.proofs.lemmas.Bool.{cases_eq}
use Rattle.std.proofs.lemmas.Bool.Decides.{nat_tests}
use Rattle.std.proofs.lemmas.List.{get_or-set_same, get_or-set_other, take_more, map-append, length-set}
use Rattle.wt_tree.specs.declared.node.Node.{out-Node}
use Rattle.wt_checks.specs.declared.visit.Visit.{Visit}
use Rattle.wt_checks.specs.Ids.{greater_stands, has_parent, is_moved}
use Rattle.wt_checks.specs.Places.{Place, number, is_kept}
use Rattle.wt_checks.specs.View.{seen, all_seen, has_number, indexed}
use Rattle.wt_checks.proofs.Firsts.{number_seen}
use Rattle.wt_checks.proofs.Repeated.{any_push, or_false, and_not}

abbrev pub Greatest : List ℕ → List Place → Type 0
Greatest greatest ps = (n m : ℕ) → n < length greatest → greater_stands n m ps ≡ nat_lt m (get_or greatest n 0)

-- one place more
greater_push : (n m : ℕ) (ps : List Place) (p : Place)
    → greater_stands n m (ps ++ p ∷ []) ≡ (greater_stands n m ps || (is_kept p && (p.parent == n && nat_lt m (number p))))
greater_push n m ps p = any_push (λ q. is_kept q && (q.parent == n && nat_lt m (number q))) ps p

or_no : (b : Bool) → (b || false) ≡ b
or_no true = refl
or_no false = refl

-- a node without a number changes nothing
pub greatest_unkept : (greatest : List ℕ) (ps : List Place) (p : Place) → is_kept p ≡ false → Greatest greatest ps → Greatest greatest (ps ++ p ∷ [])
greatest_unkept greatest ps p k h n m lt =
    greater_push n m ps p ∙ ap (λ b. greater_stands n m ps || (b && (p.parent == n && nat_lt m (number p)))) k ∙ or_no (greater_stands n m ps) ∙ h n m lt

tests_less : (m g k : ℕ) → nat_lt k g ≡ false → (nat_lt m g || nat_lt m k) ≡ nat_lt m k
tests_less m g k e = grind (arith, nat_tests)

tests_equal : (a b : ℕ) → a ≡ b → (a == b) ≡ true
tests_equal a b e = grind (arith, nat_tests)

tests_other : (a b : ℕ) → a ≢ b → (a == b) ≡ false
tests_other a b e = grind (arith, nat_tests)

-- a node with a number that isn't below the greatest so far is the greatest now
pub greatest_kept : (greatest : List ℕ) (ps : List Place) (p : Place) → is_kept p ≡ true → p.parent < length greatest
    → nat_lt (number p) (get_or greatest p.parent 0) ≡ false → Greatest greatest ps
    → Greatest (slice_set greatest p.parent (number p)) (ps ++ p ∷ [])
greatest_kept greatest ps p k within e h n m lt =
    let long : n < length greatest = rw (length-set greatest p.parent (number p)) at lt in
    greater_push n m ps p ∙ ap (λ b. greater_stands n m ps || (b && (p.parent == n && nat_lt m (number p)))) k
    ∙ ap (λ b. b || (p.parent == n && nat_lt m (number p))) (h n m long)
    ∙ elim (cases_eq n p.parent) [
      | inl same ↦
          ap (λ b. nat_lt m (get_or greatest n 0) || (b && nat_lt m (number p))) (tests_equal p.parent n (sym same))
          ∙ tests_less m (get_or greatest n 0) (number p) (ap (λ i. nat_lt (number p) (get_or greatest i 0)) same ∙ e)
          ∙ ap (λ i. nat_lt m i) (sym (ap (λ i. get_or (slice_set greatest p.parent (number p)) i 0) same
          ∙ get_or-set_same greatest p.parent (number p) 0 within))
      | inr other ↦
          ap (λ b. nat_lt m (get_or greatest n 0) || (b && nat_lt m (number p))) (tests_other p.parent n (λ q. other (sym q)))
          ∙ or_no (nat_lt m (get_or greatest n 0)) ∙ ap (λ i. nat_lt m i) (sym (get_or-set_other greatest p.parent n (number p) 0 other))
    ]

-- the same of visits
kept_seen : (v : Visit) → is_kept (seen v) ≡ has_number v
kept_seen v = ap (λ n. not (n == 0)) (number_seen v)

-- the code's test
abbrev pub test : List Visit → List ℕ → Visit → Bool
test index greatest v = has_number v && (not (has_parent v.parent (indexed index (out-Node v.node.now).id))
    || nat_lt (out-Node v.node.now).id (get_or greatest v.parent 0))

pub test_is : (index : List Visit) (greatest : List ℕ) (before after : List Place) (v : Visit) → v.parent < length greatest
    → Greatest greatest before → is_moved (indexed index) before (seen v) after ≡ test index greatest v
test_is index greatest before after v lt h =
    ap (λ n. not (n == 0) && (not (has_parent v.parent (indexed index n)) || greater_stands v.parent n before)) (number_seen v)
    ∙ ap (λ b. has_number v && (not (has_parent v.parent (indexed index (out-Node v.node.now).id)) || b)) (h v.parent (out-Node v.node.now).id lt)

-- what is kept after the node
abbrev pub passed : List ℕ → Visit → List ℕ
passed greatest v = if has_number v then slice_set greatest v.parent (out-Node v.node.now).id else greatest

greatest_by : (k : Bool) (greatest : List ℕ) (before : List Place) (v : Visit) → has_number v ≡ k → v.parent < length greatest
    → (k ≡ true → nat_lt (out-Node v.node.now).id (get_or greatest v.parent 0) ≡ false) → Greatest greatest before
    → Greatest (if k then slice_set greatest v.parent (out-Node v.node.now).id else greatest) (before ++ seen v ∷ [])
greatest_by true greatest before v e lt t h =
    rw (← number_seen v) (greatest_kept greatest before (seen v) (kept_seen v ∙ e) lt
    (ap (λ n. nat_lt n (get_or greatest v.parent 0)) (number_seen v) ∙ t refl) h)
greatest_by false greatest before v e lt t h = greatest_unkept greatest before (seen v) (kept_seen v ∙ e) h

not_less : (k a b : Bool) → (k && (a || b)) ≡ false → k ≡ true → b ≡ false
not_less k a b e h = (or_false a b (and_not k (a || b) e h)).1

pub greatest_turn : (index : List Visit) (greatest : List ℕ) (vs : List Visit) (i : ℕ) (v : Visit) → i < length vs
    → v ≡ get_or vs i v → v.parent < length greatest → test index greatest v ≡ false
    → Greatest greatest (all_seen (take i vs)) → Greatest (passed greatest v) (all_seen (take (i + 1) vs))
greatest_turn index greatest vs i v lt is within e h =
    let t : all_seen (take (i + 1) vs) ≡ all_seen (take i vs) ++ seen v ∷ [] =
    ap all_seen (take_more vs i v lt ∙ ap (λ (x : Visit). take i vs ++ x ∷ []) (sym is)) ∙ map-append seen (take i vs) (v ∷ []) in
    rw t (greatest_by (has_number v) greatest (all_seen (take i vs)) v refl within
    (not_less (has_number v) (not (has_parent v.parent (indexed index (out-Node v.node.now).id)))
    (nat_lt (out-Node v.node.now).id (get_or greatest v.parent 0)) e) h)

pub passed_long : (greatest : List ℕ) (v : Visit) → length (passed greatest v) ≡ length greatest
passed_long greatest v = by_kept (has_number v)
  where
    by_kept : (k : Bool) → length (if k then slice_set greatest v.parent (out-Node v.node.now).id else greatest) ≡ length greatest
    by_kept true = length-set greatest v.parent (out-Node v.node.now).id
    by_kept false = refl
