-- The page's children before and behind the one with a number.
use Rattle.std.proofs.Common.{◌≡◌, ◌≢◌, ◌⊎◌, ◌≤◌, ◌<◌, ℕ, ◌+◌, true, false, List, [], ◌∷◌, ◌++◌, length, take, drop, get_or, refl, sym, ap, ◌∙◌, subst, arith, inl, inr, nat_eq, eq-eqb}
use Rattle.std.proofs.lemmas.Bool.Decides.{eqb_tells, leb_tells}
use Rattle.std.proofs.lemmas.List.{drop_more, take_more, drop_all, take-append-drop}
use Rattle.wt_tree.specs.Tree.{Trees, none, more, label}
use Rattle.wt_tree.specs.View.{view}
use Rattle.wt_tree.specs.declared.node.Node.{Node, out-Node}
use Rattle.wt_tree.proofs.Views.{view_out}
use Rattle.wt_checks.proofs.Firsts.{if_true, if_false}
use Rattle.wt_difference.specs.declared.insides.Child.{Child}
use Rattle.wt_difference.specs.Views.{child_views}
use Rattle.wt_places.specs.Places.{before_number, behind_number}

pub id_seen : (n : Node) → (label (view n)).id ≡ (out-Node n).id
id_seen n = rw (view_out n)

pub from_place : {X : Type 0} (xs : List X) (i : ℕ) (x : X) → i < length xs → x ≡ get_or xs i x → drop i xs ≡ x ∷ drop (i + 1) xs
from_place {X} xs i x lt is = drop_more xs i x lt ∙ ap (λ (y : X). y ∷ drop (i + 1) xs) (sym is)

-- none of these has the number
abbrev pub NoneHas : ℕ → Trees → Type 0
NoneHas n none = Unit {0}
NoneHas n (more t ts) = (nat_eq (label t).id n ≡ false) × NoneHas n ts

-- none of the first ones does
abbrev pub PassedTo : ℕ → List Child → ℕ → Type 0
PassedTo n cs i = NoneHas n (child_views (take i cs))

differs : (b c : ℕ) → b ≢ c → nat_eq b c ≡ false
differs b c n = elim (eqb_tells b c) [ inl e ↦ absurd (n e.1) | inr e ↦ e.0 ]

has_other : (n : ℕ) (c : Child) → (out-Node c.node.now).id ≢ n → nat_eq (label (view c.node.now)).id n ≡ false
has_other n c e = ap (λ (k : ℕ). nat_eq k n) (id_seen c.node.now) ∙ differs (out-Node c.node.now).id n e

has_number : (n : ℕ) (c : Child) → (out-Node c.node.now).id ≡ n → nat_eq (label (view c.node.now)).id n ≡ true
has_number n c e = eq-eqb (label (view c.node.now)).id n (id_seen c.node.now ∙ e)

none_push : (n : ℕ) (cs : List Child) (c : Child) → NoneHas n (child_views cs) → nat_eq (label (view c.node.now)).id n ≡ false
    → NoneHas n (child_views (cs ++ c ∷ []))
none_push n [] c h e = (e, tt)
none_push n (d ∷ cs) c h e = (h.0, none_push n cs c h.1 e)

pub passed_more : (n : ℕ) (cs : List Child) (i : ℕ) (c : Child) → i < length cs → c ≡ get_or cs i c → (out-Node c.node.now).id ≢ n
    → PassedTo n cs i → PassedTo n cs (i + 1)
passed_more n cs i c lt is e h =
    let turn : take (i + 1) cs ≡ take i cs ++ c ∷ [] = take_more cs i c lt ∙ ap (λ (x : Child). take i cs ++ x ∷ []) (sym is) in
    subst (λ ds. NoneHas n (child_views ds)) (sym turn) (none_push n (take i cs) c h (has_other n c e))

before_passed : (n : ℕ) (xs ys : List Child) → NoneHas n (child_views xs) → before_number n (child_views ys) ≡ none
    → before_number n (child_views (xs ++ ys)) ≡ child_views xs
before_passed n [] ys h e = e
before_passed n (x ∷ xs) ys h e =
    if_false (nat_eq (label (view x.node.now)).id n) none (more (view x.node.now) (before_number n (child_views (xs ++ ys)))) h.0
    ∙ ap (more (view x.node.now)) (before_passed n xs ys h.1 e)

behind_passed : (n : ℕ) (xs ys : List Child) → NoneHas n (child_views xs)
    → behind_number n (child_views (xs ++ ys)) ≡ behind_number n (child_views ys)
behind_passed n [] ys h = refl
behind_passed n (x ∷ xs) ys h =
    if_false (nat_eq (label (view x.node.now)).id n) (child_views (xs ++ ys)) (behind_number n (child_views (xs ++ ys))) h.0
    ∙ behind_passed n xs ys h.1

-- the number stands at this place, or nowhere
pub record IsPlace (n : ℕ) (cs : List Child) (i : ℕ) : Type 0 where
  pub fits : i ≤ length cs
  pub before : child_views (take i cs) ≡ before_number n (child_views cs)
  pub behind : child_views (drop (i + 1) cs) ≡ behind_number n (child_views cs)

parted : (n : ℕ) (cs : List Child) (i : ℕ) → i ≤ length cs → PassedTo n cs i → before_number n (child_views (drop i cs)) ≡ none
    → behind_number n (child_views (drop i cs)) ≡ child_views (drop (i + 1) cs) → IsPlace n cs i
parted n cs i le h b f = record {
  fits = le;
  before = sym (ap (λ ds. before_number n (child_views ds)) (sym (take-append-drop i cs)) ∙ before_passed n (take i cs) (drop i cs) h b);
  behind = sym (ap (λ ds. behind_number n (child_views ds)) (sym (take-append-drop i cs)) ∙ behind_passed n (take i cs) (drop i cs) h ∙ f);
}

pub found_at : (n : ℕ) (cs : List Child) (i : ℕ) (c : Child) → i < length cs → c ≡ get_or cs i c → (out-Node c.node.now).id ≡ n
    → PassedTo n cs i → IsPlace n cs i
found_at n cs i c lt is e h =
    let d = from_place cs i c lt is in
    let r : Trees = child_views (drop (i + 1) cs) in
    let t : nat_eq (label (view c.node.now)).id n ≡ true = has_number n c e in
    parted n cs i (omega arith) h
    (ap (λ ds. before_number n (child_views ds)) d ∙ if_true (nat_eq (label (view c.node.now)).id n) none (more (view c.node.now) (before_number n r)) t)
    (ap (λ ds. behind_number n (child_views ds)) d ∙ if_true (nat_eq (label (view c.node.now)).id n) r (behind_number n r) t)

pub found_none : (n : ℕ) (cs : List Child) (i : ℕ) → length cs ≤ i → i ≤ length cs → PassedTo n cs i → IsPlace n cs (length cs)
found_none n cs i ge le h =
    let e : i ≡ length cs = omega arith in
    let d : drop i cs ≡ [] = drop_all i cs ge in
    let next : length cs ≤ i + 1 = omega arith in
    let f : drop (i + 1) cs ≡ [] = drop_all (i + 1) cs next in
    subst (IsPlace n cs) e (parted n cs i le h (ap (λ ds. before_number n (child_views ds)) d)
    (ap (λ ds. behind_number n (child_views ds)) d ∙ ap child_views (sym f)))

below_or : (i n : ℕ) → (i < n) ⊎ (n ≤ i)
below_or i n = elim (leb_tells n i) [ inl e ↦ inr e.1 | inr e ↦ inl e.1 ]

-- one more than a place, but all at most
pub past_drops : (cs : List Child) (place n : ℕ) → place ≤ length cs → (place < length cs → n ≡ place + 1) → (length cs ≤ place → n ≡ length cs)
    → child_views (drop n cs) ≡ child_views (drop (place + 1) cs)
past_drops cs place n le one all =
    elim (below_or place (length cs)) [
      | inl lt ↦ ap (λ k. child_views (drop k cs)) (one lt)
      | inr ge ↦
          let e = all ge in
          let d : drop n cs ≡ [] = drop_all n cs (let m : length cs ≤ n = omega (arith, e) in m) in
          let f : drop (place + 1) cs ≡ [] = drop_all (place + 1) cs (let m : length cs ≤ place + 1 = omega (arith, ge) in m) in
          ap child_views (d ∙ sym f)
    ]
