-- The source of a page's tree in which a block holds something else: all bytes outside the block's inside stand.
use Rattle.std.proofs.Common.{◌≡◌, ◌⊎◌, ◌==◌, ℕ, Bool, true, false, List, [], ◌++◌, refl, sym, ap, ◌∙◌, subst, inl, inr, cond, if◌then◌else◌}
use Rattle.std.proofs.lemmas.List.{append_assoc, append-nil}
use Rattle.wt_tree.specs.Kinds.{is_leaf}
use Rattle.wt_tree.specs.Source.{flat, flat_of_all}
use Rattle.wt_tree.specs.Tiling.{is_group}
use Rattle.wt_tree.specs.Tree.{Label, Tree, tree, Trees, none, more}
use Rattle.wt_inside_laws.specs.Once.{HasNot, NoneHas, HasOnce, OneHas}
use Rattle.wt_inside_laws.specs.Replaced.{Edit, with_inside, all_with_inside}
use Rattle.wt_inside_laws.specs.Swaps.{Swap}

pub untrue : true ≡ false → ⊥
untrue e = subst (λ (b : Bool). cond b (Unit {0}) ⊥) e tt

-- ---- what a node holds now

-- by whether it is the block, and whether it is a group
abbrev holds : Bool → Bool → Edit → Trees → Trees
holds block group e ts = if block then e.inside else (if group then ts else all_with_inside e ts)

abbrev with_bytes : Bool → Label → List ℕ → List ℕ
with_bytes leaf l bs = if leaf then l.own else l.opening ++ bs ++ l.closing

other_holds : (block group : Bool) (e : Edit) (ts : Trees) → block ≡ false → (group ≡ false → flat_of_all (all_with_inside e ts) ≡ flat_of_all ts)
    → flat_of_all (holds block group e ts) ≡ flat_of_all ts
other_holds true group e ts b f = absurd (untrue b)
other_holds false true e ts b f = refl
other_holds false false e ts b f = f refl

-- ---- where the number isn't

mutual
  stays : (e : Edit) (t : Tree) → HasNot e.number t → flat (with_inside e t) ≡ flat t
  stays e (tree l ts) h =
      ap (with_bytes (is_leaf l.kind) l) (other_holds (l.id == e.number) (is_group l.kind) e ts h.0 (λ g. all_stay e ts (h.1 g)))

  all_stay : (e : Edit) (ts : Trees) → NoneHas e.number ts → flat_of_all (all_with_inside e ts) ≡ flat_of_all ts
  all_stay e none h = refl
  all_stay e (more t ts) h =
      ap (λ bs. bs ++ flat_of_all (all_with_inside e ts)) (stays e t h.0) ∙ ap (λ bs. flat t ++ bs) (all_stay e ts h.1)

-- ---- swaps

whole : (old new was : List ℕ) → was ≡ old → Swap old new was new
whole old new was e = record { before = []; behind = []; was_is = e ∙ sym (append-nil old); now_is = sym (append-nil new) }

with_now : (old new was now now' : List ℕ) → now' ≡ now → Swap old new was now → Swap old new was now'
with_now old new was now now' e s = record { before = s.before; behind = s.behind; was_is = s.was_is; now_is = e ∙ s.now_is }

ahead : (o old new was now : List ℕ) → Swap old new was now → Swap old new (o ++ was) (o ++ now)
ahead o old new was now s = record {
  before = o ++ s.before;
  behind = s.behind;
  was_is = ap (λ bs. o ++ bs) s.was_is ∙ sym (append_assoc o s.before (old ++ s.behind));
  now_is = ap (λ bs. o ++ bs) s.now_is ∙ sym (append_assoc o s.before (new ++ s.behind));
}

followed : (c old new was now : List ℕ) → Swap old new was now → Swap old new (was ++ c) (now ++ c)
followed c old new was now s = record {
  before = s.before;
  behind = s.behind ++ c;
  was_is = ap (λ bs. bs ++ c) s.was_is ∙ append_assoc s.before (old ++ s.behind) c ∙ ap (λ bs. s.before ++ bs) (append_assoc old s.behind c);
  now_is = ap (λ bs. bs ++ c) s.now_is ∙ append_assoc s.before (new ++ s.behind) c ∙ ap (λ bs. s.before ++ bs) (append_assoc new s.behind c);
}

-- ---- where it is once

node : (leaf block group : Bool) (l : Label) (e : Edit) (us ts : Trees) → leaf ≡ false
    → ((block ≡ true) × (ts ≡ us)) ⊎ ((block ≡ false) × (group ≡ false) × OneHas e.number us ts)
    → (OneHas e.number us ts → Swap (flat_of_all us) (flat_of_all e.inside) (flat_of_all ts) (flat_of_all (all_with_inside e ts)))
    → Swap (flat_of_all us) (flat_of_all e.inside) (with_bytes leaf l (flat_of_all ts)) (with_bytes leaf l (flat_of_all (holds block group e ts)))
node true block group l e us ts z h f = absurd (untrue z)
node false true group l e us ts z (inl p) f =
    followed l.closing (flat_of_all us) (flat_of_all e.inside) (l.opening ++ flat_of_all ts) (l.opening ++ flat_of_all e.inside)
    (ahead l.opening (flat_of_all us) (flat_of_all e.inside) (flat_of_all ts) (flat_of_all e.inside)
    (whole (flat_of_all us) (flat_of_all e.inside) (flat_of_all ts) (ap flat_of_all p.1)))
node false false group l e us ts z (inl p) f = absurd (untrue (sym p.0))
node false true group l e us ts z (inr q) f = absurd (untrue q.0)
node false false true l e us ts z (inr q) f = absurd (untrue q.1)
node false false false l e us ts z (inr q) f =
    followed l.closing (flat_of_all us) (flat_of_all e.inside) (l.opening ++ flat_of_all ts) (l.opening ++ flat_of_all (all_with_inside e ts))
    (ahead l.opening (flat_of_all us) (flat_of_all e.inside) (flat_of_all ts) (flat_of_all (all_with_inside e ts)) (f q.2))

mutual
  pub swapped : (e : Edit) (us : Trees) (t : Tree) → HasOnce e.number us t
      → Swap (flat_of_all us) (flat_of_all e.inside) (flat t) (flat (with_inside e t))
  swapped e us (tree l ts) h = node (is_leaf l.kind) (l.id == e.number) (is_group l.kind) l e us ts h.0 h.1 (λ k. all_swapped e us ts k)

  all_swapped : (e : Edit) (us ts : Trees) → OneHas e.number us ts
      → Swap (flat_of_all us) (flat_of_all e.inside) (flat_of_all ts) (flat_of_all (all_with_inside e ts))
  all_swapped e us none h = absurd h
  all_swapped e us (more t ts) (inl p) =
      with_now (flat_of_all us) (flat_of_all e.inside) (flat t ++ flat_of_all ts) (flat (with_inside e t) ++ flat_of_all ts)
      (flat (with_inside e t) ++ flat_of_all (all_with_inside e ts)) (ap (λ bs. flat (with_inside e t) ++ bs) (all_stay e ts p.1))
      (followed (flat_of_all ts) (flat_of_all us) (flat_of_all e.inside) (flat t) (flat (with_inside e t)) (swapped e us t p.0))
  all_swapped e us (more t ts) (inr p) =
      with_now (flat_of_all us) (flat_of_all e.inside) (flat t ++ flat_of_all ts) (flat t ++ flat_of_all (all_with_inside e ts))
      (flat (with_inside e t) ++ flat_of_all (all_with_inside e ts)) (ap (λ bs. bs ++ flat_of_all (all_with_inside e ts)) (stays e t p.0))
      (ahead (flat t) (flat_of_all us) (flat_of_all e.inside) (flat_of_all ts) (flat_of_all (all_with_inside e ts)) (all_swapped e us ts p.1))
