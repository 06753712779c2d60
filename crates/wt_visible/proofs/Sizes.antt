-- How many elements a plain view has, which a comparison goes down by.
use Rattle.std.proofs.Common.{◌≡◌, ◌≤◌, ◌<◌, ℕ, zero, suc, ◌+◌, List, [], ◌∷◌, length, get_or, refl, ap, ◌∙◌, arith}
use Rattle.wt_tree.specs.Plain.{Plain, Plains, text, element, ended, along}
use Rattle.wt_visible.specs.declared.children.Child.{Child}
use Rattle.wt_visible.specs.Children.{listed}
use Rattle.wt_visible.specs.Views.{child_view, children_view}

abbrev mutual
  pub size : Plain → ℕ
  size (text bs) = 0
  size (element f ps) = 1 + sizes ps

  pub sizes : Plains → ℕ
  sizes ended = 0
  sizes (along p ps) = size p + sizes ps

abbrev pub total : List Plain → ℕ
total [] = 0
total (p ∷ ps) = size p + total ps

total_listed : (ps : Plains) → total (listed ps) ≡ sizes ps
total_listed ended = refl
total_listed (along p ps) = ap (λ n. size p + n) (total_listed ps)

-- what an element holds has fewer
pub held_fewer : (cs : List Child) (ps : Plains) → children_view cs ≡ listed ps → total (children_view cs) ≡ sizes ps
held_fewer cs ps e = ap total e ∙ total_listed ps

-- a child has no more than all of them
pub child_fewer : (cs : List Child) (i : ℕ) (c : Child) → i < length cs → c ≡ get_or cs i c → size (child_view c) ≤ total (children_view cs)
child_fewer [] i c lt is = absurd (let w : ⊥ = omega arith in w)
child_fewer (d ∷ ds) zero c lt is = let e = ap (λ x. size (child_view x)) is in omega (arith, e)
child_fewer (d ∷ ds) (suc i) c lt is = let more = child_fewer ds i c (omega arith) is in omega (arith, more)
