-- What is taken in a link holds no link.
use Rattle.std.proofs.Common.{◌≡◌, Bool, true, false, List, [], ◌∷◌, ◌++◌, refl, sym, ap, ◌∙◌}
use Rattle.std.specs.Prelude.{◌&&◌, ◌||◌, not, if◌then◌else◌}
use Rattle.wt_tree.specs.Tiling.{is_group}
use Rattle.wt_tree.specs.Tree.{Tree, tree, Trees, none, more}
use Rattle.wt_tree.specs.EditShapes.{edit_shape}
use Rattle.wt_original.specs.Page.{Page}
use Rattle.wt_content.specs.declared.content.Surroundings.{Surroundings}
use Rattle.wt_content.specs.declared.reason.ContentWhy.{ContentWhy}
use Rattle.wt_content.specs.Content.{all_faults, any_holds_link, below, brings_link, faults, holds_link, is_link, is_open, nested_fault, own_faults, standing}

pub nil_left : (xs ys : List ContentWhy) → xs ++ ys ≡ [] → xs ≡ []
nil_left [] ys e = refl
nil_left (x ∷ xs) ys e = cc

pub nil_right : (xs ys : List ContentWhy) → xs ++ ys ≡ [] → ys ≡ []
nil_right [] ys e = e
nil_right (x ∷ xs) ys e = cc

pub none_nested : (b : Bool) → nested_fault b ≡ [] → b ≡ false
none_nested true e = cc
none_nested false e = refl

and_false : (a : Bool) → (a && false) ≡ false
and_false true = refl
and_false false = refl

-- a node that is looked into is no link, and holds none as its children hold none; of another it is told by itself
free_by : (opened link group any holds : Bool) (inside : List ContentWhy) → holds ≡ (link || (not group && any))
    → (if opened then link else holds) ≡ false → (if opened then inside else []) ≡ [] → (inside ≡ [] → any ≡ false) → holds ≡ false
free_by true link group any holds inside is b r f =
    is ∙ ap (λ (l : Bool). l || (not group && any)) b ∙ ap (λ (a : Bool). not group && a) (f r) ∙ and_false (not group)
free_by false link group any holds inside is b r f = b

mutual
  node_is_free : (p : Page) (x : Surroundings) (t : Tree) → x.in_link ≡ true → faults p x t ≡ [] → holds_link t ≡ false
  node_is_free p x (tree l ts) i e =
      let w = (edit_shape l.kind).inline in
      let s = standing p (tree l ts) in
      let holds = holds_link (tree l ts) in
      let inside = all_faults p (below x w) ts in
      let rest : List ContentWhy = if is_open w s then inside else [] in
      let brings = brings_link w s holds in
      let alone = none_nested (x.in_link && brings) (nil_left (nested_fault (x.in_link && brings)) (own_faults w x s l ++ rest) e) in
      let within = nil_right (own_faults w x s l) rest (nil_right (nested_fault (x.in_link && brings)) (own_faults w x s l ++ rest) e) in
      free_by (is_open w s) (is_link w) (is_group l.kind) (any_holds_link ts) holds inside refl
      (sym (ap (λ (b : Bool). b && brings) i) ∙ alone) within
      (λ good. all_are_free p (below x w) ts (ap (λ (b : Bool). b || is_link w) i) good)

  pub all_are_free : (p : Page) (x : Surroundings) (ts : Trees) → x.in_link ≡ true → all_faults p x ts ≡ [] → any_holds_link ts ≡ false
  all_are_free p x none i e = refl
  all_are_free p x (more t ts) i e =
      ap (λ (b : Bool). b || any_holds_link ts) (node_is_free p x t i (nil_left (faults p x t) (all_faults p x ts) e))
      ∙ all_are_free p x ts i (nil_right (faults p x t) (all_faults p x ts) e)
