-- Lists of attributes of other lengths aren't the same.
use Rattle.std.proofs.Common.{◌≡◌, ℕ, Bool, true, false, List, [], ◌∷◌, length, refl, sym, ap, ◌∙◌, suc}
use Rattle.std.specs.Prelude.{◌&&◌, ◌==◌}
use Rattle.std.specs.Str.{bytes_eq}
use Rattle.std.proofs.lemmas.List.{length-map}
use Rattle.wt_tree.specs.declared.kind.AttrName.{AttrName}
use Rattle.wt_tree.specs.declared.node.Attr.{Attr}
use Rattle.wt_tree.specs.Kinds.{order}
use Rattle.wt_tree.specs.View.{attrs_of}
use Rattle.wt_checks.specs.Alike.{same_attrs}

pub and_false : (a b : Bool) → a && (b && false) ≡ false
and_false true true = refl
and_false true false = refl
and_false false b = refl

pairs_long : (xs ys : List (AttrName × List ℕ)) → (length xs ≡ length ys → ⊥) → same_attrs xs ys ≡ false
pairs_long [] [] h = absurd (h refl)
pairs_long [] (y ∷ ys) h = refl
pairs_long (x ∷ xs) [] h = refl
pairs_long (x ∷ xs) (y ∷ ys) h =
    ap (λ (b : Bool). (order x.0 == order y.0) && (bytes_eq x.1 y.1 && b)) (pairs_long xs ys (λ e. h (ap suc e)))
    ∙ and_false (order x.0 == order y.0) (bytes_eq x.1 y.1)

pub attrs_long : (xs ys : List Attr) → (length xs ≡ length ys → ⊥) → false ≡ same_attrs (attrs_of xs) (attrs_of ys)
attrs_long xs ys h =
    sym (pairs_long (attrs_of xs) (attrs_of ys) (λ e. h
    (sym (length-map xs (λ (a : Attr). (a.name, a.value))) ∙ e ∙ length-map ys (λ (a : Attr). (a.name, a.value)))))
