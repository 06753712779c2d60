-- What is decided of nodes that were seen is decided of a page and its places.
use Rattle.std.proofs.Common.{◌≡◌, Bool, ℕ, List, true, false, subst}
use Rattle.std.specs.Bool.{Decides}
use Rattle.wt_checks.specs.Places.{Page, Place}

pub of_texts : (P : List (List ℕ) → List (List ℕ) → Type 0) (r : Bool) (xs ys us vs : List (List ℕ)) → xs ≡ us → ys ≡ vs → Decides r (P xs ys) → Decides r (P us vs)
of_texts P r xs ys us vs a b d = subst (λ x. Decides r (P us x)) b (subst (λ x. Decides r (P x ys)) a d)

pub of_page : (P : Page → List Place → List Place → List Place → Type 0) (r : Bool) (p q : Page) (os ps es fs ns ms : List Place) → p ≡ q → os ≡ ps → es ≡ fs
    → ns ≡ ms → Decides r (P p os es ns) → Decides r (P q ps fs ms)
of_page P r p q os ps es fs ns ms a b c d h =
    subst (λ x. Decides r (P q ps fs x)) d
    (subst (λ x. Decides r (P q ps x ns)) c (subst (λ x. Decides r (P q x es ns)) b (subst (λ x. Decides r (P x os es ns)) a h)))

-- where one part doesn't hold, the whole doesn't
pub not_all : {P Q : Type 0} (r : Bool) → Decides r P → r ≡ false → (Q → P) → Decides false Q
not_all r d f part = (λ e. absurd (cc), λ q. let t : r ≡ true = d.1 (part q) in absurd (cc))
