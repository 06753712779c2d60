-- Items of the page alone: none comes from a call.
use Rattle.std.proofs.Common.{◌≡◌, Bool, true, false, List, [], ◌∷◌, ◌++◌, refl, sym, ap, ◌∙◌}
use Rattle.std.specs.Prelude.{◌&&◌}
use Rattle.std.specs.List.{list_all}
use Rattle.wt_span.specs.Items.{Item}
use Rattle.wt_annotated.specs.Clean.{is_page}

abbrev AreBoth : List Item → List Item → Type 0
AreBoth xs ys = (list_all is_page xs ≡ true) × (list_all is_page ys ≡ true)

all_step : (x : Item) (xs ys : List Item) (v : Bool) → is_page x ≡ v → (list_all is_page (xs ++ ys) ≡ true → AreBoth xs ys)
    → list_all is_page (x ∷ (xs ++ ys)) ≡ true → AreBoth (x ∷ xs) ys
all_step x xs ys true f k e =
    let r = k (sym (ap (λ (v : Bool). v && list_all is_page (xs ++ ys)) f) ∙ e) in
    (ap (λ (v : Bool). v && list_all is_page xs) f ∙ r.0, r.1)
all_step x xs ys false f k e = let no : false ≡ true = sym (ap (λ (v : Bool). v && list_all is_page (xs ++ ys)) f) ∙ e in cc

pub all_of : (xs ys : List Item) → list_all is_page (xs ++ ys) ≡ true → (list_all is_page xs ≡ true) × (list_all is_page ys ≡ true)
all_of [] ys e = (refl, e)
all_of (x ∷ xs) ys e = all_step x xs ys (is_page x) refl (all_of xs ys) e
