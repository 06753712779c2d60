-- The items of an expanded page are whole forms, so each that is no character has two bytes or more.
use Rattle.std.proofs.Common.{ℕ, List, [], ◌∷◌}
use Rattle.std.specs.List.{AllByRecursion}
use Rattle.wt_span.specs.declared.form.ItemForm.{ItemForm}
use Rattle.wt_span.specs.declared.form.ItemForm.TheVariants as form
use Rattle.wt_span.specs.Items.{Item, char, whole}
use Rattle.wt_page.proofs.FormLengths.{IsFormOf}
use Rattle.wt_page_round_trip.proofs.OfPage.{IsPageForm, AreOfPage}

pub form_of_page : (f : ItemForm) (bs : List ℕ) → IsPageForm f bs → IsFormOf f bs
form_of_page form.Chars bs h = h
form_of_page (form.Entity c) bs h = h.0
form_of_page form.Nowiki bs h = h.0
form_of_page form.Extension bs h = h.0
form_of_page form.Function bs h = h.0
form_of_page form.Comment bs h = h.0
form_of_page form.Include bs h = h.0
form_of_page form.Hidden bs h = h.0
form_of_page form.EmptyCall bs h = h.0

-- ---- the items of any bytes

abbrev pub IsFormItem : Item → Type 0
IsFormItem (char o b) = Unit {0}
IsFormItem (whole f o bs) = IsFormOf f bs

abbrev pub AreForms : List Item → Type 0
AreForms xs = AllByRecursion IsFormItem xs

pub forms_of_page : (xs : List Item) → AreOfPage xs → AreForms xs
forms_of_page [] h = tt
forms_of_page (char o b ∷ xs) h = (tt, forms_of_page xs h.1)
forms_of_page (whole f o bs ∷ xs) h = (form_of_page f bs h.0.1, forms_of_page xs h.1)
