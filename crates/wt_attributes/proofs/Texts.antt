-- The text of pieces.
use Rattle.std.proofs.Common.{◌≡◌, ℕ, Option, List, [], ◌∷◌, map, refl, ap, ◌∙◌}
use Rattle.std.specs.List.{flat_map}
use Rattle.wt_span.specs.declared.form.ItemForm.{ItemForm}
use Rattle.wt_span.specs.declared.form.ItemForm.TheVariants as form
use Rattle.wt_span.specs.Items.{char, items_by}
use Rattle.wt_attributes.specs.Characters.{characters}

chars_alone : (o : Option ℕ) (bs : List ℕ) → flat_map characters (map (char o) bs) ≡ bs
chars_alone o [] = refl
chars_alone o (b ∷ bs) = ap (λ (l : List ℕ). b ∷ l) (chars_alone o bs)

pub text_of_chars : (f : ItemForm) (o : Option ℕ) (bs : List ℕ) → f ≡ form.Chars → flat_map characters (items_by f o bs) ≡ bs
text_of_chars f o bs e = ap (λ (g : ItemForm). flat_map characters (items_by g o bs)) e ∙ chars_alone o bs
