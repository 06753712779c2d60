-- An item with a low sign can stand at an edge.
use Rattle.std.proofs.Common.{◌≡◌, ◌<◌, ℕ, zero, suc, true, List, [], ◌∷◌, length, map, get_or, refl, arith}
use Rattle.std.proofs.lemmas.Bool.Decides.{nat_tests}
use Rattle.wt_span.specs.declared.form.ItemForm.{ItemForm}
use Rattle.wt_span.specs.declared.form.ItemForm.TheVariants as form
use Rattle.wt_span.specs.Items.{Item, char, whole, sign}
use Rattle.wt_tiles.specs.Glyphs.{glyph_of, glyph_of_form}
use Rattle.wt_tiles.specs.Edges.{is_low, low_at}

pub form_low : (f : ItemForm) → is_low (glyph_of_form f) ≡ true
form_low form.Chars = refl
form_low (form.Entity c) = refl
form_low form.Nowiki = refl
form_low form.Extension = refl
form_low form.Function = refl
form_low form.Comment = refl
form_low form.Include = refl
form_low form.Hidden = refl
form_low form.EmptyCall = refl

pub low_sign : (xs : List Item) (i : ℕ) → i < length xs → get_or (map sign xs) i 0 < 128 → low_at (map glyph_of xs) i ≡ true
low_sign [] i w l = absurd (omega arith)
low_sign (char o b ∷ xs) zero w l = grind (arith, nat_tests)
low_sign (whole f o bs ∷ xs) zero w l = form_low f
low_sign (x ∷ xs) (suc i) w l = low_sign xs i (omega arith) l
