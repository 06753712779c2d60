-- The signs of pieces.
use Rattle.std.proofs.Common.{◌≡◌, ℕ, Bool, true, false, Option, List, [], ◌∷◌, ◌++◌, map, refl, sym, ap, subst, cond}
use Rattle.std.specs.Prelude.{if◌then◌else◌}
use Rattle.std.proofs.lemmas.List.{map-append}
use Rattle.wt_span.specs.declared.form.ItemForm.{ItemForm}
use Rattle.wt_span.specs.declared.form.ItemForm.TheVariants as form
use Rattle.wt_span.specs.declared.form.Piece.{Piece}
use Rattle.wt_span.specs.Slice.{bytes_of}
use Rattle.wt_span.specs.Items.{char, sign, items, items_of, items_by, is_mark_form, call_of_origin}
use Rattle.wt_lines.specs.Pieces.{is_chars}

pub false_true : {X : Type 0} → false ≡ true → X
false_true e = absurd (subst (λ (b : Bool). cond b ⊥ (Unit {0})) e tt)

pub true_false : {X : Type 0} → true ≡ false → X
true_false e = false_true (sym e)

pub signs_of_bytes : (o : Option ℕ) (bs : List ℕ) → map sign (map (char o) bs) ≡ bs
signs_of_bytes o [] = refl
signs_of_bytes o (b ∷ bs) = ap (λ xs. b ∷ xs) (signs_of_bytes o bs)

chars_by : (f : ItemForm) (o : Option ℕ) (bs : List ℕ) → is_chars f ≡ true → map sign (items_by f o bs) ≡ bs
chars_by form.Chars o bs e = signs_of_bytes o bs
chars_by (form.Entity c) o bs e = false_true e
chars_by form.Nowiki o bs e = false_true e
chars_by form.Extension o bs e = false_true e
chars_by form.Function o bs e = false_true e
chars_by form.Comment o bs e = false_true e
chars_by form.Include o bs e = false_true e
chars_by form.Hidden o bs e = false_true e
chars_by form.EmptyCall o bs e = false_true e

whole_by : (f : ItemForm) (o : Option ℕ) (bs : List ℕ) → is_chars f ≡ false → map sign (items_by f o bs) ≡ (if is_mark_form f then 257 else 256) ∷ []
whole_by form.Chars o bs e = true_false e
whole_by (form.Entity c) o bs e = refl
whole_by form.Nowiki o bs e = refl
whole_by form.Extension o bs e = refl
whole_by form.Function o bs e = refl
whole_by form.Comment o bs e = refl
whole_by form.Include o bs e = refl
whole_by form.Hidden o bs e = refl
whole_by form.EmptyCall o bs e = refl

pub signs_of_chars : (p : Piece) → is_chars p.form ≡ true → map sign (items_of p) ≡ bytes_of p.text
signs_of_chars p e = chars_by p.form (call_of_origin p.origin) (bytes_of p.text) e

pub signs_of_whole : (p : Piece) → is_chars p.form ≡ false → map sign (items_of p) ≡ (if is_mark_form p.form then 257 else 256) ∷ []
signs_of_whole p e = whole_by p.form (call_of_origin p.origin) (bytes_of p.text) e

pub signs_of_more : (p : Piece) (ps : List Piece) → map sign (items (p ∷ ps)) ≡ map sign (items_of p) ++ map sign (items ps)
signs_of_more p ps = map-append sign (items_of p) (items ps)
