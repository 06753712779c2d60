-- What pieces show.
use Rattle.std.proofs.Common.{◌≡◌, ℕ, true, false, Option, List, [], ◌∷◌, ◌++◌, map, refl, ap, ◌∙◌, append-nil}
use Rattle.std.specs.Prelude.{if◌then◌else◌}
use Rattle.std.proofs.lemmas.List.Concat.{flat_map-append}
use Rattle.wt_span.specs.declared.form.ItemForm.{ItemForm}
use Rattle.wt_span.specs.declared.form.ItemForm.TheVariants as form
use Rattle.wt_span.specs.declared.form.Piece.{Piece}
use Rattle.wt_span.specs.Slice.{bytes_of}
use Rattle.wt_span.specs.Items.{char, is_mark_form, items_by, items_of, items, call_of_origin}
use Rattle.wt_expand.specs.Texts.{shown, shown_text}

chars_shown : (o : Option ℕ) (bs : List ℕ) → shown_text (map (char o) bs) ≡ bs
chars_shown o [] = refl
chars_shown o (b ∷ bs) = ap (λ cs. b ∷ cs) (chars_shown o bs)

form_shown : (f : ItemForm) (o : Option ℕ) (bs : List ℕ) → shown_text (items_by f o bs) ≡ (if is_mark_form f then [] else bs)
form_shown form.Chars o bs = chars_shown o bs
form_shown (form.Entity c) o bs = append-nil bs
form_shown form.Nowiki o bs = append-nil bs
form_shown form.Extension o bs = append-nil bs
form_shown form.Function o bs = append-nil bs
form_shown form.Comment o bs = refl
form_shown form.Include o bs = refl
form_shown form.Hidden o bs = refl
form_shown form.EmptyCall o bs = refl

-- a mark shows nothing, any other piece its bytes
pub mark_shows : (p : Piece) → is_mark_form p.form ≡ true → shown_text (items_of p) ≡ []
mark_shows p e = form_shown p.form (call_of_origin p.origin) (bytes_of p.text) ∙ ap (λ t. if t then [] else bytes_of p.text) e

pub other_shows : (p : Piece) → is_mark_form p.form ≡ false → shown_text (items_of p) ≡ bytes_of p.text
other_shows p e = form_shown p.form (call_of_origin p.origin) (bytes_of p.text) ∙ ap (λ t. if t then [] else bytes_of p.text) e

-- one more piece
pub shown_more : (ps : List Piece) (p : Piece) → shown_text (items (ps ++ p ∷ [])) ≡ shown_text (items ps) ++ shown_text (items_of p)
shown_more ps p =
    ap shown_text (flat_map-append items_of ps (p ∷ []) ∙ ap (λ xs. items ps ++ xs) (append-nil (items_of p))) ∙ flat_map-append shown (items ps) (items_of p)
