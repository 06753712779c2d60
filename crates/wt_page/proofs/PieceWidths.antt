-- Sound pieces have no more items than bytes.
use Rattle.std.proofs.Common.{◌<◌, ◌≤◌, ℕ, Option, List, [], ◌∷◌, length, map, ap, arith, length-append}
use Rattle.std.specs.Prelude.{All}
use Rattle.std.proofs.lemmas.List.Elements.{All-head, All-tail}
use Rattle.std.proofs.lemmas.Grind.{flat_map-append}
use Rattle.wt_span.specs.declared.form.ItemForm.{ItemForm}
use Rattle.wt_span.specs.declared.form.ItemForm.TheVariants as form
use Rattle.wt_span.specs.declared.form.Piece.{Piece}
use Rattle.wt_span.specs.Slice.{bytes_of}
use Rattle.wt_span.specs.Items.{Item, char, whole, source, sources, items, items_of, items_by, call_of_origin}
use Rattle.wt_span.specs.Origins.{IsSoundPiece}
use Rattle.wt_page.proofs.FormLengths.{whole_some}

-- as many items as bytes, or fewer
abbrev IsWide : List Item → Type 0
IsWide xs = length xs ≤ length (sources xs)

chars_wide : (o : Option ℕ) (bs : List ℕ) → IsWide (map (char o) bs)
chars_wide o [] = omega arith
chars_wide o (b ∷ bs) = omega (arith, chars_wide o bs)

whole_wide : (f : ItemForm) (o : Option ℕ) (bs : List ℕ) → 0 < length bs → IsWide (whole f o bs ∷ [])
whole_wide f o bs some = omega (arith, length-append bs [], some)

form_wide : (f : ItemForm) (o : Option ℕ) (bs : List ℕ) → 0 < length bs → IsWide (items_by f o bs)
form_wide form.Chars o bs some = chars_wide o bs
form_wide (form.Entity c) o bs some = whole_wide (form.Entity c) o bs some
form_wide form.Nowiki o bs some = whole_wide form.Nowiki o bs some
form_wide form.Extension o bs some = whole_wide form.Extension o bs some
form_wide form.Function o bs some = whole_wide form.Function o bs some
form_wide form.Comment o bs some = whole_wide form.Comment o bs some
form_wide form.Include o bs some = whole_wide form.Include o bs some
form_wide form.Hidden o bs some = whole_wide form.Hidden o bs some
form_wide form.EmptyCall o bs some = whole_wide form.EmptyCall o bs some

pub items_within : (ps : List Piece) → All IsSoundPiece ps → length (items ps) ≤ length (sources (items ps))
items_within [] h = omega arith
items_within (p ∷ ps) h =
    let some = whole_some p.form (bytes_of p.text) (All-head IsSoundPiece p ps h).whole in
    let one = form_wide p.form (call_of_origin p.origin) (bytes_of p.text) some in
    let others = items_within ps (All-tail IsSoundPiece p ps h) in
    let joined = ap length (flat_map-append source (items_of p) (items ps)) in
    omega (arith, one, others, joined, length-append (items_of p) (items ps), length-append (sources (items_of p)) (sources (items ps)))
