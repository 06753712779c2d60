-- How many bytes pieces have.
use Rattle.std.proofs.Common.{◌≡◌, ℕ, ◌+◌, ◌<◌, Option, List, [], ◌∷◌, ◌++◌, length, get_or, take, map, refl, sym, ap, ◌∙◌, arith, append-nil, length-append}
use Rattle.std.specs.Prelude.{min}
use Rattle.std.proofs.lemmas.List.Concat.{flat_map-append}
use Rattle.wt_span.specs.declared.form.ItemForm.{ItemForm}
use Rattle.wt_span.specs.declared.form.ItemForm.TheVariants as form
use Rattle.wt_span.specs.declared.form.Piece.{Piece}
use Rattle.wt_span.specs.Slice.{bytes_of}
use Rattle.wt_span.specs.Items.{char, source, sources, call_of_origin, items_by, items_of, items}
use Rattle.wt_transclusion.proofs.TrimmedPieces.{items_last}

chars_source : (o : Option ℕ) (bs : List ℕ) → sources (map (char o) bs) ≡ bs
chars_source o [] = refl
chars_source o (b ∷ bs) = ap (λ cs. b ∷ cs) (chars_source o bs)

form_source : (f : ItemForm) (o : Option ℕ) (bs : List ℕ) → sources (items_by f o bs) ≡ bs
form_source form.Chars o bs = chars_source o bs
form_source (form.Entity c) o bs = append-nil bs
form_source form.Nowiki o bs = append-nil bs
form_source form.Extension o bs = append-nil bs
form_source form.Function o bs = append-nil bs
form_source form.Comment o bs = append-nil bs
form_source form.Include o bs = append-nil bs
form_source form.Hidden o bs = append-nil bs
form_source form.EmptyCall o bs = append-nil bs

pub piece_source : (p : Piece) → sources (items_of p) ≡ bytes_of p.text
piece_source p = form_source p.form (call_of_origin p.origin) (bytes_of p.text)

count_by : (n k a b c m : ℕ) → a ≡ min n m → b ≡ min (a + k) m → c ≡ n + k → b ≡ min c m
count_by n k a b c m e f g = omega (arith, e, f, g)

pub count_more : (ps : List Piece) (i : ℕ) (p : Piece) (old new m : ℕ) → i < length ps → p ≡ get_or ps i p → old ≡ min (length (sources (items (take i ps)))) m
    → new ≡ min (old + length (bytes_of p.text)) m → new ≡ min (length (sources (items (take (i + 1) ps)))) m
count_more ps i p old new m l is e f =
    let row = items_last ps i p l ∙ ap (λ q. items (take i ps) ++ items_of q) (sym is) in
    let a = ap sources row ∙ flat_map-append source (items (take i ps)) (items_of p) ∙ ap (λ bs. sources (items (take i ps)) ++ bs) (piece_source p) in
    let b = ap length a ∙ length-append (sources (items (take i ps))) (bytes_of p.text) in
    count_by (length (sources (items (take i ps)))) (length (bytes_of p.text)) old new (length (sources (items (take (i + 1) ps)))) m e f b
