-- How many items pieces hold.
use Rattle.std.proofs.Common.{◌≡◌, ℕ, ◌+◌, ◌^◌, ◌<◌, ◌≤◌, Bool, true, false, Option, List, [], ◌∷◌, ◌++◌, length, get_or, take, drop, map, refl, sym, ap, ◌∙◌, arith, length-append}
use Rattle.std.proofs.lemmas.List.{length-map, drop_more, take-append-drop}
use Rattle.std.proofs.lemmas.Grind.{flat_map-append}
use Rattle.wt_span.specs.declared.form.ItemForm.{ItemForm}
use Rattle.wt_span.specs.declared.form.ItemForm.TheVariants as form
use Rattle.wt_span.specs.declared.form.Piece.{Piece}
use Rattle.wt_span.specs.Slice.{bytes_of}
use Rattle.wt_span.specs.Items.{Item, char, whole, source, sources, items, items_of, items_by, call_of_origin}
use Rattle.wt_lines.specs.Pieces.{is_chars, count_by, item_count}

-- ---- one piece

char_sources : (o : Option ℕ) (bs : List ℕ) → sources (map (char o) bs) ≡ bs
char_sources o [] = refl
char_sources o (b ∷ bs) = ap (λ cs. b ∷ cs) (char_sources o bs)

chars_are : (f : ItemForm) (o : Option ℕ) (bs : List ℕ) → is_chars f ≡ true → items_by f o bs ≡ map (char o) bs
chars_are form.Chars o bs e = refl
chars_are (form.Entity c) o bs e = cc
chars_are form.Nowiki o bs e = cc
chars_are form.Extension o bs e = cc
chars_are form.Function o bs e = cc
chars_are form.Comment o bs e = cc
chars_are form.Include o bs e = cc
chars_are form.Hidden o bs e = cc
chars_are form.EmptyCall o bs e = cc

whole_is : (f : ItemForm) (o : Option ℕ) (bs : List ℕ) → is_chars f ≡ false → items_by f o bs ≡ whole f o bs ∷ []
whole_is form.Chars o bs e = cc
whole_is (form.Entity c) o bs e = refl
whole_is form.Nowiki o bs e = refl
whole_is form.Extension o bs e = refl
whole_is form.Function o bs e = refl
whole_is form.Comment o bs e = refl
whole_is form.Include o bs e = refl
whole_is form.Hidden o bs e = refl
whole_is form.EmptyCall o bs e = refl

count_by_is : (f : ItemForm) (o : Option ℕ) (bs : List ℕ) (v : Bool) → is_chars f ≡ v → count_by v bs ≡ length (items_by f o bs)
count_by_is f o bs true e = sym (length-map bs (char o)) ∙ ap length (sym (chars_are f o bs e))
count_by_is f o bs false e = ap length (sym (whole_is f o bs e))

pub count_is : (p : Piece) → item_count p ≡ length (items_of p)
count_is p = count_by_is p.form (call_of_origin p.origin) (bytes_of p.text) (is_chars p.form) refl

some_bytes : (f : ItemForm) (o : Option ℕ) (bs : List ℕ) (v : Bool) → is_chars f ≡ v → length (items_by f o bs) ≤ length (sources (items_by f o bs)) + 1
some_bytes f o bs true e =
    let xs = chars_are f o bs e in
    let a : length (items_by f o bs) ≡ length bs = ap length xs ∙ length-map bs (char o) in
    let b : length (sources (items_by f o bs)) ≡ length bs = ap (λ ys. length (sources ys)) xs ∙ ap length (char_sources o bs) in
    omega (arith, a, b)
some_bytes f o bs false e = let a : length (items_by f o bs) ≡ 1 = ap length (whole_is f o bs e) in omega (arith, a)

-- ---- all pieces

pub sources_append : (xs ys : List Item) → length (sources (xs ++ ys)) ≡ length (sources xs) + length (sources ys)
sources_append xs ys = ap length (flat_map-append source xs ys) ∙ length-append (sources xs) (sources ys)

items_append : (ps qs : List Piece) → items (ps ++ qs) ≡ items ps ++ items qs
items_append ps qs = flat_map-append items_of ps qs

items_below : (ps : List Piece) → length (items ps) ≤ length (sources (items ps)) + length ps
items_below [] = omega arith
items_below (p ∷ ps) =
    let a = length-append (items_of p) (items ps) in
    let b = sources_append (items_of p) (items ps) in
    let c = some_bytes p.form (call_of_origin p.origin) (bytes_of p.text) (is_chars p.form) refl in
    let d = items_below ps in
    omega (arith, a, b, c, d)

pub items_first : (ps : List Piece) (i : ℕ) (p : Piece) → i < length ps → p ≡ get_or ps i p → items (drop i ps) ≡ items_of p ++ items (drop (i + 1) ps)
items_first ps i p l e = ap items (drop_more ps i p l) ∙ ap (λ q. items_of q ++ items (drop (i + 1) ps)) (sym e)

-- the items so far, with those of one more piece, are some of all
pub count_fits : (ps : List Piece) (i count n : ℕ) (p : Piece) → i < length ps → p ≡ get_or ps i p → count ≡ length (items (take i ps)) → n ≡ item_count p
    → length ps < 2 ^ 63 → length (sources (items ps)) < 2 ^ 32 → count + n < 2 ^ 64
count_fits ps i count n p l e c m few bytes =
    let a : length (items ps) ≡ length (items (take i ps)) + length (items (drop i ps)) =
    ap length (ap items (sym (take-append-drop i ps)) ∙ items_append (take i ps) (drop i ps))
    ∙ length-append (items (take i ps)) (items (drop i ps)) in
    let b : length (items (drop i ps)) ≡ length (items_of p) + length (items (drop (i + 1) ps)) =
    ap length (items_first ps i p l e) ∙ length-append (items_of p) (items (drop (i + 1) ps)) in
    let d = count_is p in
    let f = items_below ps in
    omega (arith, a, b, c, d, f, m, few, bytes)
