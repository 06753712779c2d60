-- Pieces behind their first items.
use Rattle.std.proofs.Common.{◌≡◌, ℕ, ◌+◌, ◌-◌, ◌<◌, ◌≤◌, zero, suc, Bool, true, false, Option, List, [], ◌∷◌, ◌++◌, length, get_or, drop, map, refl, sym, ap, ◌∙◌, subst, arith}
use Rattle.std.specs.Str.{IsUtf8, IsCharBoundary}
use Rattle.std.proofs.lemmas.List.{drop_all, length-map}
use Rattle.std.proofs.lemmas.Str.{IsCharBoundary-after_ascii}
use Rattle.wt_span.specs.declared.form.ItemForm.{ItemForm}
use Rattle.wt_span.specs.declared.form.ItemForm.TheVariants as form
use Rattle.wt_span.specs.declared.form.Piece.{Piece}
use Rattle.wt_span.specs.Slice.{bytes_of}
use Rattle.wt_span.specs.Items.{Item, char, call_of_origin, items_by, items_of, items}
use Rattle.wt_span.proofs.Lists.{drop_append}
use Rattle.wt_braces.proofs.Ends.{drop_map}
use Rattle.wt_transclusion.specs.Ends.{is_chars, BeginsAscii}
use Rattle.wt_transclusion.proofs.TrimmedPieces.{chars_are, items_split}

-- ---- one piece

-- any other piece than characters is one item
pub other_count : (p : Piece) → is_chars p.form ≡ false → length (items_of p) ≡ 1
other_count p e = by_form p.form (call_of_origin p.origin) (bytes_of p.text) e
  where
    by_form : (f : ItemForm) (o : _) (bs : List ℕ) → is_chars f ≡ false → length (items_by f o bs) ≡ 1
    by_form form.Chars o bs e = cc
    by_form (form.Entity c) o bs e = refl
    by_form form.Nowiki o bs e = refl
    by_form form.Extension o bs e = refl
    by_form form.Function o bs e = refl
    by_form form.Comment o bs e = refl
    by_form form.Include o bs e = refl
    by_form form.Hidden o bs e = refl
    by_form form.EmptyCall o bs e = refl

-- a piece that has items behind its first one is characters
pub more_is_chars : (p : Piece) (n : ℕ) → n < length (items_of p) → (n ≡ 0 → ⊥) → is_chars p.form ≡ true
more_is_chars p n l some = by (is_chars p.form) refl
  where
    by : (b : Bool) → is_chars p.form ≡ b → is_chars p.form ≡ true
    by true e = e
    by false e = let one = other_count p e in absurd (omega (arith, one, l, some))

-- a piece of characters is cut between bytes
pub chars_behind : (p q : Piece) (n : ℕ) → is_chars p.form ≡ true → q.form ≡ p.form → q.origin ≡ p.origin
    → bytes_of q.text ≡ drop n (bytes_of p.text) → items_of q ≡ drop n (items_of p)
chars_behind p q n e f o b =
    chars_are q (ap is_chars f ∙ e) ∙ ap (λ r. map (char (call_of_origin r)) (bytes_of q.text)) o ∙ ap (map (char (call_of_origin p.origin))) b
    ∙ drop_map (char (call_of_origin p.origin)) n (bytes_of p.text) ∙ ap (drop n) (sym (chars_are p e))

-- ---- ASCII characters

ascii_byte : (o : Option ℕ) (n i : ℕ) (bs : List ℕ) → i < n → i < length bs → BeginsAscii n (map (char o) bs) → get_or bs i 0 < 128
ascii_byte o n i [] l within a = absurd (omega (arith, within))
ascii_byte o zero i (b ∷ bs) l within a = absurd (omega (arith, l))
ascii_byte o (suc n) zero (b ∷ bs) l within a = a.0
ascii_byte o (suc n) (suc i) (b ∷ bs) l within a = ascii_byte o n i bs (omega (arith, l)) (omega (arith, within)) a.1

-- a piece can be cut behind them
pub ascii_border : (p : Piece) (n : ℕ) → IsUtf8 (bytes_of p.text) → n < length (items_of p) → (n ≡ 0 → ⊥) → BeginsAscii n (items_of p)
    → IsCharBoundary (bytes_of p.text) n
ascii_border p n u l some a =
    let chars = chars_are p (more_is_chars p n l some) in
    let bs = bytes_of p.text in
    let o = call_of_origin p.origin in
    let long : length (items_of p) ≡ length bs = ap length chars ∙ length-map bs (char o) in
    let i = n - 1 in
    let back : suc i ≡ n = omega (arith, some) in
    let within : i < length bs = omega (arith, l, long, back) in
    subst (IsCharBoundary bs) (let z : i + 1 ≡ n = omega (arith, back) in z)
    (IsCharBoundary-after_ascii bs i u within (ascii_byte o n i bs (omega (arith, back)) within (subst (BeginsAscii n) chars a)))

ascii_front : (n : ℕ) (xs ys : List Item) → n ≤ length xs → BeginsAscii n (xs ++ ys) → BeginsAscii n xs
ascii_front zero xs ys l a = tt
ascii_front (suc n) [] ys l a = absurd (omega (arith, l))
ascii_front (suc n) (x ∷ xs) ys l a = (a.0, ascii_front n xs ys (omega (arith, l)) a.1)

ascii_back : (n : ℕ) (xs ys : List Item) → length xs ≤ n → BeginsAscii n (xs ++ ys) → BeginsAscii (n - length xs) ys
ascii_back n [] ys l a = let z : n ≡ n - 0 = omega arith in subst (λ k. BeginsAscii k ys) z a
ascii_back zero (x ∷ xs) ys l a = absurd (omega (arith, l))
ascii_back (suc n) (x ∷ xs) ys l a = let z : n - length xs ≡ suc n - length (x ∷ xs) = omega arith in
    subst (λ k. BeginsAscii k ys) z (ascii_back n xs ys (omega (arith, l)) a.1)

-- ---- pieces in a row

row : (ps : List Piece) (i : ℕ) (p : Piece) → i < length ps → p ≡ get_or ps i p → items (drop i ps) ≡ items_of p ++ items (drop (i + 1) ps)
row ps i p l is = items_split ps i p l ∙ ap (λ q. items_of q ++ items (drop (i + 1) ps)) (sym is)

-- a piece lies before what is left
pub behind_on : (ps : List Piece) (i left len : ℕ) (p : Piece) (all : List Item) → i < length ps → p ≡ get_or ps i p → len ≡ length (items_of p) → len ≤ left
    → drop left (items (drop i ps)) ≡ all → drop (left - len) (items (drop (i + 1) ps)) ≡ all
behind_on ps i left len p all l is count le e =
    let xs = items_of p in
    let ys = items (drop (i + 1) ps) in
    ap (λ k. drop (left - k) ys) count ∙ ap (λ zs. zs ++ drop (left - length xs) ys) (sym (drop_all left xs (omega (arith, count, le))))
    ∙ sym (drop_append left xs ys) ∙ ap (drop left) (sym (row ps i p l is)) ∙ e

-- the first of them are ASCII still
pub ascii_on : (ps : List Piece) (i left len : ℕ) (p : Piece) → i < length ps → p ≡ get_or ps i p → len ≡ length (items_of p) → len ≤ left
    → BeginsAscii left (items (drop i ps)) → BeginsAscii (left - len) (items (drop (i + 1) ps))
ascii_on ps i left len p l is count le a =
    let ys = items (drop (i + 1) ps) in
    subst (λ k. BeginsAscii (left - k) ys) (sym count)
    (ascii_back left (items_of p) ys (omega (arith, count, le)) (subst (BeginsAscii left) (row ps i p l is) a))

-- a piece has what is left, and more
pub ascii_there : (ps : List Piece) (i left len : ℕ) (p : Piece) → i < length ps → p ≡ get_or ps i p → len ≡ length (items_of p) → left < len
    → BeginsAscii left (items (drop i ps)) → BeginsAscii left (items_of p)
ascii_there ps i left len p l is count le a =
    ascii_front left (items_of p) (items (drop (i + 1) ps)) (omega (arith, count, le)) (subst (BeginsAscii left) (row ps i p l is) a)

-- its first items are taken, and the others follow
pub behind_there : (ps : List Piece) (i left len : ℕ) (p q : Piece) (all : List Item) → i < length ps → p ≡ get_or ps i p → len ≡ length (items_of p)
    → left < len → items_of q ≡ drop left (items_of p) → drop left (items (drop i ps)) ≡ all → items (q ∷ drop (i + 1) ps) ≡ all
behind_there ps i left len p q all l is count le e f =
    let xs = items_of p in
    let ys = items (drop (i + 1) ps) in
    ap (λ zs. zs ++ ys) e ∙ sym (drop_within left xs ys (omega (arith, count, le))) ∙ ap (drop left) (sym (row ps i p l is)) ∙ f
  where
    drop_within : (n : ℕ) (xs ys : List Item) → n ≤ length xs → drop n (xs ++ ys) ≡ drop n xs ++ ys
    drop_within zero xs ys l = refl
    drop_within (suc n) [] ys l = absurd (omega (arith, l))
    drop_within (suc n) (x ∷ xs) ys l = drop_within n xs ys (omega (arith, l))
