-- Pieces, cut after a number of items.
use Rattle.std.proofs.Common.{◌≡◌, ℕ, zero, suc, ◌+◌, ◌-◌, ◌<◌, ◌≤◌, true, Option, Some, List, [], ◌∷◌, ◌++◌, length, take, drop, map, get_or, refl, sym, ap, ◌∙◌, arith, append_assoc}
use Rattle.std.specs.Prelude.{slice_get, ◌||◌, nat_lt, nat_le}
use Rattle.std.proofs.lemmas.Bool.Decides.{nat_tests}
use Rattle.std.specs.Str.{IsCharBoundary}
use Rattle.std.proofs.lemmas.List.{take-map, drop-map, length-map, drop_more}
use Rattle.wt_span.specs.declared.form.ItemForm.{ItemForm}
use Rattle.wt_span.specs.declared.form.ItemForm.TheVariants as form
use Rattle.wt_span.specs.declared.form.Piece.{Piece}
use Rattle.wt_span.specs.Slice.{bytes_of}
use Rattle.wt_span.specs.Items.{Item, char, items, items_of, items_by, call_of_origin}
use Rattle.wt_span.proofs.Lists.{take_append, drop_append}
use Rattle.wt_lines.specs.Pieces.{is_chars, count_by, item_count, begins_char}

pub count_is : (f : ItemForm) (o : Option ℕ) (bs : List ℕ) → length (items_by f o bs) ≡ count_by (is_chars f) bs
count_is form.Chars o bs = length-map bs (char o)
count_is (form.Entity c) o bs = refl
count_is form.Nowiki o bs = refl
count_is form.Extension o bs = refl
count_is form.Function o bs = refl
count_is form.Comment o bs = refl
count_is form.Include o bs = refl
count_is form.Hidden o bs = refl
count_is form.EmptyCall o bs = refl

-- a piece that is cut holds characters
cut_chars : (f : ItemForm) (o : Option ℕ) (bs : List ℕ) (n : ℕ) → 0 < n → n < count_by (is_chars f) bs → items_by f o bs ≡ map (char o) bs
cut_chars form.Chars o bs n s h = refl
cut_chars (form.Entity c) o bs n s h = absurd (omega arith)
cut_chars form.Nowiki o bs n s h = absurd (omega arith)
cut_chars form.Extension o bs n s h = absurd (omega arith)
cut_chars form.Function o bs n s h = absurd (omega arith)
cut_chars form.Comment o bs n s h = absurd (omega arith)
cut_chars form.Include o bs n s h = absurd (omega arith)
cut_chars form.Hidden o bs n s h = absurd (omega arith)
cut_chars form.EmptyCall o bs n s h = absurd (omega arith)

pub cut_front : (p : Piece) (n : ℕ) (bs : List ℕ) → 0 < n → n < item_count p → bs ≡ take n (bytes_of p.text)
    → map (char (call_of_origin p.origin)) bs ≡ take n (items_of p)
cut_front p n bs s l e =
    let o = call_of_origin p.origin in
    ap (map (char o)) e ∙ sym (take-map (char o) n (bytes_of p.text)) ∙ sym (ap (take n) (cut_chars p.form o (bytes_of p.text) n s l))

pub cut_back : (p : Piece) (n : ℕ) (bs : List ℕ) → 0 < n → n < item_count p → bs ≡ drop n (bytes_of p.text)
    → map (char (call_of_origin p.origin)) bs ≡ drop n (items_of p)
cut_back p n bs s l e =
    let o = call_of_origin p.origin in
    ap (map (char o)) e ∙ sym (drop-map (char o) n (bytes_of p.text)) ∙ sym (ap (drop n) (cut_chars p.form o (bytes_of p.text) n s l))

-- ---- a cut of pieces

take_past : (n : ℕ) (xs : List Item) → length xs ≤ n → take n xs ≡ xs
take_past zero [] h = refl
take_past zero (x ∷ xs) h = absurd (omega arith)
take_past (suc n) [] h = refl
take_past (suc n) (x ∷ xs) h = ap (λ ys. x ∷ ys) (take_past n xs (omega arith))

drop_past : (n : ℕ) (xs : List Item) → length xs ≤ n → drop n xs ≡ []
drop_past zero [] h = refl
drop_past zero (x ∷ xs) h = absurd (omega arith)
drop_past (suc n) [] h = refl
drop_past (suc n) (x ∷ xs) h = drop_past n xs (omega arith)

pub whole_front : (p : Piece) (n : ℕ) → item_count p ≤ n → take n (items_of p) ≡ items_of p
whole_front p n h = take_past n (items_of p) (omega (arith, count_is p.form (call_of_origin p.origin) (bytes_of p.text)))

pub whole_back : (p : Piece) (n : ℕ) → item_count p ≤ n → drop n (items_of p) ≡ []
whole_back p n h = drop_past n (items_of p) (omega (arith, count_is p.form (call_of_origin p.origin) (bytes_of p.text)))

take_piece : (p : Piece) (ps : List Piece) (n : ℕ) → take n (items (p ∷ ps)) ≡ take n (items_of p) ++ take (n - item_count p) (items ps)
take_piece p ps n = take_append n (items_of p) (items ps) ∙ ap (λ k. take n (items_of p) ++ take (n - k) (items ps))
    (count_is p.form (call_of_origin p.origin) (bytes_of p.text))

drop_piece : (p : Piece) (ps : List Piece) (n : ℕ) → drop n (items (p ∷ ps)) ≡ drop n (items_of p) ++ drop (n - item_count p) (items ps)
drop_piece p ps n = drop_append n (items_of p) (items ps) ∙ ap (λ k. drop n (items_of p) ++ drop (n - k) (items ps))
    (count_is p.form (call_of_origin p.origin) (bytes_of p.text))

pub front_next : (f g ps : List Piece) (i left k : ℕ) (d : Piece) (whole : List Item) → i < length ps
    → items g ≡ items f ++ take left (items_of (get_or ps i d)) → k ≡ left - item_count (get_or ps i d)
    → items f ++ take left (items (drop i ps)) ≡ whole → items g ++ take k (items (drop (i + 1) ps)) ≡ whole
front_next f g ps i left k d whole l eg ek h =
    let p = get_or ps i d in
    let rest = drop (i + 1) ps in
    ap (λ xs. xs ++ take k (items rest)) eg
    ∙ append_assoc (items f) (take left (items_of p)) (take k (items rest))
    ∙ ap (λ m. items f ++ (take left (items_of p) ++ take m (items rest))) ek
    ∙ ap (λ xs. items f ++ xs) (sym (take_piece p rest left) ∙ ap (λ qs. take left (items qs)) (sym (drop_more ps i d l)))
    ∙ h

pub back_next : (f g ps : List Piece) (i left k : ℕ) (d : Piece) (whole : List Item) → i < length ps
    → items g ≡ items f ++ drop left (items_of (get_or ps i d)) → k ≡ left - item_count (get_or ps i d)
    → items f ++ drop left (items (drop i ps)) ≡ whole → items g ++ drop k (items (drop (i + 1) ps)) ≡ whole
back_next f g ps i left k d whole l eg ek h =
    let p = get_or ps i d in
    let rest = drop (i + 1) ps in
    ap (λ xs. xs ++ drop k (items rest)) eg
    ∙ append_assoc (items f) (drop left (items_of p)) (drop k (items rest))
    ∙ ap (λ m. items f ++ (drop left (items_of p) ++ drop m (items rest))) ek
    ∙ ap (λ xs. items f ++ xs) (sym (drop_piece p rest left) ∙ ap (λ qs. drop left (items qs)) (sym (drop_more ps i d l)))
    ∙ h

-- ---- where a cut may be

get_char : (o : Option ℕ) (bs : List ℕ) (rest : List Item) (n : ℕ) → n < length bs → slice_get (map (char o) bs ++ rest) n ≡ Some (char o (get_or bs n 0))
get_char o [] rest n h = absurd (omega arith)
get_char o (b ∷ bs) rest zero h = refl
get_char o (b ∷ bs) rest (suc n) h = get_char o bs rest n (omega arith)

get_past : (xs ys : List Item) (n : ℕ) → length xs ≤ n → slice_get (xs ++ ys) n ≡ slice_get ys (n - length xs)
get_past [] ys n h = let e : n - 0 ≡ n = omega arith in ap (slice_get ys) (sym e)
get_past (x ∷ xs) ys zero h = absurd (omega arith)
get_past (x ∷ xs) ys (suc n) h =
    let e : suc n - suc (length xs) ≡ n - length xs = omega arith in
    get_past xs ys n (omega arith) ∙ ap (slice_get ys) (sym e)

high : (b : ℕ) → (nat_lt b 128 || nat_le 192 b) ≡ true → 128 ≤ b → 192 ≤ b
high b e h = grind (arith, nat_tests)

chars_only : (f : ItemForm) (bs : List ℕ) (n : ℕ) → 0 < n → n < count_by (is_chars f) bs → n < length bs
chars_only form.Chars bs n s h = h
chars_only (form.Entity c) bs n s h = absurd (omega arith)
chars_only form.Nowiki bs n s h = absurd (omega arith)
chars_only form.Extension bs n s h = absurd (omega arith)
chars_only form.Function bs n s h = absurd (omega arith)
chars_only form.Comment bs n s h = absurd (omega arith)
chars_only form.Include bs n s h = absurd (omega arith)
chars_only form.Hidden bs n s h = absurd (omega arith)
chars_only form.EmptyCall bs n s h = absurd (omega arith)

border_piece : (p : Piece) (ps : List Piece) (n : ℕ) → begins_char (slice_get (items (p ∷ ps)) n) ≡ true → 0 < n
    → n < item_count p → IsCharBoundary (bytes_of p.text) n
border_piece p ps n e s l =
    let o = call_of_origin p.origin in
    let bs = bytes_of p.text in
    let lb : n < length bs = chars_only p.form bs n s l in
    let is : slice_get (items (p ∷ ps)) n ≡ Some (char o (get_or bs n 0)) =
    ap (λ xs. slice_get (xs ++ items ps) n) (cut_chars p.form o bs n s l) ∙ get_char o bs (items ps) n lb in
    (omega arith, λ w h. high (get_or bs n 0) (sym (ap begins_char is) ∙ e) h)

border_past : (p : Piece) (ps : List Piece) (n : ℕ) → begins_char (slice_get (items (p ∷ ps)) n) ≡ true → item_count p ≤ n
    → begins_char (slice_get (items ps) (n - item_count p)) ≡ true
border_past p ps n e h =
    let c = count_is p.form (call_of_origin p.origin) (bytes_of p.text) in
    let le : length (items_of p) ≤ n = omega (arith, c) in
    ap (λ k. begins_char (slice_get (items ps) (n - k))) (sym c) ∙ ap begins_char (sym (get_past (items_of p) (items ps) n le)) ∙ e

-- the same, with the pieces of a loop
pub border_here : (ps : List Piece) (i left : ℕ) (d : Piece) → i < length ps
    → (0 < left → begins_char (slice_get (items (drop i ps)) left) ≡ true) → 0 < left → left < item_count (get_or ps i d)
    → IsCharBoundary (bytes_of (get_or ps i d).text) left
border_here ps i left d l e s h = border_piece (get_or ps i d) (drop (i + 1) ps) left
    (ap (λ qs. begins_char (slice_get (items qs) left)) (sym (drop_more ps i d l)) ∙ e s) s h

pub border_next : (ps : List Piece) (i left k : ℕ) (d : Piece) → i < length ps
    → (0 < left → begins_char (slice_get (items (drop i ps)) left) ≡ true) → k ≡ left - item_count (get_or ps i d) → 0 < k
    → begins_char (slice_get (items (drop (i + 1) ps)) k) ≡ true
border_next ps i left k d l e ek s =
    let p = get_or ps i d in
    ap (λ m. begins_char (slice_get (items (drop (i + 1) ps)) m)) ek
    ∙ border_past p (drop (i + 1) ps) left (ap (λ qs. begins_char (slice_get (items qs) left)) (sym (drop_more ps i d l)) ∙ e (omega arith)) (omega arith)
