-- The cells of a line, one after another.
use Rattle.std.proofs.Common.{◌≡◌, ◌<◌, ℕ, zero, suc, ◌+◌, ◌==◌, Bool, true, false, Option, List, [], ◌∷◌, ◌++◌, length, take, drop, map, refl, sym, ap, ◌∙◌, subst, ◌⊎◌, inl, inr, arith}
use Rattle.std.specs.Prelude.{◌&&◌, ◌||◌, slice_index, if◌then◌else◌}
use Rattle.std.specs.List.{list_all}
use Rattle.std.proofs.lemmas.Bool.Decides.{nat_tests}
use Rattle.std.proofs.lemmas.List.{length-map, drop-map}
use Rattle.wt_span.specs.declared.form.ItemForm.{ItemForm}
use Rattle.wt_span.specs.declared.form.ItemForm.TheVariants as form
use Rattle.wt_span.specs.declared.form.Piece.{Piece}
use Rattle.wt_span.specs.Slice.{bytes_of}
use Rattle.wt_span.specs.Bytes.{begins}
use Rattle.wt_span.specs.Items.{Item, char, sign, items, items_of, items_by, call_of_origin}
use Rattle.wt_tables.specs.declared.scan.Splits.{Splits}
use Rattle.wt_tables.specs.declared.scan.Splits.TheVariants as split
use Rattle.wt_tables.specs.Cells.{signs, splits, onto, parts, single_at, is_text_form, is_text, Cell, cell_of, cells_in}
use Rattle.wt_tables.specs.Views.{first_len, HasSign, IsLowCut}
use Rattle.wt_tables.proofs.Singles.{single_from, single_is}
use Rattle.wt_tables.specs.Views.{begins_single}

-- ---- tests

and_by : (a b c d : Bool) → d ≡ (b && c) → (a && d) ≡ ((a && b) && c)
and_by true b c d e = e
and_by false b c d e = refl

pub and_left : (a b : Bool) → (a && b) ≡ true → a ≡ true
and_left true b e = refl
and_left false b e = absurd cc

pub and_right : (a b : Bool) → (a && b) ≡ true → b ≡ true
and_right true b e = e
and_right false b e = absurd cc

pub or_true : (a b : Bool) → (a || b) ≡ true → (a ≡ true) ⊎ (b ≡ true)
or_true true b e = inl refl
or_true false b e = inr e

no_word : (a : Bool) → (a && false) ≡ true → ⊥
no_word true e = cc
no_word false e = cc

pub sign_is : (a s : ℕ) → (a == s) ≡ true → s ≡ a
sign_is a s e = grind (arith, nat_tests)

-- ---- texts

all_chars : (o : Option ℕ) (bs : List ℕ) → list_all is_text (map (char o) bs) ≡ true
all_chars o [] = refl
all_chars o (b ∷ bs) = all_chars o bs

texts_by : (f : ItemForm) (o : Option ℕ) (bs : List ℕ) → list_all is_text (items_by f o bs) ≡ is_text_form f
texts_by form.Chars o bs = all_chars o bs
texts_by (form.Entity c) o bs = refl
texts_by form.Nowiki o bs = refl
texts_by form.Extension o bs = refl
texts_by form.Function o bs = refl
texts_by form.Comment o bs = refl
texts_by form.Include o bs = refl
texts_by form.Hidden o bs = refl
texts_by form.EmptyCall o bs = refl

all_both : (xs ys : List Item) → list_all is_text (xs ++ ys) ≡ (list_all is_text xs && list_all is_text ys)
all_both [] ys = refl
all_both (x ∷ xs) ys = and_by (is_text x) (list_all is_text xs) (list_all is_text ys) _ (all_both xs ys)

pub texts_cons : (p : Piece) (ps : List Piece) → list_all is_text (items (p ∷ ps)) ≡ (is_text_form p.form && list_all is_text (items ps))
texts_cons p ps = all_both (items_of p) (items ps) ∙ ap (λ (t : Bool). t && list_all is_text (items ps))
    (texts_by p.form (call_of_origin p.origin) (bytes_of p.text))

-- ---- single bars

bar_there_by : (bar : Bool) (s : ℕ) (ss : List ℕ) → begins_single bar (s ∷ ss) ≡ true → s ≡ 124
bar_there_by true s ss e = absurd cc
bar_there_by false s ss e = sign_is 124 s (and_left (124 == s) true (and_left (124 == s && true) _ e))

there_by : (t bar : Bool) (s : ℕ) (ss : List ℕ) → begins_single bar (s ∷ ss) ≡ t → (if t then 0 else suc (single_from (s == 124) ss)) < suc (length ss)
    → (single_from (s == 124) ss < length ss → slice_index ss (single_from (s == 124) ss) ≡ 124)
    → slice_index (s ∷ ss) (if t then 0 else suc (single_from (s == 124) ss)) ≡ 124
there_by true bar s ss e l h = bar_there_by bar s ss e
there_by false bar s ss e l h = h (omega arith)

single_there : (bar : Bool) (ss : List ℕ) → single_from bar ss < length ss → slice_index ss (single_from bar ss) ≡ 124
single_there bar [] l = absurd (omega arith)
single_there bar (s ∷ ss) l = there_by (begins_single bar (s ∷ ss)) bar s ss refl l (single_there (s == 124) ss)

pub bar_there : (ss : List ℕ) → single_at ss < length ss → slice_index ss (single_at ss) ≡ 124
bar_there ss l =
    let e = single_is ss in
    subst (λ (n : ℕ). slice_index ss n ≡ 124) (sym e) (single_there false ss (subst (λ (n : ℕ). n < length ss) e l))

-- ---- cuts

pub low_sign : (n : ℕ) (xs : List Item) → HasSign n (signs xs) → IsLowCut n xs
low_sign n xs h some less = inl h.low

pub get_drop : (ss : List ℕ) (n k : ℕ) → slice_index (drop n ss) k ≡ slice_index ss (n + k)
get_drop ss zero k = let e : k ≡ 0 + k = omega arith in ap (slice_index ss) e
get_drop [] (suc n) k = refl
get_drop (s ∷ ss) (suc n) k = let e : suc (n + k) ≡ suc n + k = omega arith in get_drop ss n k ∙ ap (slice_index (s ∷ ss)) e

pub low_bar : (n : ℕ) (xs : List Item) (ss body : List ℕ) (len : ℕ) → ss ≡ signs xs → body ≡ drop n ss → len ≡ single_at body → IsLowCut len (drop n xs)
low_bar n xs ss body len e b k some less =
    let same : body ≡ signs (drop n xs) = b ∙ ap (drop n) e ∙ drop-map sign n xs in
    let l : single_at body < length body = omega (arith, k, ap length same, length-map (drop n xs) sign) in
    let at : slice_index (signs (drop n xs)) len ≡ 124 = ap (λ (ts : List ℕ). slice_index ts len) (sym same) ∙ ap (slice_index body) k ∙ bar_there body l in
    inr (omega (arith, at))

-- ---- the first cell of several

abbrev pub parts_left : Splits → List Item → List (List Item)
parts_left by [] = []
parts_left by (x ∷ xs) = parts by 2 (x ∷ xs)

abbrev pub cells_left : Bool → Splits → ℕ → List Item → List Cell
cells_left header by n [] = []
cells_left header by n (x ∷ xs) = cells_in header n (parts by n (x ∷ xs))

onto_is : (x : Item) (p : List Item) (ps : List (List Item)) → onto x (p ∷ ps) ≡ (x ∷ p) ∷ ps
onto_is x p ps = refl

first_by : (t : Bool) (by : Splits) (x : Item) (xs : List Item) → splits by (signs (x ∷ xs)) ≡ t
    → parts by zero xs ≡ take (first_len by zero (signs xs)) xs ∷ parts_left by (drop (first_len by zero (signs xs)) xs)
    → (if t then [] ∷ onto x (parts by 1 xs) else onto x (parts by zero xs))
    ≡ take (if t then 0 else suc (first_len by zero (signs xs))) (x ∷ xs)
    ∷ parts_left by (drop (if t then 0 else suc (first_len by zero (signs xs))) (x ∷ xs))
first_by true by x xs e h = refl
first_by false by x xs e h = ap (onto x) h

pub parts_first : (by : Splits) (n : ℕ) (xs : List Item) → parts by n xs ≡ take (first_len by n (signs xs)) xs
    ∷ parts_left by (drop (first_len by n (signs xs)) xs)
parts_first by n [] = refl
parts_first by (suc n) (x ∷ xs) = ap (onto x) (parts_first by n xs)
parts_first by zero (x ∷ xs) = first_by (splits by (signs (x ∷ xs))) by x xs refl (parts_first by zero xs)

all_two : (header : Bool) (ps : List (List Item)) → cells_in header 2 ps ≡ map (cell_of header 2) ps
all_two header [] = refl
all_two header (p ∷ ps) = refl

left_are : (header : Bool) (by : Splits) (xs : List Item) → map (cell_of header 2) (parts_left by xs) ≡ cells_left header by 2 xs
left_are header by [] = refl
left_are header by (x ∷ xs) = sym (all_two header (parts by 2 (x ∷ xs)))

pub cells_first : (header : Bool) (by : Splits) (n k : ℕ) (ys : List Item) → 0 < length ys → k ≡ first_len by n (signs ys)
    → cells_left header by n ys ≡ cell_of header n (take k ys) ∷ cells_left header by 2 (drop k ys)
cells_first header by n k [] l e = absurd (omega arith)
cells_first header by n k (x ∷ xs) l e =
    let ys = x ∷ xs in
    let f = first_len by n (signs ys) in
    ap (cells_in header n) (parts_first by n ys) ∙ ap (λ cs. cell_of header n (take f ys) ∷ cs) (left_are header by (drop f ys))
    ∙ ap (λ (m : ℕ). cell_of header n (take m ys) ∷ cells_left header by 2 (drop m ys)) (sym e)

-- ---- signs of further cells

word_of_two : (a : ℕ) (ss : List ℕ) → a < 128 → begins (a ∷ a ∷ []) ss ≡ true → (slice_index ss 0 < 128) × HasSign 2 ss
word_of_two a [] l e = absurd cc
word_of_two a (s ∷ []) l e = absurd (no_word (a == s) e)
word_of_two a (s ∷ t ∷ ss) l e =
    let first : s ≡ a = sign_is a s (and_left (a == s) _ e) in
    let second : t ≡ a = sign_is a t (and_left (a == t) _ (and_right (a == s) _ e)) in
    (omega (arith, first), record { some = omega arith; within = omega arith; low = omega (arith, second) })

pub split_low : (by : Splits) (ss : List ℕ) → splits by ss ≡ true → (slice_index ss 0 < 128) × HasSign 2 ss
split_low split.Cells ss e = word_of_two 124 ss (omega arith) e
split_low split.Headers ss e = elim (or_true _ _ e) [ inl h ↦ word_of_two 124 ss (omega arith) h | inr h ↦ word_of_two 33 ss (omega arith) h ]
split_low split.Nothing ss e = absurd cc

stops_by : (t : Bool) (by : Splits) (s : ℕ) (ss : List ℕ) → splits by (s ∷ ss) ≡ t → (if t then 0 else suc (first_len by zero ss)) < suc (length ss)
    → (first_len by zero ss < length ss → splits by (drop (first_len by zero ss) ss) ≡ true)
    → splits by (drop (if t then 0 else suc (first_len by zero ss)) (s ∷ ss)) ≡ true
stops_by true by s ss e l h = e
stops_by false by s ss e l h = h (omega arith)

pub first_splits : (by : Splits) (n : ℕ) (ss : List ℕ) → first_len by n ss < length ss → splits by (drop (first_len by n ss) ss) ≡ true
first_splits by n [] l = absurd (omega arith)
first_splits by (suc n) (s ∷ ss) l = first_splits by n ss (omega arith)
first_splits by zero (s ∷ ss) l = stops_by (splits by (s ∷ ss)) by s ss refl l (first_splits by zero ss)

-- a cut before a further sign
pub low_first : (by : Splits) (n k : ℕ) (ys : List Item) → k ≡ first_len by n (signs ys) → IsLowCut k ys
low_first by n k ys e some less =
    let l : first_len by n (signs ys) < length (signs ys) = omega (arith, e, length-map ys sign) in
    let low = (split_low by _ (first_splits by n (signs ys) l)).0 in
    let at : slice_index (drop (first_len by n (signs ys)) (signs ys)) 0
    ≡ slice_index (signs ys) (first_len by n (signs ys) + 0) = get_drop (signs ys) (first_len by n (signs ys)) 0 in
    let z : first_len by n (signs ys) + 0 ≡ k = omega (arith, e) in
    inr (subst (λ (b : ℕ). b < 128) (at ∙ ap (slice_index (signs ys)) z) low)

pub next_sign : (by : Splits) (n k : ℕ) (ss : List ℕ) → k ≡ first_len by n ss → k < length ss → HasSign 2 (drop k ss)
next_sign by n k ss e l = subst (λ (m : ℕ). HasSign 2 (drop m ss)) (sym e) (split_low by _ (first_splits by n ss (subst (λ (m : ℕ). m < length ss) e l))).1
