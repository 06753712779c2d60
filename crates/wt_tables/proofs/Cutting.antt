-- Items, cut after a number of them.
use Rattle.std.proofs.Common.{◌≡◌, ◌<◌, ◌≤◌, ℕ, zero, suc, ◌+◌, ◌-◌, Option, List, [], ◌∷◌, ◌++◌, length, take, drop, map, refl, sym, ap, ◌∙◌, subst, ◌⊎◌, inl, inr, arith, append_assoc}
use Rattle.std.specs.Prelude.{slice_index}
use Rattle.std.specs.Str.{IsUtf8, IsCharBoundary}
use Rattle.std.proofs.lemmas.List.{length-map, length-append, take-map, drop-map, take-append-drop, flat_map_more}
use Rattle.std.proofs.lemmas.Str.{IsCharBoundary-after_ascii, IsCharBoundary-before_ascii}
use Rattle.wt_span.specs.declared.form.ItemForm.{ItemForm}
use Rattle.wt_span.specs.declared.form.ItemForm.TheVariants as form
use Rattle.wt_span.specs.declared.form.Piece.{Piece}
use Rattle.wt_span.specs.Slice.{bytes_of}
use Rattle.wt_span.specs.Items.{Item, char, sign, items, items_of, items_by, call_of_origin}
use Rattle.wt_lines.specs.Pieces.{is_chars, count_by, item_count}
use Rattle.wt_tables.specs.Views.{IsLowCut}

-- ---- lists

pub take_over : (xs ys : List Item) (n : ℕ) → length xs ≤ n → take n (xs ++ ys) ≡ xs ++ take (n - length xs) ys
take_over [] ys n l = let e : n ≡ n - 0 = omega arith in ap (λ (k : ℕ). take k ys) e
take_over (x ∷ xs) ys zero l = absurd (omega arith)
take_over (x ∷ xs) ys (suc n) l =
    let e : n - length xs ≡ suc n - suc (length xs) = omega arith in
    ap (λ zs. x ∷ zs) (take_over xs ys n (omega arith)) ∙ ap (λ (k : ℕ). x ∷ (xs ++ take k ys)) e

pub drop_over : (xs ys : List Item) (n : ℕ) → length xs ≤ n → drop n (xs ++ ys) ≡ drop (n - length xs) ys
drop_over [] ys n l = let e : n ≡ n - 0 = omega arith in ap (λ (k : ℕ). drop k ys) e
drop_over (x ∷ xs) ys zero l = absurd (omega arith)
drop_over (x ∷ xs) ys (suc n) l =
    let e : n - length xs ≡ suc n - suc (length xs) = omega arith in
    drop_over xs ys n (omega arith) ∙ ap (λ (k : ℕ). drop k ys) e

over : (xs ys : List Item) (j : ℕ) → slice_index (map sign (xs ++ ys)) (length xs + j) ≡ slice_index (map sign ys) j
over [] ys j = let e : 0 + j ≡ j = omega arith in ap (slice_index (map sign ys)) e
over (x ∷ xs) ys j =
    let e : suc (length xs) + j ≡ suc (length xs + j) = omega arith in
    ap (slice_index (map sign (x ∷ (xs ++ ys)))) e ∙ over xs ys j

within : (xs ys : List Item) (j : ℕ) → j < length xs → slice_index (map sign (xs ++ ys)) j ≡ slice_index (map sign xs) j
within [] ys j l = absurd (omega arith)
within (x ∷ xs) ys zero l = refl
within (x ∷ xs) ys (suc j) l = within xs ys j (omega arith)

low_along : (a b c d : ℕ) → a ≡ b → c ≡ d → (a < 128) ⊎ (c < 128) → (b < 128) ⊎ (d < 128)
low_along a b c d e f h = elim h [ inl l ↦ inl (omega arith) | inr l ↦ inr (omega arith) ]

pub low_over : (xs ys : List Item) (n : ℕ) → length xs ≤ n → IsLowCut n (xs ++ ys) → IsLowCut (n - length xs) ys
low_over xs ys n l h some less =
    let m = n - length xs in
    let p : n - 1 ≡ length xs + (m - 1) = omega arith in
    let q : n ≡ length xs + m = omega arith in
    let ss = map sign (xs ++ ys) in
    low_along _ _ _ _ (ap (slice_index ss) p ∙ over xs ys (m - 1)) (ap (slice_index ss) q ∙ over xs ys m) (h (omega arith) (omega (arith, length-append xs ys)))

pub low_within : (xs ys : List Item) (n : ℕ) → n < length xs → IsLowCut n (xs ++ ys) → IsLowCut n xs
low_within xs ys n l h some less =
    low_along _ _ _ _ (within xs ys (n - 1) (omega arith)) (within xs ys n l) (h some (omega (arith, length-append xs ys)))

-- ---- pieces

count_by_form : (f : ItemForm) (o : Option ℕ) (bs : List ℕ) → count_by (is_chars f) bs ≡ length (items_by f o bs)
count_by_form form.Chars o bs = sym (length-map bs (char o))
count_by_form (form.Entity c) o bs = refl
count_by_form form.Nowiki o bs = refl
count_by_form form.Extension o bs = refl
count_by_form form.Function o bs = refl
count_by_form form.Comment o bs = refl
count_by_form form.Include o bs = refl
count_by_form form.Hidden o bs = refl
count_by_form form.EmptyCall o bs = refl

pub count_is : (p : Piece) → item_count p ≡ length (items_of p)
count_is p = count_by_form p.form (call_of_origin p.origin) (bytes_of p.text)

chars_by : (f : ItemForm) (bs : List ℕ) (n : ℕ) → 0 < n → n < count_by (is_chars f) bs → f ≡ form.Chars
chars_by form.Chars bs n s l = refl
chars_by (form.Entity c) bs n s l = absurd (omega arith)
chars_by form.Nowiki bs n s l = absurd (omega arith)
chars_by form.Extension bs n s l = absurd (omega arith)
chars_by form.Function bs n s l = absurd (omega arith)
chars_by form.Comment bs n s l = absurd (omega arith)
chars_by form.Include bs n s l = absurd (omega arith)
chars_by form.Hidden bs n s l = absurd (omega arith)
chars_by form.EmptyCall bs n s l = absurd (omega arith)

chars_signs : (o : Option ℕ) (bs : List ℕ) → map sign (map (char o) bs) ≡ bs
chars_signs o [] = refl
chars_signs o (b ∷ bs) = ap (λ (l : List ℕ). b ∷ l) (chars_signs o bs)

items_are : (p : Piece) (n : ℕ) → 0 < n → n < item_count p → items_of p ≡ map (char (call_of_origin p.origin)) (bytes_of p.text)
items_are p n s l = ap (λ (f : ItemForm). items_by f (call_of_origin p.origin) (bytes_of p.text)) (chars_by p.form (bytes_of p.text) n s l)

pub cut_low : (p : Piece) (n : ℕ) → 0 < n → n < item_count p → IsLowCut n (items_of p)
    → (slice_index (bytes_of p.text) (n - 1) < 128) ⊎ (slice_index (bytes_of p.text) n < 128)
cut_low p n s l h =
    let e : map sign (items_of p) ≡ bytes_of p.text = ap (map sign) (items_are p n s l) ∙ chars_signs (call_of_origin p.origin) (bytes_of p.text) in
    low_along _ _ _ _ (ap (λ (bs : List ℕ). slice_index bs (n - 1)) e) (ap (λ (bs : List ℕ). slice_index bs n) e) (h s (omega (arith, count_is p)))

pub cut_front : (p : Piece) (n : ℕ) (bs : List ℕ) → 0 < n → n < item_count p → bs ≡ take n (bytes_of p.text)
    → map (char (call_of_origin p.origin)) bs ≡ take n (items_of p)
cut_front p n bs s l e =
    let f = char (call_of_origin p.origin) in
    ap (map f) e ∙ sym (take-map f n (bytes_of p.text)) ∙ ap (take n) (sym (items_are p n s l))

pub cut_back : (p : Piece) (n : ℕ) (bs : List ℕ) → 0 < n → n < item_count p → bs ≡ drop n (bytes_of p.text)
    → map (char (call_of_origin p.origin)) bs ≡ drop n (items_of p)
cut_back p n bs s l e =
    let f = char (call_of_origin p.origin) in
    ap (map f) e ∙ sym (drop-map f n (bytes_of p.text)) ∙ ap (drop n) (sym (items_are p n s l))

pub low_border : (bs : List ℕ) (n : ℕ) → IsUtf8 bs → 0 < n → n < length bs → (slice_index bs (n - 1) < 128) ⊎ (slice_index bs n < 128) → IsCharBoundary bs n
low_border bs n u s l h = elim h [
  | inl a ↦ subst (IsCharBoundary bs) (omega arith) (IsCharBoundary-after_ascii bs (n - 1) u (omega arith) a)
  | inr b ↦ IsCharBoundary-before_ascii bs n l b
]

-- ---- a piece and what is left

pub cut_joined : (xs ys front back all : List Item) (n : ℕ) → all ≡ xs ++ ys → front ≡ take n xs → back ≡ drop n xs → all ≡ front ++ (back ++ ys)
cut_joined xs ys front back all n e f b =
    e ∙ ap (λ zs. zs ++ ys) (sym (take-append-drop n xs)) ∙ ap (λ zs. (zs ++ drop n xs) ++ ys) (sym f)
    ∙ ap (λ zs. (front ++ zs) ++ ys) (sym b) ∙ append_assoc front back ys

pub taken_more : (old new xs ys here all : List Item) (n k : ℕ) → here ≡ xs ++ ys → k ≡ length xs → k ≤ n → new ≡ old ++ xs
    → old ++ take n here ≡ all → new ++ take (n - k) ys ≡ all
taken_more old new xs ys here all n k e c l f h =
    ap (λ zs. zs ++ take (n - k) ys) f ∙ append_assoc old xs (take (n - k) ys) ∙ ap (λ (m : ℕ). old ++ (xs ++ take (n - m) ys)) c
    ∙ ap (λ zs. old ++ zs) (sym (take_over xs ys n (subst (λ (m : ℕ). m ≤ n) c l)) ∙ ap (take n) (sym e)) ∙ h

pub dropped_more : (xs ys here all : List Item) (n k : ℕ) → here ≡ xs ++ ys → k ≡ length xs → k ≤ n → drop n here ≡ all → drop (n - k) ys ≡ all
dropped_more xs ys here all n k e c l h =
    ap (λ (m : ℕ). drop (n - m) ys) c ∙ sym (drop_over xs ys n (subst (λ (m : ℕ). m ≤ n) c l)) ∙ ap (drop n) (sym e) ∙ h

pub low_more : (xs ys here : List Item) (n k : ℕ) → here ≡ xs ++ ys → k ≡ length xs → k ≤ n → IsLowCut n here → IsLowCut (n - k) ys
low_more xs ys here n k e c l h =
    subst (λ (m : ℕ). IsLowCut (n - m) ys) (sym c) (low_over xs ys n (subst (λ (m : ℕ). m ≤ n) c l) (subst (IsLowCut n) e h))

pub pushed_items : (old new : List Piece) (p : Piece) → new ≡ old ++ p ∷ [] → items new ≡ items old ++ items_of p
pushed_items old new p e = ap items e ∙ sym (flat_map_more items_of [] old p)
