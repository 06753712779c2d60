-- A cell and its attributes, and the cells of a line, joined.
use Rattle.std.proofs.Common.{◌≡◌, ◌<◌, ◌≤◌, ℕ, zero, suc, ◌+◌, ◌-◌, ◌==◌, Bool, true, false, Option, Some, None, List, [], ◌∷◌, ◌++◌, length, take, drop, map, get_or, refl, sym, ap, ◌∙◌, subst, inl, inr, arith, nat_lt, append_assoc}
use Rattle.std.specs.Prelude.{◌&&◌, slice_index, codes, if◌then◌else◌}
use Rattle.std.specs.List.{list_all, prefix_len, flat_map}
use Rattle.std.proofs.lemmas.Bool.Decides.{nat_tests}
use Rattle.std.proofs.lemmas.List.{length-map, drop-map, drop_more, take-append-drop, map_push}
use Rattle.std.proofs.lemmas.List.Sums.{prefix_len_passes}
use Rattle.wt_span.specs.declared.form.Piece.{Piece}
use Rattle.wt_span.specs.Bytes.{is_blank, begins}
use Rattle.wt_span.specs.Items.{Item, sign, items}
use Rattle.wt_tables.specs.declared.cell.CellAt.{CellAt}
use Rattle.wt_tables.specs.declared.scan.Splits.{Splits}
use Rattle.wt_tables.specs.Cells.{signs, splits_at, onto, parts, single_at, is_text, is_text_form, is_plain, bar_by, bar_at, past_bar, Cell, cell_of, opening_len, blanks_from, cells_in, cells, begins_cell, from_sign, lead_len, split_by, header_by, sign_len, whole}
use Rattle.wt_tables.specs.Views.{HasSign, IsLowCut}
use Rattle.wt_tables.specs.CellViews.{cell_view, whole_cell}
use Rattle.wt_tables.proofs.CellSteps.{texts_cons, bar_there, get_drop, and_left, and_right, or_true, sign_is}

-- ---- texts

pub texts_go : (i : ℕ) (ps : List Piece) (p : Piece) (all : Bool) → i < length ps → p ≡ get_or ps i p → is_text_form p.form ≡ true
    → list_all is_text (items (drop i ps)) ≡ all → list_all is_text (items (drop (i + 1) ps)) ≡ all
texts_go i ps p all l is e h =
    let here : drop i ps ≡ p ∷ drop (i + 1) ps = drop_more ps i p l ∙ ap (λ (q : Piece). q ∷ drop (i + 1) ps) (sym is) in
    let step = ap (λ (qs : List Piece). list_all is_text (items qs)) here ∙ texts_cons p (drop (i + 1) ps)
    ∙ ap (λ (t : Bool). t && list_all is_text (items (drop (i + 1) ps))) e in
    sym step ∙ h

-- ---- the bar of attributes

bar_as : (xs : List Item) (k : ℕ) (t u : Bool) → k ≡ single_at (signs xs) → nat_lt k (length xs) ≡ t → is_plain (take k xs) ≡ u
    → bar_at xs ≡ (if t && u then Some k else None)
unfolding bar_at
bar_as xs k t u e l p =
    ap (λ (m : ℕ). bar_by m xs) (sym e) ∙ ap (λ (b : Bool). if b && is_plain (take k xs) then Some k else None) l
    ∙ ap (λ (b : Bool). if t && b then Some k else None) p

not_less : (a b : ℕ) → b ≤ a → nat_lt a b ≡ false
not_less a b l = grind (arith, nat_tests)

is_less : (a b : ℕ) → a < b → nat_lt a b ≡ true
is_less a b l = grind (arith, nat_tests)

less_of : (a b : ℕ) → nat_lt a b ≡ true → a < b
less_of a b l = grind (arith, nat_tests)

pub no_bar : (xs : List Item) (k : ℕ) → k ≡ single_at (signs xs) → length xs ≤ k → bar_at xs ≡ None
no_bar xs k e l = bar_as xs k false (is_plain (take k xs)) e (not_less k (length xs) l) refl

none_by : (t : Bool) (k : ℕ) → (if t && false then Some k else None) ≡ None
none_by true k = refl
none_by false k = refl

pub rough_bar : (xs : List Item) (k : ℕ) → k ≡ single_at (signs xs) → is_plain (take k xs) ≡ false → bar_at xs ≡ None
rough_bar xs k e p = bar_as xs k (nat_lt k (length xs)) false e refl p ∙ none_by (nat_lt k (length xs)) k

pub some_bar : (xs : List Item) (k : ℕ) → k ≡ single_at (signs xs) → k < length xs → is_plain (take k xs) ≡ true → bar_at xs ≡ Some k
some_bar xs k e l p = bar_as xs k true true e (is_less k (length xs) l) p

-- behind `n` items of a cell
pub body_is : (n : ℕ) (xs : List Item) (ss body : List ℕ) → ss ≡ signs xs → body ≡ drop n ss → body ≡ signs (drop n xs)
body_is n xs ss body e b = b ∙ ap (drop n) e ∙ drop-map sign n xs

bar_by_some : (t : Bool) (k m : ℕ) → (if t then Some k else None) ≡ Some m → (t ≡ true) × (k ≡ m)
bar_by_some true k m e = (refl, cc)
bar_by_some false k m e = absurd cc

pub bar_some : (xs : List Item) (k : ℕ) → bar_at xs ≡ Some k → slice_index (signs xs) k ≡ 124
unfolding bar_at
bar_some xs k e =
    let s = single_at (signs xs) in
    let h = bar_by_some (nat_lt s (length xs) && is_plain (take s xs)) s k e in
    let l : s < length xs = less_of s (length xs) (and_left (nat_lt s (length xs)) _ h.0) in
    let l2 : s < length (signs xs) = omega (arith, l, length-map xs sign) in
    subst (λ (m : ℕ). slice_index (signs xs) m ≡ 124) h.1 (bar_there (signs xs) l2)

-- ---- the open delimiter

from_low : (o : Option ℕ) (n : ℕ) (xs : List Item) (ss : List ℕ) → bar_at (drop n xs) ≡ o → ss ≡ signs xs → HasSign n ss
    → slice_index ss (n + past_bar o - 1) < 128
from_low None n xs ss b e h = let z : n + 0 - 1 ≡ n - 1 = omega arith in subst (λ (m : ℕ). slice_index ss m < 128) (sym z) h.low
from_low (Some k) n xs ss b e h =
    let there = bar_some (drop n xs) k b in
    let z : n + (k + 1) - 1 ≡ n + k = omega arith in
    let same : slice_index ss (n + (k + 1) - 1) ≡ 124 = ap (slice_index ss) z ∙ sym (get_drop ss n k)
    ∙ ap (λ (ts : List ℕ). slice_index ts k) (ap (drop n) e ∙ drop-map sign n xs) ∙ there in
    omega (arith, same)

blank_low : (b : ℕ) → is_blank b ≡ true → b < 128
blank_low b e = grind (arith, nat_tests)

blanks_low : (p from : ℕ) (ss : List ℕ) → prefix_len is_blank (drop from ss) ≡ p → 0 < from → slice_index ss (from - 1) < 128
    → slice_index ss (from + p - 1) < 128
blanks_low zero from ss e s h = let z : from + 0 - 1 ≡ from - 1 = omega arith in subst (λ (m : ℕ). slice_index ss m < 128) (sym z) h
blanks_low (suc j) from ss e s h =
    let z : from + suc j - 1 ≡ from + j = omega arith in
    let low : slice_index (drop from ss) j < 128 = blank_low _ (prefix_len_passes is_blank (drop from ss) j 0 (omega (arith, e))) in
    subst (λ (m : ℕ). m < 128) (get_drop ss from j ∙ ap (slice_index ss) (sym z)) low

pub low_opening : (n from w : ℕ) (xs ys : List Item) (ss : List ℕ) → ys ≡ xs → ss ≡ signs xs → HasSign n ss
    → from ≡ n + past_bar (bar_at (drop n xs)) → w ≡ blanks_from from ss → IsLowCut w ys
low_opening n from w xs ys ss y e h f is some less =
    let first : slice_index ss (from - 1) < 128 = subst (λ (m : ℕ). slice_index ss (m - 1) < 128) (sym f) (from_low (bar_at (drop n xs)) n xs ss refl e h) in
    let pos : 0 < from = omega (arith, f, h.some) in
    let low : slice_index ss (w - 1) < 128 = subst (λ (m : ℕ). slice_index ss (m - 1) < 128) (sym is) (blanks_low _ from ss refl pos first) in
    inl (subst (λ (ts : List ℕ). slice_index ts (w - 1) < 128) (e ∙ ap signs (sym y)) low)

-- ---- the loop over cells

pub step_cells : (old new : List CellAt) (cell : CellAt) (here : Cell) (rest now all : List Cell) → new ≡ old ++ cell ∷ []
    → cell_view cell ≡ here → rest ≡ here ∷ now → map cell_view old ++ rest ≡ all → map cell_view new ++ now ≡ all
step_cells old new cell here rest now all e v f h =
    ap (λ cs. map cell_view cs ++ now) e ∙ ap (λ cs. cs ++ now) (map_push cell_view old cell) ∙ append_assoc (map cell_view old) (cell_view cell ∷ []) now
    ∙ ap (λ c. map cell_view old ++ (c ∷ now)) v ∙ ap (λ cs. map cell_view old ++ cs) (sym f) ∙ h

pub some_items : (ys : List Item) (ss : List ℕ) (n : ℕ) → ss ≡ signs ys → HasSign n ss → 0 < length ys
some_items ys ss n e h = omega (arith, h.some, h.within, ap length e, length-map ys sign)

-- ---- the first sign

word_first : (a : ℕ) (ss : List ℕ) → a < 128 → begins (a ∷ []) ss ≡ true → HasSign 1 ss
word_first a [] l e = absurd cc
word_first a (s ∷ ss) l e = let f : s ≡ a = sign_is a s (and_left (a == s) true e) in
    record { some = omega arith; within = omega arith; low = omega (arith, f) }

and_none : (a : Bool) → (a && false) ≡ true → ⊥
and_none true e = cc
and_none false e = cc

word_caption : (ss : List ℕ) → begins (codes "|+") ss ≡ true → HasSign 2 ss
word_caption [] e = absurd cc
word_caption (s ∷ []) e = absurd (and_none (124 == s) e)
word_caption (s ∷ t ∷ ss) e =
    let f : t ≡ 43 = sign_is 43 t (and_left (43 == t) true (and_right (124 == s) _ e)) in
    record { some = omega arith; within = omega arith; low = omega (arith, f) }

pub first_sign : (caption : Bool) (xs : List Item) → begins_cell caption xs ≡ true → HasSign (sign_len caption) (signs (from_sign xs))
first_sign true xs e = word_caption (signs (from_sign xs)) e
first_sign false xs e = elim (or_true _ _ e) [
  | inl h ↦ word_first 124 (signs (from_sign xs)) (omega arith) h
  | inr h ↦ word_first 33 (signs (from_sign xs)) (omega arith) h
]

word_low : (a : ℕ) (w ss : List ℕ) → a < 128 → begins (a ∷ w) ss ≡ true → slice_index ss 0 < 128
word_low a w [] l e = absurd cc
word_low a w (s ∷ ss) l e = let f : s ≡ a = sign_is a s (and_left (a == s) _ e) in omega (arith, f)

lead_low : (caption : Bool) (xs : List Item) → begins_cell caption xs ≡ true → slice_index (signs (from_sign xs)) 0 < 128
lead_low true xs e = word_low 124 (43 ∷ []) (signs (from_sign xs)) (omega arith) e
lead_low false xs e = elim (or_true _ _ e) [
  | inl h ↦ word_low 124 [] (signs (from_sign xs)) (omega arith) h
  | inr h ↦ word_low 33 [] (signs (from_sign xs)) (omega arith) h
]

pub low_lead : (caption : Bool) (xs ys : List Item) (lead : ℕ) → ys ≡ xs → lead ≡ lead_len xs → begins_cell caption xs ≡ true → IsLowCut lead ys
low_lead caption xs ys lead y e h some less =
    let z : lead_len xs + 0 ≡ lead = omega (arith, e) in
    let at : slice_index (signs (from_sign xs)) 0 ≡ slice_index (signs ys) lead =
    ap (λ (ts : List ℕ). slice_index ts 0) (sym (drop-map sign (lead_len xs) xs)) ∙ get_drop (signs xs) (lead_len xs) 0
    ∙ ap (slice_index (signs xs)) z ∙ ap (λ zs. slice_index (signs zs) lead) (sym y) in
    inr (subst (λ (b : ℕ). b < 128) at (lead_low caption xs h))

-- ---- all cells, joined

abbrev flat : List (List Item) → List Item
flat ps = flat_map (λ p. p) ps

flat_onto : (x : Item) (ps : List (List Item)) → flat (onto x ps) ≡ x ∷ flat ps
flat_onto x [] = refl
flat_onto x (p ∷ ps) = refl

flat_by : (t : Bool) (by : Splits) (x : Item) (xs : List Item) → flat (parts by 1 xs) ≡ xs → flat (parts by zero xs) ≡ xs
    → flat (if t then [] ∷ onto x (parts by 1 xs) else onto x (parts by zero xs)) ≡ x ∷ xs
flat_by true by x xs a b = flat_onto x (parts by 1 xs) ∙ ap (λ ys. x ∷ ys) a
flat_by false by x xs a b = flat_onto x (parts by zero xs) ∙ ap (λ ys. x ∷ ys) b

pub parts_joined : (by : Splits) (n : ℕ) (xs : List Item) → flat (parts by n xs) ≡ xs
parts_joined by n [] = refl
parts_joined by (suc n) (x ∷ xs) = flat_onto x (parts by n xs) ∙ ap (λ ys. x ∷ ys) (parts_joined by n xs)
parts_joined by zero (x ∷ xs) = flat_by (splits_at by (x ∷ xs)) by x xs (parts_joined by 1 xs) (parts_joined by zero xs)

whole_is : (header : Bool) (n : ℕ) (p : List Item) → whole (cell_of header n p) ≡ p
unfolding cell_of
whole_is header n p = take-append-drop (opening_len n p) p

wholes : (header : Bool) (n : ℕ) (ps : List (List Item)) → flat_map whole (map (cell_of header n) ps) ≡ flat ps
wholes header n [] = refl
wholes header n (p ∷ ps) = ap (λ ys. ys ++ flat_map whole (map (cell_of header n) ps)) (whole_is header n p) ∙ ap (λ ys. p ++ ys) (wholes header n ps)

cells_in_joined : (header : Bool) (n : ℕ) (ps : List (List Item)) → flat_map whole (cells_in header n ps) ≡ flat ps
cells_in_joined header n [] = refl
cells_in_joined header n (p ∷ ps) = ap (λ ys. ys ++ flat_map whole (map (cell_of header 2) ps)) (whole_is header n p) ∙ ap (λ ys. p ++ ys) (wholes header 2 ps)

pub cells_joined : (caption : Bool) (xs : List Item) → flat_map whole (cells caption xs) ≡ from_sign xs
unfolding cells
cells_joined caption xs =
    let ys = from_sign xs in
    cells_in_joined (header_by caption (signs ys)) (sign_len caption) (parts (split_by caption (signs ys)) (sign_len caption) ys)
    ∙ parts_joined (split_by caption (signs ys)) (sign_len caption) ys

pub views_joined : (cs : List CellAt) → flat_map whole_cell cs ≡ flat_map whole (map cell_view cs)
views_joined [] = refl
views_joined (c ∷ cs) = ap (λ ys. whole_cell c ++ ys) (views_joined cs)

pub cells_are : (caption : Bool) (xs ys : List Item) (by : Splits) (header : Bool) (n : ℕ) (ss : List ℕ) (cs : List Cell)
    → ss ≡ signs (from_sign xs) → by ≡ split_by caption ss → header ≡ header_by caption ss → n ≡ sign_len caption
    → ys ≡ from_sign xs → cs ≡ cells_in header n (parts by n ys) → cs ≡ cells caption xs
unfolding cells
cells_are caption xs ys by header n ss cs s b h l y e =
    let zs = from_sign xs in
    e ∙ ap (λ (vs : List Item). cells_in header n (parts by n vs)) y ∙ ap (λ (m : ℕ). cells_in header m (parts by m zs)) l
    ∙ ap (λ (t : Bool). cells_in t (sign_len caption) (parts by (sign_len caption) zs)) (h ∙ ap (header_by caption) s)
    ∙ ap (λ (u : Splits). cells_in (header_by caption (signs zs)) (sign_len caption) (parts u (sign_len caption) zs)) (b ∙ ap (split_by caption) s)
