-- The cells of a line cut it in one way.
use Rattle.std.proofs.Common.{◌≡◌, ◌≤◌, ℕ, zero, suc, Bool, true, false, List, [], ◌∷◌, ◌++◌, length, refl, sym, ap, ◌∙◌, subst, arith}
use Rattle.std.specs.Prelude.{if◌then◌else◌}
use Rattle.wt_span.specs.Items.{Item}
use Rattle.wt_tables.specs.declared.scan.Splits.{Splits}
use Rattle.wt_tables.specs.declared.scan.Splits.TheVariants as split
use Rattle.wt_tables.specs.Cells.{splits_at, onto, parts}
use Rattle.wt_tables.specs.CutLaws.{NoneSplits, AreCut}

none_empty : (by : Splits) (n m : ℕ) (xs : List Item) → m ≤ n → NoneSplits by n m xs
none_empty by n m xs l k a b = absurd (omega arith)

later : (by : Splits) (n m : ℕ) (x : Item) (xs : List Item) → NoneSplits by n m xs → NoneSplits by (suc n) (suc m) (x ∷ xs)
later by n m x xs h zero a b = absurd (omega arith)
later by n m x xs h (suc k) a b = h k (omega arith) (omega arith)

later_front : (by : Splits) (m : ℕ) (x : Item) (xs : List Item) → splits_at by (x ∷ xs) ≡ false → NoneSplits by 0 m xs → NoneSplits by 0 (suc m) (x ∷ xs)
later_front by m x xs e h zero a b = e
later_front by m x xs e h (suc k) a b = h k (omega arith) (omega arith)

in_sign : (by : Splits) (n : ℕ) (x : Item) (ps : List (List Item)) (xs : List Item) → AreCut by n ps xs → AreCut by (suc n) (onto x ps) (x ∷ xs)
in_sign by n x [] xs h = absurd h
in_sign by n x (p ∷ []) xs (e, none) = (ap (λ ys. x ∷ ys) e, later by n (length p) x xs none)
in_sign by n x (p ∷ q ∷ ps) xs (others, e, le, none, s, more) = (others, ap (λ ys. x ∷ ys) e, omega arith, later by n (length p) x xs none, s, more)

in_cell : (by : Splits) (x : Item) (ps : List (List Item)) (xs : List Item) → splits_at by (x ∷ xs) ≡ false → AreCut by 0 ps xs
    → AreCut by 0 (onto x ps) (x ∷ xs)
in_cell by x [] xs f h = absurd h
in_cell by x (p ∷ []) xs f (e, none) = (ap (λ ys. x ∷ ys) e, later_front by (length p) x xs f none)
in_cell by x (p ∷ q ∷ ps) xs f (others, e, le, none, s, more) = (others, ap (λ ys. x ∷ ys) e, omega arith, later_front by (length p) x xs f none, s, more)

begun : (by : Splits) (x : Item) (ps : List (List Item)) (xs : List Item) → splits_at by (x ∷ xs) ≡ true
    → AreCut by 2 (onto x ps) (x ∷ xs) → AreCut by 0 ([] ∷ onto x ps) (x ∷ xs)
begun by x [] xs s h = (x ∷ xs, refl, omega arith, none_empty by 0 0 (x ∷ xs) (omega arith), s, h)
begun by x (p ∷ ps) xs s h = (x ∷ xs, refl, omega arith, none_empty by 0 0 (x ∷ xs) (omega arith), s, h)

front_by : (t : Bool) (by : Splits) (x : Item) (xs : List Item) → splits_at by (x ∷ xs) ≡ t → AreCut by 1 (parts by 1 xs) xs → AreCut by 0 (parts by 0 xs) xs
    → AreCut by 0 (if t then [] ∷ onto x (parts by 1 xs) else onto x (parts by 0 xs)) (x ∷ xs)
front_by true by x xs s a b = begun by x (parts by 1 xs) xs s (in_sign by 1 x (parts by 1 xs) xs a)
front_by false by x xs s a b = in_cell by x (parts by 0 xs) xs s b

pub cut_are : (by : Splits) (n : ℕ) (xs : List Item) → AreCut by n (parts by n xs) xs
cut_are by n [] = (refl, none_empty by n 0 [] (omega arith))
cut_are by (suc n) (x ∷ xs) = in_sign by n x (parts by n xs) xs (cut_are by n xs)
cut_are by zero (x ∷ xs) = front_by (splits_at by (x ∷ xs)) by x xs refl (cut_are by 1 xs) (cut_are by 0 xs)

-- ---- no other

earlier : (by : Splits) (n m : ℕ) (x : Item) (xs : List Item) → NoneSplits by (suc n) (suc m) (x ∷ xs) → NoneSplits by n m xs
earlier by n m x xs h k a b = h (suc k) (omega arith) (omega arith)

earlier_front : (by : Splits) (m : ℕ) (x : Item) (xs : List Item) → NoneSplits by 0 (suc m) (x ∷ xs) → NoneSplits by 0 m xs
earlier_front by m x xs h k a b = h (suc k) (omega arith) (omega arith)

goes_on : (by : Splits) (x : Item) (xs : List Item) (ps : List (List Item)) → splits_at by (x ∷ xs) ≡ false → parts by 0 xs ≡ ps
    → parts by 0 (x ∷ xs) ≡ onto x ps
goes_on by x xs ps e h = ap (λ (t : Bool). if t then [] ∷ onto x (parts by 1 xs) else onto x (parts by 0 xs)) e ∙ ap (onto x) h

whole_cut : (by : Splits) (n : ℕ) (xs : List Item) → NoneSplits by n (length xs) xs → parts by n xs ≡ xs ∷ []
whole_cut by n [] h = refl
whole_cut by (suc n) (x ∷ xs) h = ap (onto x) (whole_cut by n xs (earlier by n (length xs) x xs h))
whole_cut by zero (x ∷ xs) h = goes_on by x xs (xs ∷ []) (h 0 (omega arith) (omega arith)) (whole_cut by 0 xs (earlier_front by (length xs) x xs h))

no_items : (by : Splits) → splits_at by [] ≡ true → ⊥
no_items split.Cells e = cc
no_items split.Headers e = cc
no_items split.Nothing e = cc

next_cell : (by : Splits) (others : List Item) → splits_at by others ≡ true → parts by 0 others ≡ [] ∷ parts by 2 others
next_cell by [] e = absurd (no_items by e)
next_cell by (y ∷ ys) e = ap (λ (t : Bool). if t then [] ∷ onto y (parts by 1 ys) else onto y (parts by 0 ys)) e

cut_here : (by : Splits) (n : ℕ) (p others : List Item) → n ≤ length p → NoneSplits by n (length p) (p ++ others)
    → splits_at by others ≡ true → parts by n (p ++ others) ≡ p ∷ parts by 2 others
cut_here by zero [] others l h e = next_cell by others e
cut_here by (suc n) [] others l h e = absurd (omega arith)
cut_here by (suc n) (x ∷ p) others l h e = ap (onto x) (cut_here by n p others (omega arith) (earlier by n (length p) x (p ++ others) h) e)
cut_here by zero (x ∷ p) others l h e =
    goes_on by x (p ++ others) (p ∷ parts by 2 others) (h 0 (omega arith) (omega arith))
    (cut_here by 0 p others (omega arith) (earlier_front by (length p) x (p ++ others) h) e)

pub cut_only : (by : Splits) (n : ℕ) (ps : List (List Item)) (xs : List Item) → AreCut by n ps xs → ps ≡ parts by n xs
cut_only by n [] xs h = absurd h
cut_only by n (p ∷ []) xs (e, none) =
    let same : length p ≡ length xs = ap length (sym e) in
    ap (λ ys. ys ∷ []) (sym e) ∙ sym (whole_cut by n xs (subst (λ (m : ℕ). NoneSplits by n m xs) same none))
cut_only by n (p ∷ q ∷ ps) xs (others, e, le, none, s, more) =
    ap (λ qs. p ∷ qs) (cut_only by 2 (q ∷ ps) others more)
    ∙ sym (cut_here by n p others le (subst (NoneSplits by n (length p)) e none) s) ∙ ap (parts by n) (sym e)
