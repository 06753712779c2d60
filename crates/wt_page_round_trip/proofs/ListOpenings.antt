-- Where the open delimiters of items end: behind signs of lists and blanks, and at the `:` behind a term.
use Rattle.std.proofs.Common.{◌≡◌, ℕ, zero, suc, ◌+◌, ◌-◌, ◌<◌, ◌≤◌, Bool, true, false, min, List, [], ◌∷◌, ◌++◌, length, take, drop, get_or, replicate, inl, inr, refl, sym, ap, ◌∙◌, subst, arith, length-append, length-take}
use Rattle.std.specs.Prelude.{◌==◌, not, if◌then◌else◌}
use Rattle.std.specs.List.{flat_map, prefix_len, AllByRecursion}
use Rattle.std.proofs.lemmas.Bool.{eqb-true, cases_lt}
use Rattle.std.proofs.lemmas.Bool.Decides.{nat_tests}
use Rattle.std.proofs.lemmas.List.{map-append, drop-map, take-append-drop, get_or_append_left, get_or-append_right}
use Rattle.std.proofs.lemmas.List.Sums.{prefix_len_stops}
use Rattle.wt_span.specs.Bytes.{is_blank}
use Rattle.wt_span.specs.Items.{Item, char, whole, sign}
use Rattle.wt_blocks.specs.Nesting.{is_list_sign}
use Rattle.wt_tiles.specs.declared.shape.Shape.{Shape}
use Rattle.wt_tiles.specs.Contexts.{in_line}
use Rattle.wt_tiles.specs.Tiles.{tiles}
use Rattle.wt_tiles.specs.Cutting.{joined}
use Rattle.wt_tiles.proofs.Joining.{tiles_join}
use Rattle.wt_page.specs.Rows.{signs}
use Rattle.wt_page.specs.Lists.{prefix_of, with_blanks, item_opening_len, is_bare, seen_signs, colon_at}
use Rattle.wt_page_round_trip.proofs.OfPage.{IsPageItem, ArePageItems}
use Rattle.wt_page_round_trip.proofs.PageLines.{all_taken, all_dropped}
use Rattle.wt_page_round_trip.proofs.TextItems.{BeginsLow, cut_items_before, AreTexts}
use Rattle.wt_page_round_trip.proofs.GoodRows.{IsLowItem, low_ends, low_item, passing_low, behind_items}
use Rattle.wt_page_round_trip.proofs.Delimiters.{blank_low}
use Rattle.wt_page_round_trip.proofs.HeadingLines.{signs_len}

-- ---- the first items of a list

pub fewer_taken : {A : Type 0} (P : A → Type 0) (n m : ℕ) (xs : List A) → n ≤ m → AllByRecursion P (take m xs) → AllByRecursion P (take n xs)
fewer_taken P zero m xs le a = tt
fewer_taken P (suc n) m [] le a = tt
fewer_taken P (suc n) zero (x ∷ xs) le a = absurd (omega arith)
fewer_taken P (suc n) (suc m) (x ∷ xs) le a = (a.0, fewer_taken P n m xs (omega arith) a.1)

pub more_taken : {A : Type 0} (P : A → Type 0) (n m : ℕ) (xs : List A) → AllByRecursion P (take n xs) → AllByRecursion P (take m (drop n xs))
    → AllByRecursion P (take (n + m) xs)
more_taken {A} P zero m xs a b = let z : 0 + m ≡ m = omega arith in subst (λ k. AllByRecursion P (take k xs)) (sym z) b
more_taken {A} P (suc n) m [] a b =
    let none : List A = [] in
    let z : suc n + m ≡ suc (n + m) = omega arith in
    subst (λ k. AllByRecursion P (take k none)) (sym z) tt
more_taken {A} P (suc n) m (x ∷ xs) a b =
    let z : suc n + m ≡ suc (n + m) = omega arith in
    subst (λ k. AllByRecursion P (take k (x ∷ xs))) (sym z) (a.0, more_taken P n m xs a.1 b)

-- ---- blanks

list_sign_low : (s : ℕ) → is_list_sign s ≡ true → s < 128
list_sign_low s e = grind (arith, nat_tests)

pub blanks_low : (n : ℕ) (xs : List Item) → AllByRecursion IsLowItem (take n xs) → AllByRecursion IsLowItem (take (with_blanks n xs) xs)
blanks_low n xs a =
    more_taken IsLowItem n (prefix_len is_blank (drop n (signs xs))) xs a
    (subst (λ (ss : List ℕ). AllByRecursion IsLowItem (take (prefix_len is_blank ss) (drop n xs))) (sym (drop-map sign n xs))
    (passing_low is_blank blank_low (drop n xs)))

-- ---- the prefix of a line

prefix_short : (xs : List Item) → length (prefix_of xs) ≤ prefix_len is_list_sign (signs xs)
prefix_short xs =
    let m : ℕ = min 32 (prefix_len is_list_sign (signs xs)) in
    let e : length (take m (signs xs)) ≡ min m (length (signs xs)) = length-take m (signs xs) in
    omega arith

pub opening_cut : (xs : List Item) → ArePageItems xs → ArePageItems (take (item_opening_len xs) xs) × ArePageItems (drop (item_opening_len xs) xs)
opening_cut xs h =
    behind_items (item_opening_len xs) xs h (low_ends (take (item_opening_len xs) xs)
    (blanks_low (length (prefix_of xs)) xs
    (fewer_taken IsLowItem (length (prefix_of xs)) (prefix_len is_list_sign (signs xs)) xs (prefix_short xs) (passing_low is_list_sign list_sign_low xs))))

-- ---- the `:` behind a term

-- the sign of an atom
abbrev atom : ℕ
atom = 256

atom_sign : (n i : ℕ) → i < n → get_or (replicate n atom) i 0 ≡ atom
atom_sign zero i h = absurd (omega arith)
atom_sign (suc n) zero h = refl
atom_sign (suc n) (suc i) h = atom_sign n i (omega arith)

atoms_wide : (n : ℕ) → length (replicate n atom) ≡ n
atoms_wide zero = refl
atoms_wide (suc n) = ap suc (atoms_wide n)

-- what is seen of a tile
seen_by : (t : Bool) (xs : List Item) → length (if t then signs xs else replicate (length xs) atom) ≡ length xs
seen_by true xs = signs_len xs
seen_by false xs = atoms_wide (length xs)

seen_colon : (t : Bool) (xs : List Item) (i : ℕ) → i < length xs → get_or (if t then signs xs else replicate (length xs) atom) i 0 ≡ 58
    → get_or (signs xs) i 0 ≡ 58
seen_colon true xs i h e = e
seen_colon false xs i h e = absurd (let f = atom_sign (length xs) i h in omega (arith, e, f))

seen_at : (ps : List (Shape × List Item)) (i : ℕ) → get_or (flat_map seen_signs ps) i 0 ≡ 58 → get_or (signs (joined ps)) i 0 ≡ 58
seen_at [] i e = e
seen_at ((w, xs) ∷ ps) i e =
    let a : List ℕ = seen_signs (w, xs) in
    let rest : List ℕ = flat_map seen_signs ps in
    let n : length a ≡ length xs = seen_by (is_bare w.kind) xs in
    let both : signs (xs ++ joined ps) ≡ signs xs ++ signs (joined ps) = map-append sign xs (joined ps) in
    elim (cases_lt i (length xs)) [
      | inl h ↦
          let here : get_or a i 0 ≡ 58 = sym (get_or_append_left a rest 0 i (omega (arith, n, h))) ∙ e in
          ap (λ (ss : List ℕ). get_or ss i 0) both ∙ get_or_append_left (signs xs) (signs (joined ps)) 0 i (omega (arith, h, signs_len xs))
          ∙ seen_colon (is_bare w.kind) xs i h here
      | inr h ↦
          let later : get_or rest (i - length xs) 0 ≡ 58 = sym (get_or-append_right a rest (length xs) i 0 n h) ∙ e in
          ap (λ (ss : List ℕ). get_or ss i 0) both ∙ get_or-append_right (signs xs) (signs (joined ps)) (length xs) i 0 (signs_len xs) h
          ∙ seen_at ps (i - length xs) later
    ]

seen_wide : (ps : List (Shape × List Item)) → length (flat_map seen_signs ps) ≡ length (joined ps)
seen_wide [] = refl
seen_wide ((w, xs) ∷ ps) =
    let a = length-append (seen_signs (w, xs)) (flat_map seen_signs ps) in
    let b = length-append xs (joined ps) in
    let c : length (seen_signs (w, xs)) ≡ length xs = seen_by (is_bare w.kind) xs in
    let d = seen_wide ps in
    omega (arith, a, b, c, d)

not_colon : (s : ℕ) → not (s == 58) ≡ false → s ≡ 58
not_colon s e = by_test (s == 58) refl e
  where
    by_test : (t : Bool) → (s == 58) ≡ t → not t ≡ false → s ≡ 58
    by_test true f g = eqb-true s 58 f
    by_test false f g = absurd cc

pub colon_sign : (xs : List Item) → colon_at xs < length xs → get_or (signs xs) (colon_at xs) 0 ≡ 58
unfolding colon_at
colon_sign xs h =
    let ps : List (Shape × List Item) = tiles in_line xs in
    let ss : List ℕ = flat_map seen_signs ps in
    let join : joined ps ≡ xs = tiles_join in_line xs in
    let wide : length ss ≡ length xs = seen_wide ps ∙ ap (λ (ys : List Item). length ys) join in
    let stops : get_or ss (prefix_len (λ s. not (s == 58)) ss) 0 ≡ 58 =
    not_colon _ (prefix_len_stops (λ s. not (s == 58)) ss 0 (omega (arith, h, wide))) in
    sym (ap (λ (ys : List Item). get_or (signs ys) (prefix_len (λ s. not (s == 58)) ss) 0) join) ∙ seen_at ps (prefix_len (λ s. not (s == 58)) ss) stops

pub sign_begins : (xs : List Item) (n : ℕ) → get_or (signs xs) n 0 < 128 → BeginsLow (drop n xs)
sign_begins [] zero l = tt
sign_begins [] (suc n) l = tt
sign_begins (char o b ∷ xs) zero l = l
sign_begins (whole f o bs ∷ xs) zero l = tt
sign_begins (x ∷ xs) (suc n) l = sign_begins xs n l

pub first_low : (xs : List Item) → get_or (signs xs) 0 0 < 128 → AllByRecursion IsLowItem (take 1 xs)
first_low [] l = tt
first_low (x ∷ xs) l = (low_item x l, tt)

-- a term, the `:` behind it with the blanks, and what follows
pub record AreTermParts (xs : List Item) (n : ℕ) : Type 0 where
  pub term : ArePageItems (take n xs)
  pub colon : ArePageItems (take (with_blanks 1 (drop n xs)) (drop n xs))
  pub rest : ArePageItems (drop (with_blanks 1 (drop n xs)) (drop n xs))

sign_dropped : (xs : List Item) (n : ℕ) → get_or (signs (drop n xs)) 0 0 ≡ get_or (signs xs) n 0
sign_dropped [] zero = refl
sign_dropped [] (suc n) = refl
sign_dropped (x ∷ xs) zero = refl
sign_dropped (x ∷ xs) (suc n) = sign_dropped xs n

pub term_parts : (xs : List Item) (n : ℕ) → ArePageItems xs → get_or (signs xs) n 0 ≡ 58 → AreTermParts xs n
term_parts xs n h e =
    let t : AreTexts [] (take n xs) × AreTexts [] (drop n xs) =
    cut_items_before [] (take n xs) (drop n xs) (sign_begins xs n (omega (arith, e))) (subst (AreTexts []) (sym (take-append-drop n xs)) h.texts) in
    let rest : ArePageItems (drop n xs) = record { texts = t.1; page = all_dropped IsPageItem n xs h.page } in
    let first : get_or (signs (drop n xs)) 0 0 ≡ 58 = sign_dropped xs n ∙ e in
    let c : ArePageItems (take (with_blanks 1 (drop n xs)) (drop n xs)) × ArePageItems (drop (with_blanks 1 (drop n xs)) (drop n xs)) =
    behind_items (with_blanks 1 (drop n xs)) (drop n xs) rest
    (low_ends (take (with_blanks 1 (drop n xs)) (drop n xs)) (blanks_low 1 (drop n xs) (first_low (drop n xs) (omega (arith, first))))) in
    record { term = record { texts = t.0; page = all_taken IsPageItem n xs h.page }; colon = c.0; rest = c.1 }
