-- A heading's line can be cut behind its open delimiter and before its close delimiter: signs stand there, or its end.
use Rattle.std.proofs.Common.{◌≡◌, ℕ, zero, suc, ◌+◌, ◌-◌, ◌/◌, ◌<◌, ◌≤◌, Bool, true, false, List, [], ◌∷◌, length, take, drop, map, get_or, refl, sym, ap, ◌∙◌, subst, arith, inl, inr, ⊎_elim, length-drop}
use Rattle.std.specs.Prelude.{◌⊎◌, ◌==◌, min, reverse, slice_get, if◌then◌else◌}
use Rattle.std.specs.List.{prefix_len}
use Rattle.std.proofs.lemmas.Bool.Decides.{nat_tests}
use Rattle.std.proofs.lemmas.List.{get_or-take, get_or-drop, get_or-reverse, length-take-le, length-reverse, length-map, drop-drop}
use Rattle.std.proofs.lemmas.List.Sums.{prefix_len-le-length, prefix_len_passes}
use Rattle.wt_span.specs.Bytes.{is_blank, blank_len}
use Rattle.wt_span.specs.Items.{Item, char, whole, sign}
use Rattle.wt_lines.specs.Kinds.{is_idle}
use Rattle.wt_lines.specs.Pieces.{begins_char}
use Rattle.wt_blocks.specs.Headings.{equals, core, level_of, open_len, trimmed_len, inside_len, level, opening, inside, closing}
use Rattle.wt_tree.specs.declared.kind.Kind.TheVariants as kind
use Rattle.wt_inline.specs.ItemTree.{plain, inner, forest}
use Rattle.wt_context.specs.Line.{line_trees}
use Rattle.wt_tiles.specs.Cutting.{IsEdgeIn}
use Rattle.wt_page.specs.Headings.{heading}
use Rattle.wt_page.specs.Cuts.{IsOpenCut, IsInsideCut, heading_by}
use Rattle.wt_page.proofs.LowSigns.{low_sign}

-- ---- signs by place

blank_low : (s : ℕ) → is_blank s ≡ true → s < 128
blank_low s e = grind (arith, nat_tests)

idle_sign : (s : ℕ) → is_idle s ≡ true → (s < 128) ⊎ (256 ≤ s)
idle_sign s e = grind (arith, nat_tests)

equal_low : (s : ℕ) → (s == 61) ≡ true → s < 128
equal_low s e = grind (arith, nat_tests)

-- a text may be cut before such a sign
abbrev pub IsSign : List ℕ → ℕ → Type 0
IsSign ss i = i < length ss → (get_or ss i 0 < 128) ⊎ (256 ≤ get_or ss i 0)

low_is : (xs : List Item) (i : ℕ) → IsSign (map sign xs) i → begins_char (slice_get xs i) ≡ true
low_is [] i h = refl
low_is (char o b ∷ xs) zero h = ⊎_elim (λ l. let k : b < 128 = l in grind (arith, nat_tests))
    (λ l. let k : 256 ≤ b = l in grind (arith, nat_tests)) (h (omega arith))
low_is (whole f o bs ∷ xs) zero h = refl
low_is (x ∷ xs) (suc i) h = low_is xs i (λ l. h (omega arith))

-- ---- the core

core_len : (ss : List ℕ) → length (core ss) ≡ length ss - prefix_len is_idle (reverse ss)
core_len ss = length-take-le (length ss - prefix_len is_idle (reverse ss)) ss (omega arith)

core_get : (ss : List ℕ) (i : ℕ) → i < length (core ss) → get_or (core ss) i 0 ≡ get_or ss i 0
core_get ss i h = get_or-take (length ss - prefix_len is_idle (reverse ss)) ss i 0 (omega (arith, core_len ss))

core_within : (ss : List ℕ) → length (core ss) ≤ length ss
core_within ss = omega (arith, core_len ss)

-- behind it stand blanks and marks alone
core_end : (ss : List ℕ) → IsSign ss (length (core ss))
core_end ss h =
    let j = prefix_len is_idle (reverse ss) in
    let le : j ≤ length (reverse ss) = prefix_len-le-length is_idle (reverse ss) in
    let n : length (reverse ss) ≡ length ss = length-reverse ss in
    let some : 0 < j = omega (arith, core_len ss) in
    let passes : is_idle (get_or (reverse ss) (j - 1) 0) ≡ true = prefix_len_passes is_idle (reverse ss) (j - 1) 0 (omega arith) in
    let at : length ss - 1 - (j - 1) ≡ length (core ss) = omega (arith, core_len ss) in
    let is : get_or (reverse ss) (j - 1) 0 ≡ get_or ss (length (core ss)) 0 = get_or-reverse ss (j - 1) 0 (omega arith) ∙ ap (λ k. get_or ss k 0) at in
    idle_sign (get_or ss (length (core ss)) 0) (ap is_idle (sym is) ∙ passes)

-- ---- the runs of `=`

equals_get : (c : List ℕ) (i : ℕ) → i < equals c → get_or c i 0 < 128
equals_get c i h = equal_low (get_or c i 0) (prefix_len_passes (λ s. s == 61) c i 0 h)

last_equals_get : (c : List ℕ) (l : ℕ) → 0 < l → l ≤ equals (reverse c) → get_or c (length c - l) 0 < 128
last_equals_get c l s h =
    let le : equals (reverse c) ≤ length (reverse c) = prefix_len-le-length (λ s. s == 61) (reverse c) in
    let n : length (reverse c) ≡ length c = length-reverse c in
    let low : get_or (reverse c) (l - 1) 0 < 128 = equals_get (reverse c) (l - 1) (omega arith) in
    let at : length c - 1 - (l - 1) ≡ length c - l = omega arith in
    let is : get_or (reverse c) (l - 1) 0 ≡ get_or c (length c - l) 0 = get_or-reverse c (l - 1) 0 (omega arith) ∙ ap (λ k. get_or c k 0) at in
    omega (arith, low, is)

-- the level is at most either run, or all is one run
level_by : (c : List ℕ) (v : Bool) → (equals c == length c) ≡ v
    → (if v then min 6 ((length c - 1) / 2) else min 6 (min (equals c) (equals (reverse c)))) ≤ equals c
level_by c true e = let is : equals c ≡ length c = grind (arith, nat_tests) in omega arith
level_by c false e = omega arith

level_first : (c : List ℕ) → level_of c ≤ equals c
level_first c = level_by c (equals c == length c) refl

level_last_by : (c : List ℕ) (v : Bool) (l : ℕ) → (equals c == length c) ≡ v
    → l ≡ (if v then min 6 ((length c - 1) / 2) else min 6 (min (equals c) (equals (reverse c)))) → 0 < l → l ≤ length c
    → get_or c (length c - l) 0 < 128
level_last_by c true l e i s h = let is : equals c ≡ length c = grind (arith, nat_tests) in equals_get c (length c - l) (omega arith)
level_last_by c false l e i s h = last_equals_get c l s (omega arith)

level_last : (c : List ℕ) → 0 < level_of c → level_of c ≤ length c → get_or c (length c - level_of c) 0 < 128
level_last c s h = level_last_by c (equals c == length c) (level_of c) refl refl s h

-- ---- the open delimiter ends with a sign

open_sign_by : (c : List ℕ) (l k : ℕ) → l ≤ equals c → k ≡ blank_len (drop l c) → 0 < l + k → (l + k - 1 < length c) × (get_or c (l + k - 1) 0 < 128)
open_sign_by c l zero h e s =
    let le : equals c ≤ length c = prefix_len-le-length (λ s. s == 61) c in
    let at : l + 0 - 1 ≡ l - 1 = omega arith in
    (omega arith, subst (λ (i : ℕ). get_or c i 0 < 128) (sym at) (equals_get c (l - 1) (omega arith)))
open_sign_by c l (suc k) h e s =
    let le : blank_len (drop l c) ≤ length (drop l c) = prefix_len-le-length is_blank (drop l c) in
    let passes : is_blank (get_or (drop l c) k 0) ≡ true = prefix_len_passes is_blank (drop l c) k 0 (omega arith) in
    let at : l + suc k - 1 ≡ l + k = omega arith in
    let is : get_or (drop l c) k 0 ≡ get_or c (l + suc k - 1) 0 = get_or-drop l c k 0 ∙ ap (λ i. get_or c i 0) (sym at) in
    (omega (arith, length-drop l c), blank_low (get_or c (l + suc k - 1) 0) (ap is_blank (sym is) ∙ passes))

pub open_sign : (ss : List ℕ) → 0 < open_len (core ss) → (open_len (core ss) - 1 < length ss) × (get_or ss (open_len (core ss) - 1) 0 < 128)
open_sign ss s =
    let c = core ss in
    let o = open_sign_by c (level_of c) (blank_len (drop (level_of c) c)) (level_first c) refl s in
    let i = open_len c - 1 in
    let w : length c ≤ length ss = core_within ss in
    (omega (arith, o.0, w), subst (λ (b : ℕ). b < 128) (core_get ss i o.0) o.1)

-- ---- before the close delimiter stands a sign

inside_level : (ss : List ℕ) (l : ℕ) → l ≡ level_of (core ss) → l ≤ length (core ss) → IsSign ss (length (core ss) - l)
inside_level ss zero e le = let at : length (core ss) - 0 ≡ length (core ss) = omega arith in subst (IsSign ss) (sym at) (core_end ss)
inside_level ss (suc l) e le =
    λ h.
    let c = core ss in
    let low : get_or c (length c - level_of c) 0 < 128 = level_last c (omega arith) (omega arith) in
    let is : get_or c (length c - level_of c) 0 ≡ get_or ss (length c - suc l) 0 = ap (λ k. get_or c (length c - k) 0) (sym e)
    ∙ core_get ss (length c - suc l) (omega arith) in
    inl (omega (arith, low, is))

inside_by : (ss : List ℕ) (o l d b : ℕ) → l ≡ level_of (core ss) → d ≡ length (core ss) - l - o
    → b ≡ blank_len (reverse (take d (drop o (core ss)))) → 0 < d - b → IsSign ss (o + (d - b))
inside_by ss o l d zero el ed eb s =
    let c = core ss in
    let at : o + (d - 0) ≡ length c - l = omega arith in
    subst (IsSign ss) (sym at) (inside_level ss l el (omega arith))
inside_by ss o l d (suc b) el ed eb s =
    λ h.
    let c = core ss in
    let t = take d (drop o c) in
    let tl : length t ≡ d = length-take-le d (drop o c) (omega (arith, length-drop o c)) in
    let rl : length (reverse t) ≡ length t = length-reverse t in
    let passes : is_blank (get_or (reverse t) b 0) ≡ true = prefix_len_passes is_blank (reverse t) b 0 (omega arith) in
    let at : length t - 1 - b ≡ d - suc b = omega arith in
    let is : get_or (reverse t) b 0 ≡ get_or ss (o + (d - suc b)) 0 = get_or-reverse t b 0 (omega arith)
    ∙ ap (λ k. get_or t k 0) at ∙ get_or-take d (drop o c) (d - suc b) 0 (omega arith) ∙ get_or-drop o c (d - suc b) 0
    ∙ core_get ss (o + (d - suc b)) (omega arith) in
    inl (blank_low (get_or ss (o + (d - suc b)) 0) (ap is_blank (sym is) ∙ passes))

pub inside_sign : (ss : List ℕ) → 0 < inside_len (core ss) → IsSign ss (open_len (core ss) + inside_len (core ss))
inside_sign ss s =
    let c = core ss in
    let o = open_len c in
    let d = length c - level_of c - o in
    let t = take d (drop o c) in
    let tl : length t ≡ d = length-take-le d (drop o c) (omega (arith, length-drop o c)) in
    let is : trimmed_len t ≡ d - blank_len (reverse t) = ap (λ n. n - blank_len (reverse t)) tl in
    subst (λ (n : ℕ). IsSign ss (o + n)) (sym is) (inside_by ss o (level_of c) d (blank_len (reverse t)) refl refl refl (omega (arith, is, s)))

-- ---- on items

edge_before : (xs : List Item) (n : ℕ) → 0 < n → n - 1 < length xs → get_or (map sign xs) (n - 1) 0 < 128 → IsEdgeIn xs n
edge_before xs zero s w l = absurd (omega arith)
edge_before xs (suc k) s w l =
    let z : suc k - 1 ≡ k = omega arith in
    inr (inr (low_sign xs k (omega (arith, w, z)) (subst (λ (i : ℕ). get_or (map sign xs) i 0 < 128) z l)))

pub open_cut : (xs : List Item) (n : ℕ) → n ≡ open_len (core (map sign xs)) → IsOpenCut n xs
open_cut xs n e s =
    let o : 0 < open_len (core (map sign xs)) = subst (λ (k : ℕ). 0 < k) e s in
    let is = open_sign (map sign xs) o in
    subst (λ (k : ℕ). 0 < k → IsEdgeIn xs k) (sym e)
    (λ pos. edge_before xs (open_len (core (map sign xs))) pos (omega (arith, is.0, length-map xs sign)) is.1) s

pub inside_cut : (xs : List Item) (n m : ℕ) → n ≡ open_len (core (map sign xs)) → m ≡ inside_len (core (map sign xs)) → IsInsideCut n m xs
inside_cut xs n m en em s =
    let i : 0 < inside_len (core (map sign xs)) = subst (λ (k : ℕ). 0 < k) em s in
    let at : n + m ≡ open_len (core (map sign xs)) + inside_len (core (map sign xs)) = omega (arith, en, em) in
    subst (λ (k : ℕ). begins_char (slice_get xs k) ≡ true) (sym at)
    (low_is xs (open_len (core (map sign xs)) + inside_len (core (map sign xs))) (inside_sign (map sign xs) i))

-- ---- the heading of the cuts

cut_twice : (xs : List Item) (l o i : ℕ) → heading_by l o i xs
    ≡ inner (plain (kind.Heading l)) (take o xs) (forest (line_trees (take i (drop o xs)))) (drop (o + i) xs)
cut_twice xs l o i = ap (λ ys. inner (plain (kind.Heading l)) (take o xs) (forest (line_trees (take i (drop o xs)))) ys) (drop-drop i o xs)

heading_cut : (xs : List Item) → heading_by (level_of (core (map sign xs))) (open_len (core (map sign xs))) (inside_len (core (map sign xs))) xs ≡ heading xs
unfolding heading level opening inside closing
heading_cut xs = cut_twice xs (level_of (core (map sign xs))) (open_len (core (map sign xs))) (inside_len (core (map sign xs)))

pub heading_is : (xs : List Item) (l o i : ℕ) → l ≡ level_of (core (map sign xs)) → o ≡ open_len (core (map sign xs))
    → i ≡ inside_len (core (map sign xs)) → heading_by l o i xs ≡ heading xs
heading_is xs l o i el eo ei =
    ap (λ n. heading_by n o i xs) el ∙ ap (λ n. heading_by (level_of (core (map sign xs))) n i xs) eo
    ∙ ap (λ n. heading_by (level_of (core (map sign xs))) (open_len (core (map sign xs))) n xs) ei ∙ heading_cut xs
