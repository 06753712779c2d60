-- From the mask of one load to the run of bytes that stand for themselves.
use Rattle.std.proofs.Common.{◌≡◌, ℕ, suc, ◌+◌, ◌*◌, ◌%◌, ◌^◌, ◌<◌, ◌≤◌, Bool, true, false, not, cond, eqb, leb, List, [], ◌∷◌, map, length, take, drop, refl, sym, ap, ap₂, ◌∙◌, subst, arith}
use Rattle.std.specs.Prelude.{◌&&◌, nat_lt}
use Rattle.std.specs.List.{list_all, prefix_len}
use Rattle.std.proofs.lemmas.Bool.Decides.{nat_tests}
use Rattle.std.proofs.lemmas.Bool.{eq-eqb, ne_eqb}
use Rattle.std.proofs.lemmas.Simd.{map-map, mask_l-mod, chunk-drop, length-chunk, leading_from_mask_l, trailing_mask_l}
use Rattle.std.proofs.lemmas.List.{length-drop, length-map}
use Rattle.std.proofs.lemmas.List.Folds.{prefix_len-append}
use Rattle.std.proofs.lemmas.List.Sums.{prefix_len-le-length}
use lib.Bits.{bit_or}
use lib.Lanes.{chunk, mask_l, top}
use lib.Count.{count_trailing_zeros}
use Rattle.wt_html_grammar.specs.Signs.{in_value}
use Rattle.wt_html_grammar.specs.Machine.{is_plain}
use Rattle.wt_html_elements.specs.Runs.{ends_run}

-- ---- the mask

abbrev pub hit : ℕ → ℕ → ℕ
hit a b = cond (eqb a b) 255 0

abbrev pub at_most : ℕ → ℕ → ℕ
at_most a b = cond (leb a b) 255 0

-- what the comparisons give at a byte
abbrev pub lane : ℕ → ℕ → ℕ
lane q x = bit_or (bit_or (hit x q) (hit x 38)) (at_most 128 x)

one_of : (a b c : Bool) → top 7 (bit_or (bit_or (cond a 255 0) (cond b 255 0)) (cond c 255 0)) ≡ not (not c && (not a && not b))
one_of true true true = refl
one_of true true false = refl
one_of true false true = refl
one_of true false false = refl
one_of false true true = refl
one_of false true false = refl
one_of false false true = refl
one_of false false false = refl

is_wide : (x : ℕ) → not (leb 128 x) ≡ nat_lt x 128
is_wide x = grind (arith, nat_tests)

lane_ends : (q x : ℕ) → top 7 (lane q x) ≡ ends_run q x
lane_ends q x = one_of (eqb x q) (eqb x 38) (leb 128 x) ∙ ap (λ t. not (t && (not (eqb x q) && not (eqb x 38)))) (is_wide x)

lanes_end : (q : ℕ) (v : List ℕ) → map (λ x. top 7 (lane q x)) v ≡ map (ends_run q) v
lanes_end q [] = refl
lanes_end q (x ∷ xs) = ap₂ (λ b bs. b ∷ bs) (lane_ends q x) (lanes_end q xs)

pub masked : (q : ℕ) (v z : List ℕ) → length v ≡ 16 → z ≡ map (lane q) v → mask_l (map (top 7) z) % 2 ^ 64 ≡ mask_l (map (ends_run q) v)
masked q v z long e =
    ap (λ l. mask_l l % 2 ^ 64) (ap (map (top 7)) e ∙ map-map (top 7) (lane q) v ∙ lanes_end q v)
    ∙ mask_l-mod (map (ends_run q) v) 64 (omega (arith, length-map v (ends_run q), long))

-- ---- the run

pub run_bound : (p : ℕ → Bool) (d : List ℕ) (i : ℕ) → i ≤ length d → i + prefix_len p (drop i d) ≤ length d
run_bound p d i h = omega (arith, prefix_len-le-length p (drop i d), length-drop i d)

not-not : (b : Bool) → b ≡ not (not b)
not-not true = refl
not-not false = refl

none_fails : (b : Bool) (n l m : ℕ) → n ≤ l → cond (not b) (1 + n) 0 ≡ 1 + l → (n ≡ l → m ≡ 0) → cond b 1 0 + 2 * m ≡ 0
none_fails true n l m le e ih = let no : ⊥ = omega arith in absurd no
none_fails false n l m le e ih = let z = ih (omega arith) in omega arith

same_run : (q : ℕ) (xs : List ℕ) → prefix_len (is_plain (in_value q)) xs ≡ prefix_len (λ x. not (ends_run q x)) xs
same_run q [] = refl
same_run q (x ∷ xs) = ap₂ (λ b n. cond b (1 + n) 0) (not-not (is_plain (in_value q) x)) (same_run q xs)

all_pass : (p : ℕ → Bool) (xs : List ℕ) → prefix_len (λ x. not (p x)) xs ≡ length xs → mask_l (map p xs) ≡ 0
all_pass p [] e = refl
all_pass p (x ∷ xs) e = none_fails (p x) _ (length xs) _ (prefix_len-le-length (λ y. not (p y)) xs) (omega arith) (all_pass p xs)

split : (p : ℕ → Bool) (d : List ℕ) (i n : ℕ) → prefix_len p (drop i d) ≡ cond (eqb (prefix_len p (chunk i n d)) (length (chunk i n d))) (length (chunk i n d) + prefix_len p (drop (i + n) d)) (prefix_len p (chunk i n d))
split p d i n = ap (prefix_len p) (chunk-drop i n d) ∙ prefix_len-append p (chunk i n d) (drop (i + n) d)

-- no byte of the load ends the run
pub run_through : (q : ℕ) (d : List ℕ) (i : ℕ) → i + 16 ≤ length d → mask_l (map (ends_run q) (chunk i 16 d)) ≡ 0
    → prefix_len (is_plain (in_value q)) (drop i d) ≡ 16 + prefix_len (is_plain (in_value q)) (drop (i + 16) d)
run_through q d i room none =
    let p = is_plain (in_value q) in
    let c = chunk i 16 d in
    split p d i 16 ∙ ap (λ b. cond b (length c + prefix_len p (drop (i + 16) d)) (prefix_len p c)) (eq-eqb _ _ (same_run q c ∙ leading_from_mask_l (ends_run q) c none))
    ∙ ap (λ k. k + prefix_len p (drop (i + 16) d)) (length-chunk i 16 d room)

-- the lowest bit is where it ends
pub run_stops : (q : ℕ) (d : List ℕ) (i : ℕ) → i + 16 ≤ length d → 0 < mask_l (map (ends_run q) (chunk i 16 d))
    → prefix_len (is_plain (in_value q)) (drop i d) ≡ count_trailing_zeros 64 (mask_l (map (ends_run q) (chunk i 16 d)))
run_stops q d i room some =
    let p = is_plain (in_value q) in
    let c = chunk i 16 d in
    split p d i 16
    ∙ ap (λ b. cond b (length c + prefix_len p (drop (i + 16) d)) (prefix_len p c)) (ne_eqb _ _ (λ (e : prefix_len p c ≡ length c). omega (arith, all_pass (ends_run q) c (sym (same_run q c) ∙ e))))
    ∙ same_run q c ∙ sym (trailing_mask_l (ends_run q) 64 c (omega (arith, length-chunk i 16 d room)) some)

front_by : (p : ℕ → Bool) (x : ℕ) (xs : List ℕ) (n : ℕ) (b : Bool) → p x ≡ b → list_all p (take n xs) ≡ true → list_all p (take (cond b (1 + n) 0) (x ∷ xs)) ≡ true
front_by p x xs n true e h =
    let more : suc n ≡ 1 + n = omega arith in
    subst (λ (m : ℕ). list_all p (take m (x ∷ xs)) ≡ true) more (ap₂ (λ a c. a && c) e h)
front_by p x xs n false e h = refl

-- all of the run passes
pub in_front : (p : ℕ → Bool) (xs : List ℕ) → list_all p (take (prefix_len p xs) xs) ≡ true
in_front p [] = refl
in_front p (x ∷ xs) = front_by p x xs (prefix_len p xs) (p x) refl (in_front p xs)
