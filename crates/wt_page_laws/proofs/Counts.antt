-- The toggles of a style are as many as the lengths that switch it.
use Rattle.std.proofs.Common.{◌≡◌, ℕ, ◌+◌, ◌-◌, ◌<◌, ◌≤◌, zero, suc, Bool, true, false, cond, Option, Some, None, List, [], ◌∷◌, length, drop, get_or, refl, sym, ap, ◌∙◌, arith}
use Rattle.std.specs.Prelude.{◌==◌, if◌then◌else◌, nat_lt, count_by, slice_get}
use Rattle.std.specs.List.{filter_map, cons_option, range_with_len}
use Rattle.std.specs.Option.{option_map_or}
use Rattle.std.proofs.lemmas.Bool.Decides.{nat_tests, Decides-eqb, Decides-ltb, not_from_Decides}
use Rattle.std.proofs.lemmas.List.Sums.{sum_by-cons}
use Rattle.std.proofs.lemmas.Option.{slice_get-get_or}
use Rattle.std.proofs.Math.Seq.{drop-cons}
use Rattle.std.proofs.lemmas.List.{drop_all}
use Rattle.wt_quotes.specs.declared.chunk.Chunk.{Chunk}
use Rattle.wt_quotes.specs.declared.chunk.Chunk.TheVariants.{Run}
use Rattle.wt_quotes.specs.declared.toggle.Toggle.{Toggle}
use Rattle.wt_quotes.specs.Runs.{run_length}
use Rattle.wt_quotes.specs.Turns.{is_of}
use Rattle.wt_quotes.specs.Toggles.{toggle_of, toggle_at}
use Rattle.wt_isolation.specs.Toggles.{switches_bold, switches_italic}
use Rattle.wt_page_laws.specs.RunCounts.{run_lengths, CountsAgree}

-- a run of a length switches the style
abbrev switches : Bool → ℕ → Bool
switches true n = switches_bold n
switches false n = switches_italic n

abbrev of_length : ℕ → ℕ → Bool → Bool → Bool → Bool → Option Toggle
of_length k n small two three four =
    if small then None
    else (if two then Some (record { chunk = k; plain = 0; italic = true; bold = false })
    else (if three then Some (record { chunk = k; plain = 0; italic = false; bold = true })
    else (if four then Some (record { chunk = k; plain = 1; italic = false; bold = true })
    else Some (record { chunk = k; plain = n - 5; italic = true; bold = true }))))

bold_by : (k n : ℕ) (small two three four : Bool) → (small ≡ true → n < 2) → (small ≡ false → n < 2 → ⊥) → (two ≡ true → n ≡ 2)
    → (two ≡ false → n ≡ 2 → ⊥) → (three ≡ true → n ≡ 3) → (four ≡ true → n ≡ 4)
    → option_map_or (is_of true) (of_length k n small two three four) false ≡ switches true n
bold_by k n true two three four s t a b c d = let h = s refl in grind (arith, nat_tests)
bold_by k n false true three four s t a b c d = let h = a refl in grind (arith, nat_tests)
bold_by k n false false true four s t a b c d = let h = c refl in grind (arith, nat_tests)
bold_by k n false false false true s t a b c d = let h = d refl in grind (arith, nat_tests)
bold_by k n false false false false s t a b c d = let h : 3 ≤ n = omega (arith, t refl, b refl) in grind (arith, nat_tests)

italic_by : (k n : ℕ) (small two three four : Bool) → (small ≡ true → n < 2) → (small ≡ false → n < 2 → ⊥) → (two ≡ true → n ≡ 2)
    → (two ≡ false → n ≡ 2 → ⊥) → (three ≡ true → n ≡ 3) → (three ≡ false → n ≡ 3 → ⊥) → (four ≡ true → n ≡ 4) → (four ≡ false → n ≡ 4 → ⊥)
    → option_map_or (is_of false) (of_length k n small two three four) false ≡ switches false n
italic_by k n true two three four s t a b c d e f = let h = s refl in grind (arith, nat_tests)
italic_by k n false true three four s t a b c d e f = let h = a refl in grind (arith, nat_tests)
italic_by k n false false true four s t a b c d e f = let h = c refl in grind (arith, nat_tests)
italic_by k n false false false true s t a b c d e f = let h = e refl in grind (arith, nat_tests)
italic_by k n false false false false s t a b c d e f = let h : 5 ≤ n = omega (arith, t refl, b refl, d refl, f refl) in grind (arith, nat_tests)

switched : (bold : Bool) (k n : ℕ) → option_map_or (is_of bold) (toggle_of k n) false ≡ switches bold n
switched true k n = bold_by k n (nat_lt n 2) (n == 2) (n == 3) (n == 4) (Decides-ltb n 2).0 (not_from_Decides (nat_lt n 2) (Decides-ltb n 2))
    (Decides-eqb n 2).0 (not_from_Decides (n == 2) (Decides-eqb n 2)) (Decides-eqb n 3).0 (Decides-eqb n 4).0
switched false k n = italic_by k n (nat_lt n 2) (n == 2) (n == 3) (n == 4) (Decides-ltb n 2).0 (not_from_Decides (nat_lt n 2) (Decides-ltb n 2))
    (Decides-eqb n 2).0 (not_from_Decides (n == 2) (Decides-eqb n 2)) (Decides-eqb n 3).0 (not_from_Decides (n == 3) (Decides-eqb n 3))
    (Decides-eqb n 4).0 (not_from_Decides (n == 4) (Decides-eqb n 4))

count_first : (p : Toggle → Bool) (o : Option Toggle) (ts : List Toggle) → count_by p (cons_option o ts) ≡ cond (option_map_or p o false) 1 0 + count_by p ts
count_first p None ts = omega arith
count_first p (Some t) ts = sum_by-cons (λ u. cond (p u) 1 0) t ts

counted : (bold : Bool) (chunks : List Chunk) (i m : ℕ) → i + m ≡ length chunks
    → count_by (is_of bold) (filter_map (toggle_at chunks) (range_with_len i m)) ≡ count_by (switches bold) (run_lengths (drop i chunks))
unfolding toggle_at
counted bold chunks i zero e = ap (λ cs. count_by (switches bold) (run_lengths cs)) (sym (drop_all i chunks (omega arith)))
counted bold chunks i (suc m) e =
    let d : Chunk = Run 0 in
    let l : i < length chunks = omega arith in
    let c : Chunk = get_or chunks i d in
    let next : suc i ≡ i + 1 = omega arith in
    let here : cond {A = ℕ} (option_map_or (is_of bold) (toggle_at chunks i) false) 1 0 ≡ cond (switches bold (run_length (Some c))) 1 0 =
    ap (λ (x : Bool). cond {A = ℕ} x 1 0) (switched bold i (run_length (slice_get chunks i))
    ∙ ap (λ o. switches bold (run_length o)) (slice_get-get_or chunks i d l)) in
    let cut : count_by (switches bold) (run_lengths (drop i chunks)) ≡ count_by (switches bold) (run_lengths (c ∷ drop (suc i) chunks)) =
    ap (λ cs. count_by (switches bold) (run_lengths cs)) (drop-cons chunks i d l) in
    let more : count_by (switches bold) (run_lengths (drop (suc i) chunks)) ≡ count_by (switches bold) (run_lengths (drop (i + 1) chunks)) =
    ap (λ k. count_by (switches bold) (run_lengths (drop k chunks))) next in
    omega (
      arith,
      count_first (is_of bold) (toggle_at chunks i) (filter_map (toggle_at chunks) (range_with_len (i + 1) m)),
      here,
      cut,
      sum_by-cons (λ n. cond {A = ℕ} (switches bold n) 1 0) (run_length (Some c)) (run_lengths (drop (suc i) chunks)),
      more,
      counted bold chunks (i + 1) m (omega arith),
    )

from_first : (chunks : List Chunk) → drop 0 chunks ≡ chunks
from_first [] = refl
from_first (c ∷ cs) = refl

pub counts_agree : (chunks : List Chunk) → CountsAgree chunks
counts_agree chunks = (
  counted true chunks 0 (length chunks) (omega arith) ∙ ap (λ cs. count_by (switches true) (run_lengths cs)) (from_first chunks),
  counted false chunks 0 (length chunks) (omega arith) ∙ ap (λ cs. count_by (switches false) (run_lengths cs)) (from_first chunks),
)
