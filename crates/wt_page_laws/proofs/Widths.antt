-- By its length alone a run gives its delimiters as many of its apostrophes as it can.
use Rattle.std.proofs.Common.{◌≡◌, ℕ, ◌-◌, ◌<◌, ◌≤◌, Bool, true, false, Option, Some, None, List, length, refl, sym, subst, arith, inl, inr}
use Rattle.std.specs.Prelude.{◌==◌, if◌then◌else◌, nat_lt, IfSome, slice_get}
use Rattle.std.proofs.lemmas.Bool.Decides.{Decides-eqb, Decides-ltb, not_from_Decides}
use Rattle.wt_quotes.specs.declared.chunk.Chunk.{Chunk}
use Rattle.wt_quotes.specs.declared.toggle.Toggle.{Toggle}
use Rattle.wt_quotes.specs.Runs.{run_length}
use Rattle.wt_quotes.specs.Toggles.{toggle_of, toggle_at, width_of}
use Rattle.wt_quotes.proofs.Exchange.{all_places}
use Rattle.wt_page_laws.specs.RunToggles.{IsWidth, IsWidest, TakesMost}

widest : (n w : ℕ) → IsWidth w → w ≤ n → (2 ≤ n → 2 ≤ w) → (3 ≤ n → 3 ≤ w) → (5 ≤ n → 5 ≤ w) → IsWidest n w
widest n w is l two three five = (
  is,
  l,
  λ v is_width m. elim is_width [
    | inl e ↦ omega (arith, e, two (omega arith))
    | inr more ↦ elim more [ inl e ↦ omega (arith, e, three (omega arith)) | inr e ↦ omega (arith, e, five (omega arith)) ]
  ],
)

-- of the place k and n apostrophes there
abbrev IsWide : ℕ → ℕ → Toggle → Type 0
IsWide k n t = (t.chunk ≡ k) × IsWidest n (width_of t)

wide_bits : (k n : ℕ) (small two three four : Bool) → (small ≡ false → n < 2 → ⊥) → (two ≡ true → n ≡ 2)
    → (two ≡ false → n ≡ 2 → ⊥) → (three ≡ true → n ≡ 3) → (three ≡ false → n ≡ 3 → ⊥)
    → (four ≡ true → n ≡ 4) → (four ≡ false → n ≡ 4 → ⊥)
    → IfSome (if small then None
    else (if two then Some (record { chunk = k; plain = 0; italic = true; bold = false })
    else (if three then Some (record { chunk = k; plain = 0; italic = false; bold = true })
    else (if four then Some (record { chunk = k; plain = 1; italic = false; bold = true })
    else Some (record { chunk = k; plain = n - 5; italic = true; bold = true }))))) (IsWide k n)
wide_bits k n true two three four s a b d e f g = tt
wide_bits k n false true three four s a b d e f g =
    (refl, widest n 2 (inl refl) (omega (arith, a refl)) (λ l. omega arith) (λ l. omega (arith, a refl)) (λ l. omega (arith, a refl)))
wide_bits k n false false true four s a b d e f g =
    (refl, widest n 3 (inr (inl refl)) (omega (arith, d refl)) (λ l. omega arith) (λ l. omega arith) (λ l. omega (arith, d refl)))
wide_bits k n false false false true s a b d e f g =
    (refl, widest n 3 (inr (inl refl)) (omega (arith, f refl)) (λ l. omega arith) (λ l. omega arith) (λ l. omega (arith, f refl)))
wide_bits k n false false false false s a b d e f g =
    (refl, widest n 5 (inr (inr refl)) (omega (arith, s refl, b refl, e refl, g refl)) (λ l. omega arith) (λ l. omega arith) (λ l. omega arith))

wide_toggle : (k n : ℕ) → IfSome (toggle_of k n) (IsWide k n)
wide_toggle k n = wide_bits k n (nat_lt n 2) (n == 2) (n == 3) (n == 4) (not_from_Decides (nat_lt n 2) (Decides-ltb n 2))
    (Decides-eqb n 2).0 (not_from_Decides (n == 2) (Decides-eqb n 2)) (Decides-eqb n 3).0
    (not_from_Decides (n == 3) (Decides-eqb n 3)) (Decides-eqb n 4).0 (not_from_Decides (n == 4) (Decides-eqb n 4))

of_chunk : (chunks : List Chunk) (k : ℕ) (o : Option Toggle) → IfSome o (IsWide k (run_length (slice_get chunks k)))
    → IfSome o (λ t. IsWidest (run_length (slice_get chunks t.chunk)) (width_of t))
of_chunk chunks k None h = tt
of_chunk chunks k (Some t) h = subst (λ j. IsWidest (run_length (slice_get chunks j)) (width_of t)) (sym h.0) h.1

pub takes_most : (chunks : List Chunk) → TakesMost chunks
unfolding toggle_at
takes_most chunks = all_places (λ t. IsWidest (run_length (slice_get chunks t.chunk)) (width_of t)) (toggle_at chunks) 0 (length chunks)
    (λ k l. of_chunk chunks k (toggle_at chunks k) (wide_toggle k (run_length (slice_get chunks k))))
