-- Bytes that are written as they are, in one piece, in a text that is written byte after byte.
use Rattle.std.proofs.Common.{◌≡◌, ℕ, ◌+◌, ◌<◌, Bool, true, false, List, [], ◌∷◌, ◌++◌, length, take, drop, get_or, refl, sym, ap, ◌∙◌, arith, append_assoc, append-nil}
use Rattle.std.specs.Prelude.{◌&&◌}
use Rattle.std.specs.List.{flat_map, list_all}
use Rattle.std.proofs.lemmas.Grind.{flat_map-append}
use Rattle.std.proofs.Math.Seq.{take-add}

pub both : (a b : Bool) → (a && b) ≡ true → (a ≡ true) × (b ≡ true)
both true b e = (refl, e)
both false b e = cc

-- bytes that are written as they are, each of them, are so as a whole
pub plain_run : (f : ℕ → List ℕ) (p : ℕ → Bool) → ((b : ℕ) → p b ≡ true → f b ≡ b ∷ []) → (bs : List ℕ) → list_all p bs ≡ true → flat_map f bs ≡ bs
plain_run f p h [] e = refl
plain_run f p h (b ∷ bs) e =
    let t = both (p b) (list_all p bs) e in
    ap (λ xs. xs ++ flat_map f bs) (h b t.0) ∙ ap (λ xs. b ∷ xs) (plain_run f p h bs t.1)

-- a run that was pushed
pub wrote_run : (f : ℕ → List ℕ) (old new bytes front : List ℕ) (n : ℕ) → front ≡ take n bytes → new ≡ old ++ front → flat_map f front ≡ front
    → new ≡ old ++ flat_map f (take n bytes)
wrote_run f old new bytes front n is e run = e ∙ ap (λ xs. old ++ xs) (sym run ∙ ap (flat_map f) is)

-- a byte that was pushed
pub wrote_byte : (f : ℕ → List ℕ) (old new bytes : List ℕ) → 0 < length bytes → new ≡ old ++ f (get_or bytes 0 0) → new ≡ old ++ flat_map f (take 1 bytes)
wrote_byte f old new [] lt e = absurd (omega arith)
wrote_byte f old new (b ∷ bs) lt e = e ∙ ap (λ xs. old ++ xs) (sym (append-nil (f b)))

-- some more that was pushed
pub wrote_more : (f : ℕ → List ℕ) (old out new bytes rest : List ℕ) (at n : ℕ) → out ≡ old ++ flat_map f (take at bytes) → rest ≡ drop at bytes
    → new ≡ out ++ flat_map f (take n rest) → new ≡ old ++ flat_map f (take (at + n) bytes)
wrote_more f old out new bytes rest at n o is e =
    e ∙ ap (λ xs. xs ++ flat_map f (take n rest)) o ∙ append_assoc old (flat_map f (take at bytes)) (flat_map f (take n rest))
    ∙ ap (λ xs. old ++ (flat_map f (take at bytes) ++ flat_map f (take n xs))) is
    ∙ ap (λ xs. old ++ xs) (sym (flat_map-append f (take at bytes) (take n (drop at bytes))))
    ∙ ap (λ xs. old ++ flat_map f xs) (sym (take-add at n bytes))
