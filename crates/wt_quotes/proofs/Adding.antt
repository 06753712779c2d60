-- One chunk more, for the layer above: what its loop over chunks wants.
use Rattle.std.proofs.Common.{◌≡◌, ◌+◌, Bool, true, false, List, [], ◌∷◌, ◌++◌, refl, ap, arith}
use Rattle.std.specs.Prelude.{◌&&◌, not}
use Rattle.wt_quotes.specs.declared.chunk.Chunk.{Chunk}
use Rattle.wt_quotes.specs.Runs.{chunk_bytes, bytes_of, is_run, are_apart, ends_in_run}

apart_pair : (x y : Bool) → (x && y) ≡ false → (not (x && y) && true) ≡ true
apart_pair x y e = ap (λ b. not b && true) e

apart_rest : (x y z : Bool) → (x && y) ≡ true → (y ≡ true → z ≡ true) → (x && z) ≡ true
apart_rest true y z e f = f e
apart_rest false y z e f = e

pub are_apart-push : (cs : List Chunk) (c : Chunk) → are_apart cs ≡ true → (ends_in_run cs && is_run c) ≡ false → are_apart (cs ++ c ∷ []) ≡ true
are_apart-push [] c e f = refl
are_apart-push (b ∷ []) c e f = apart_pair (is_run b) (is_run c) f
are_apart-push (b ∷ d ∷ cs) c e f = apart_rest (not (is_run b && is_run d)) (are_apart (d ∷ cs))
    (are_apart (d ∷ (cs ++ c ∷ []))) e (λ g. are_apart-push (d ∷ cs) c g f)

pub ends_in_run-push : (cs : List Chunk) (c : Chunk) → ends_in_run (cs ++ c ∷ []) ≡ is_run c
ends_in_run-push [] c = refl
ends_in_run-push (b ∷ []) c = refl
ends_in_run-push (b ∷ d ∷ cs) c = ends_in_run-push (d ∷ cs) c

pub bytes_of-push : (cs : List Chunk) (c : Chunk) → bytes_of (cs ++ c ∷ []) ≡ bytes_of cs + chunk_bytes c
bytes_of-push [] c = omega arith
bytes_of-push (b ∷ cs) c = omega (arith, bytes_of-push cs c)
