-- A read from the front of what is left.
use Rattle.std.proofs.Common.{◌≡◌, ℕ, ◌+◌, ◌≤◌, List, ◌++◌, length, take, drop, sym, ap, ◌∙◌, length-take-le}
use Rattle.std.proofs.lemmas.List.{take-append-drop, drop-drop}
use Rattle.std.proofs.Math.Seq.{take-append_seam}

-- what was read, and what is left then, are what was left
pub reads_front : (at n : ℕ) (bytes copied rest : List ℕ) → copied ≡ take n (drop at bytes) → n ≤ length (drop at bytes)
    → drop at bytes ≡ take n (copied ++ rest) ++ drop (at + n) bytes
reads_front at n bytes copied rest e within =
    let len : length copied ≡ n = ap length e ∙ length-take-le n (drop at bytes) within in
    let first : take n (copied ++ rest) ≡ copied = rw (← len) (take-append_seam copied rest) in
    rw (first, e) (sym (take-append-drop n (drop at bytes)) ∙ ap (λ l. take n (drop at bytes) ++ l) (drop-drop n at bytes))
