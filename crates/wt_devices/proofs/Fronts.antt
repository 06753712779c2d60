-- Writing a list piece by piece.
use Rattle.std.proofs.Common.{◌≡◌, ℕ, ◌+◌, List, ◌++◌, take, drop, sym, ap, ◌∙◌, subst}
use Rattle.std.specs.Prelude.{Option}
use Rattle.std.specs.Io.KnownBytes.{Appends}
use Rattle.std.proofs.KnownBytes.{Appends-trans}
use Rattle.std.proofs.Math.Seq.{take-add}

pub front_grows : (a b c : Option (List ℕ)) (bytes piece : List ℕ) (done n : ℕ) → piece ≡ drop done bytes → Appends a b (take done bytes)
    → Appends b c (take n piece) → Appends a c (take (done + n) bytes)
front_grows a b c bytes piece done n e p q =
    let joined : take done bytes ++ take n piece ≡ take (done + n) bytes = ap (λ l. take done bytes ++ take n l) e ∙ sym (take-add done n bytes) in
    subst (Appends a c) joined (Appends-trans a b c (take done bytes) (take n piece) p q)
