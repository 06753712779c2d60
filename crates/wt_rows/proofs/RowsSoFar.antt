-- Ends of tables that no line ends, behind rows.
use Rattle.std.proofs.Common.{◌≡◌, ◌<◌, ℕ, suc, ◌-◌, List, [], ◌∷◌, ◌++◌, replicate, sym, ap, ◌∙◌, arith, append_assoc, append-nil}
use Rattle.wt_page.specs.Rows.{Row, unwritten_end}

pub one_end : (made news all : List Row) (left : ℕ) → 0 < left → news ≡ made ++ unwritten_end ∷ []
    → made ++ replicate left unwritten_end ≡ all → news ++ replicate (left - 1) unwritten_end ≡ all
one_end made news all left s e h =
    let z : suc (left - 1) ≡ left = omega arith in
    ap (λ vs. vs ++ replicate (left - 1) unwritten_end) e
    ∙ append_assoc made (unwritten_end ∷ []) (replicate (left - 1) unwritten_end)
    ∙ ap (λ n. made ++ replicate n unwritten_end) z ∙ h

pub no_ends : (made all : List Row) (left : ℕ) → left ≡ 0 → made ++ replicate left unwritten_end ≡ all → made ≡ all
no_ends made all left z h = sym (append-nil made) ∙ ap (λ n. made ++ replicate n unwritten_end) (sym z) ∙ h
