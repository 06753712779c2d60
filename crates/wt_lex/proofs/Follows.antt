-- One more lexeme at the end.
use Rattle.std.proofs.Common.{◌≡◌, ℕ, List, [], ◌∷◌, ◌++◌, refl, sym, ◌∙◌}
use Rattle.wt_lex.specs.declared.lexeme.Lexeme.{Lexeme}
use Rattle.wt_lex.specs.Places.{Follow}

pub follow_push : (xs : List Lexeme) (x : Lexeme) (from mid : ℕ) → Follow from xs mid → x.at.start ≡ mid → Follow from (xs ++ x ∷ []) x.at.end
follow_push [] x from mid h is = (is ∙ sym h, refl)
follow_push (y ∷ xs) x from mid h is = (h.0, follow_push xs x y.at.end mid h.1 is)
