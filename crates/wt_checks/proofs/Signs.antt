-- Lists of signs of other lengths aren't the same.
use Rattle.std.proofs.Common.{◌≡◌, Bool, true, false, List, [], ◌∷◌, length, refl, sym, ap, ◌∙◌, suc}
use Rattle.std.specs.Prelude.{◌&&◌}
use Rattle.std.proofs.lemmas.List.{length-map}
use Rattle.wt_tree.specs.Stream.{StreamToken}
use Rattle.wt_checks.specs.declared.written.Written.{Written}
use Rattle.wt_checks.specs.declared.read.Read.{Read}
use Rattle.wt_checks.specs.Groups.{same_sign, same_signs}
use Rattle.wt_checks.specs.Tokens.{written_sign, written_signs, read_sign, read_signs}

and_no : (a : Bool) → a && false ≡ false
and_no true = refl
and_no false = refl

signs_long : (ss ts : List StreamToken) → (length ss ≡ length ts → ⊥) → same_signs ss ts ≡ false
signs_long [] [] h = absurd (h refl)
signs_long [] (t ∷ ts) h = refl
signs_long (s ∷ ss) [] h = refl
signs_long (s ∷ ss) (t ∷ ts) h = ap (λ b. same_sign s t && b) (signs_long ss ts (λ e. h (ap suc e))) ∙ and_no (same_sign s t)

pub parts_long : (ws : List Written) (rs : List Read) → (length ws ≡ length rs → ⊥) → false ≡ same_signs (written_signs ws) (read_signs rs)
parts_long ws rs h = sym (signs_long (written_signs ws) (read_signs rs) (λ e. h (sym (length-map ws written_sign) ∙ e ∙ length-map rs read_sign)))
