-- Lexemes by the places where they begin and end.
use Rattle.std.proofs.Common.{arith, ◌≡◌, ◌↔◌, ℕ, ◌+◌, ◌-◌, List, [], ◌∷◌, ◌++◌, take, drop, refl, sym, ap, ◌∙◌}
use Rattle.std.specs.Str.{IsUtf8}
use Rattle.std.proofs.lemmas.Str.{IsUtf8-between}
use Rattle.wt_lex.specs.Places.{AtBorders, Follow}
use Rattle.wt_lex.specs.declared.lexeme.Lexeme.{Lexeme}
use Rattle.wt_page_laws.specs.Sides.{starts, ends, width}

first_of : (x y : ℕ) (xs ys : List ℕ) → x ∷ xs ≡ y ∷ ys → x ≡ y
first_of x y xs ys e = cc

rest_of : (x y : ℕ) (xs ys : List ℕ) → x ∷ xs ≡ y ∷ ys → xs ≡ ys
rest_of x y xs ys e = cc

sides_of : (from to : ℕ) (xs : List Lexeme) → Follow from xs to → starts xs ++ to ∷ [] ≡ from ∷ ends xs
sides_of from to [] f = ap (λ (n : ℕ). n ∷ []) (sym f)
sides_of from to (x ∷ xs) f =
    ap (λ (n : ℕ). n ∷ (starts xs ++ to ∷ [])) f.0 ∙ ap (λ (l : List ℕ). from ∷ l) (sides_of x.at.end to xs f.1)

of_sides : (from to : ℕ) (xs : List Lexeme) → starts xs ++ to ∷ [] ≡ from ∷ ends xs → Follow from xs to
of_sides from to [] e = sym (first_of to from [] [] e)
of_sides from to (x ∷ xs) e = (
  first_of x.at.start from (starts xs ++ to ∷ []) (x.at.end ∷ ends xs) e,
  of_sides x.at.end to xs (rest_of x.at.start from (starts xs ++ to ∷ []) (x.at.end ∷ ends xs) e),
)

pub by_sides : (from to : ℕ) → (xs : List Lexeme) → (Follow from xs to) ↔ (starts xs ++ to ∷ [] ≡ from ∷ ends xs)
by_sides from to xs = (sides_of from to xs, of_sides from to xs)

pub by_width : (from to : ℕ) → (xs : List Lexeme) → Follow from xs to → from + width xs ≡ to
by_width from to [] f = omega (arith, f)
by_width from to (x ∷ xs) f =
    let r = by_width x.at.end to xs f.1 in let o = x.at.ordered in let s = f.0 in
    let w : width (x ∷ xs) ≡ (x.at.end - x.at.start) + width xs = refl in
    omega arith

pub cut_out : (text : List ℕ) → (x : Lexeme) → IsUtf8 text → AtBorders text x → IsUtf8 (take (x.at.end - x.at.start) (drop x.at.start text))
cut_out text x u b = IsUtf8-between text x.at.start x.at.end u x.at.ordered b.0 b.1
