-- A name among those of attributes: of the first, and of the rest behind them.
use Rattle.std.proofs.Common.{◌≡◌, ℕ, Bool, true, false, List, [], ◌∷◌, ◌++◌, refl, ap, ◌∙◌, map}
use Rattle.std.specs.Prelude.{◌||◌}
use Rattle.std.specs.Str.{bytes_eq}
use Rattle.wt_html_grammar.specs.Signs.{is_among}
use Rattle.wt_html_grammar.specs.Markup.{Pair}

abbrev names_of : List Pair → List (List ℕ)
names_of ps = map (λ p. p.0) ps

neither : (a b : Bool) → (a || b) ≡ false → (a ≡ false) × (b ≡ false)
neither true b e = cc
neither false b e = (refl, e)

pub found_first : (k : List ℕ) (xs ys : List Pair) → is_among k (names_of xs) ≡ true → is_among k (names_of (xs ++ ys)) ≡ true
found_first k [] ys e = cc
found_first k (x ∷ xs) ys e = by (bytes_eq k x.0) e (found_first k xs ys)
  where
    by : (b : Bool) → (b || is_among k (names_of xs)) ≡ true → (is_among k (names_of xs) ≡ true → is_among k (names_of (xs ++ ys)) ≡ true)
        → (b || is_among k (names_of (xs ++ ys))) ≡ true
    by true f h = refl
    by false f h = h f

pub sought_behind : (k : List ℕ) (xs ys : List Pair) → is_among k (names_of xs) ≡ false → is_among k (names_of (xs ++ ys)) ≡ is_among k (names_of ys)
sought_behind k [] ys e = refl
sought_behind k (x ∷ xs) ys e =
    let n = neither (bytes_eq k x.0) (is_among k (names_of xs)) e in
    ap (λ b. b || is_among k (names_of (xs ++ ys))) n.0 ∙ sought_behind k xs ys n.1
