-- Brackets balance as a grammar has them.
use Rattle.std.proofs.Common.{◌≡◌, ℕ, zero, suc, Bool, true, false, Some, List, [], ◌∷◌, drop, refl, ap, ◌∙◌, subst, codes, arith}
use Rattle.std.specs.Prelude.{◌↔◌, ◌==◌, ◌&&◌, if◌then◌else◌}
use Rattle.std.proofs.lemmas.Bool.Decides.{nat_tests}
use Rattle.std.proofs.lemmas.Option.{same_Some}
use Rattle.wt_tiles.specs.declared.glyph.Glyph.{Glyph}
use Rattle.wt_tiles.specs.declared.glyph.Glyph.TheVariants as glyph
use Rattle.wt_tiles.specs.Glyphs.{begins}
use Rattle.wt_tiles.specs.Partners.{DepthChange, Up, Down, Level, bracket_turn, by_bracket, balanced}
use Rattle.wt_tiles.proofs.Balances.{skip}
use Rattle.wt_page_laws.specs.Brackets.{Balances, nothing, item, pair, BalancesTo}

-- so many `]]` more follow, each behind what balances
Chain : ℕ → List Glyph → List Glyph → Type 0
Chain zero gs ys = BalancesTo gs ys
Chain (suc d) gs ys = (zs : List Glyph) × Balances gs zs × (begins (codes "]]") zs ≡ true) × Chain d (drop 2 zs) ys

-- what a turn says of the brackets
abbrev Means : DepthChange → List Glyph → Type 0
Means Up gs = begins (codes "[[") gs ≡ true
Means Down gs = begins (codes "]]") gs ≡ true
Means Level gs = (begins (codes "]]") gs ≡ false) × (begins (codes "[[") gs ≡ false)

meant_by : (a b : Bool) (gs : List Glyph) → begins (codes "]]") gs ≡ a → begins (codes "[[") gs ≡ b
    → Means (if a then Down else (if b then Up else Level)) gs
meant_by true b gs e f = e
meant_by false true gs e f = f
meant_by false false gs e f = (e, f)

meant : (gs : List Glyph) → Means (bracket_turn gs) gs
unfolding bracket_turn
meant gs = meant_by (begins (codes "]]") gs) (begins (codes "[[") gs) gs refl refl

item_first : (d : ℕ) (g : Glyph) (gs ys : List Glyph) → Means Level (g ∷ gs) → Chain d gs ys → Chain d (g ∷ gs) ys
unfolding Chain
item_first zero g gs ys m (h, e) = (item g gs ys m.0 m.1 h, e)
item_first (suc d) g gs ys m (zs, h, e, rest) = (zs, item g gs zs m.0 m.1 h, e, rest)

pair_first : (d : ℕ) (gs ys : List Glyph) → Means Up gs → Chain (suc d) (drop 2 gs) ys → Chain d gs ys
unfolding Chain
pair_first zero gs ys m (zs, h, e, (k, f)) = (pair gs zs ys m h e k, f)
pair_first (suc d) gs ys m (zs, h, e, (ws, k, f, rest)) = (ws, pair gs zs ws m h e k, f, rest)

by_turn : (t : DepthChange) (d : ℕ) (g : Glyph) (gs ys : List Glyph) → Means t (g ∷ gs)
    → ((n e : ℕ) → balanced n e gs ≡ Some ys → Chain e (drop n gs) ys)
    → by_bracket t d (g ∷ gs) (λ n e. balanced n e gs) ≡ Some ys → Chain d (g ∷ gs) ys
unfolding Chain
by_turn Up d g gs ys m all e = pair_first d (g ∷ gs) ys m (all 1 (suc d) e)
by_turn Level d g gs ys m all e = item_first d g gs ys m (all 0 d e)
by_turn Down zero g gs ys m all e = subst (λ zs. BalancesTo (g ∷ gs) zs) (same_Some (g ∷ gs) ys e) (nothing (g ∷ gs), m)
by_turn Down (suc d) g gs ys m all e = (g ∷ gs, nothing (g ∷ gs), m, all 1 d e)

chain : (n d : ℕ) (gs ys : List Glyph) → balanced n d gs ≡ Some ys → Chain d (drop n gs) ys
chain n d [] ys e = cc
chain (suc n) d (g ∷ gs) ys e = chain n d gs ys e
chain zero d (g ∷ gs) ys e = by_turn (bracket_turn (g ∷ gs)) d g gs ys (meant (g ∷ gs)) (λ n c h. chain n c gs ys h) e

-- ---- and back

level : (gs : List Glyph) → begins (codes "]]") gs ≡ false → begins (codes "[[") gs ≡ false → bracket_turn gs ≡ Level
unfolding bracket_turn
level gs e f = ap (λ (x : Bool). if x then Down else (if begins (codes "[[") gs then Up else Level)) e ∙ ap (λ (x : Bool). if x then Up else Level) f

down : (gs : List Glyph) → begins (codes "]]") gs ≡ true → bracket_turn gs ≡ Down
unfolding bracket_turn
down gs e = ap (λ (x : Bool). if x then Down else (if begins (codes "[[") gs then Up else Level)) e

first_true : (x y : Bool) → (x && y) ≡ true → x ≡ true
first_true true y e = refl
first_true false y e = e

other : (b : ℕ) → (b == 91) ≡ true → (b == 93) ≡ false
other b e = grind (arith, nat_tests)

-- what begins with the one doesn't begin with the other
apart : (gs : List Glyph) → begins (codes "[[") gs ≡ true → begins (codes "]]") gs ≡ false
apart [] e = refl
apart (glyph.Byte b ∷ gs) e = ap (λ (x : Bool). x && begins (codes "]") gs) (other b (first_true (b == 91) (begins (codes "[") gs) e))
apart (glyph.Entity c ∷ gs) e = refl
apart (glyph.Atom ∷ gs) e = refl
apart (glyph.Mark ∷ gs) e = refl

up : (gs : List Glyph) → begins (codes "[[") gs ≡ true → bracket_turn gs ≡ Up
unfolding bracket_turn
up gs e =
    ap (λ (x : Bool). if x then Down else (if begins (codes "[[") gs then Up else Level)) (apart gs e)
    ∙ ap (λ (x : Bool). if x then Up else Level) e

turned : (t : DepthChange) (d : ℕ) (g : Glyph) (gs : List Glyph) → bracket_turn (g ∷ gs) ≡ t
    → balanced 0 d (g ∷ gs) ≡ by_bracket t d (g ∷ gs) (λ n e. balanced n e gs)
turned t d g gs e = ap (λ u. by_bracket u d (g ∷ gs) (λ n c. balanced n c gs)) e

opened : (d : ℕ) (gs : List Glyph) → begins (codes "[[") gs ≡ true → balanced 0 d gs ≡ balanced 0 (suc d) (drop 2 gs)
opened d [] e = cc
opened d (g ∷ gs) e = turned Up d g gs (up (g ∷ gs) e) ∙ skip 1 (suc d) gs

closed : (d : ℕ) (gs : List Glyph) → begins (codes "]]") gs ≡ true → balanced 0 (suc d) gs ≡ balanced 0 d (drop 2 gs)
closed d [] e = cc
closed d (g ∷ gs) e = turned Down (suc d) g gs (down (g ∷ gs) e) ∙ skip 1 d gs

ended : (gs : List Glyph) → begins (codes "]]") gs ≡ true → balanced 0 0 gs ≡ Some gs
ended [] e = cc
ended (g ∷ gs) e = turned Down 0 g gs (down (g ∷ gs) e)

-- what balances is passed at any depth
passed : (gs ys : List Glyph) → Balances gs ys → (d : ℕ) → balanced 0 d gs ≡ balanced 0 d ys
passed gs ys (nothing zs) d = refl
passed gs ys (item g hs zs e f h) d = turned Level d g hs (level (g ∷ hs) e f) ∙ passed hs zs h d
passed gs ys (pair hs zs ws e h f k) d =
    opened d hs e ∙ passed (drop 2 hs) zs h (suc d) ∙ closed d zs f ∙ passed (drop 2 zs) ws k d

pub balances_to : (gs ys : List Glyph) → balanced 0 0 gs ≡ Some ys → BalancesTo gs ys
unfolding Chain
balances_to gs ys e = chain 0 0 gs ys e

pub brackets_balance : (gs ys : List Glyph) → (balanced 0 0 gs ≡ Some ys) ↔ BalancesTo gs ys
brackets_balance gs ys = (balances_to gs ys, λ h. passed gs ys h.0 0 ∙ ended ys h.1)
