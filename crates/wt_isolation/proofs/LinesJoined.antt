-- The lines of items, as they are computed, and in other words.
use Rattle.std.proofs.Common.{arith, ◌≡◌, ◌↔◌, ℕ, Bool, true, false, List, [], ◌∷◌, ◌++◌, refl, sym, ap, ◌∙◌, subst}
use Rattle.std.specs.Prelude.{◌==◌, ◌||◌, if◌then◌else◌}
use Rattle.std.specs.List.{list_any}
use Rattle.std.proofs.lemmas.Bool.Decides.{nat_tests}
use Rattle.wt_tiles.specs.declared.glyph.Glyph.{Glyph}
use Rattle.wt_tiles.specs.declared.glyph.Glyph.TheVariants as glyph
use Rattle.wt_isolation.specs.TangledLaws.{AreLines, HasNoBreak}
use Rattle.wt_isolation.specs.Toggles.{is_break_glyph, lines, onto}

is_equal : (a b : ℕ) → (a == b) ≡ true → a ≡ b
is_equal a b e = grind (arith, nat_tests)

is_line_break : (g : Glyph) → is_break_glyph g ≡ true → g ≡ glyph.Byte 10
is_line_break (glyph.Byte b) e = ap (λ (n : ℕ). glyph.Byte n) (is_equal b 10 e)
is_line_break (glyph.Entity c) e = absurd (cc)
is_line_break glyph.Atom e = absurd (cc)
is_line_break glyph.Mark e = absurd (cc)

neither : (a b : Bool) → (a || b) ≡ false → (a ≡ false) × (b ≡ false)
neither true b e = absurd (cc)
neither false b e = (refl, e)

either_not : (a b : Bool) → a ≡ false → b ≡ false → (a || b) ≡ false
either_not true b e f = absurd (cc)
either_not false b e f = f

-- ---- what is computed joins to the items

broken : (g : Glyph) (ls : List (List Glyph)) (gs : List Glyph) → is_break_glyph g ≡ true → AreLines ls gs → AreLines ([] ∷ ls) (g ∷ gs)
broken g [] gs e h = absurd h
broken g (m ∷ ls) gs e h = (gs, refl, ap (λ (x : Glyph). x ∷ gs) (is_line_break g e), h)

longer : (g : Glyph) (ls : List (List Glyph)) (gs : List Glyph) → is_break_glyph g ≡ false → AreLines ls gs → AreLines (onto g ls) (g ∷ gs)
longer g [] gs e h = absurd h
longer g (l ∷ []) gs e (none, is) =
    (either_not (is_break_glyph g) (list_any is_break_glyph l) e none, ap (λ (xs : List Glyph). g ∷ xs) is)
longer g (l ∷ m ∷ ls) gs e (rest, none, is, more) =
    (rest, either_not (is_break_glyph g) (list_any is_break_glyph l) e none, ap (λ (xs : List Glyph). g ∷ xs) is, more)

are_lines : (gs : List Glyph) → AreLines (lines gs) gs
are_lines [] = (refl, refl)
are_lines (g ∷ gs) = by (is_break_glyph g) refl (are_lines gs)
  where
    by : (t : Bool) → is_break_glyph g ≡ t → AreLines (lines gs) gs → AreLines (if t then [] ∷ lines gs else onto g (lines gs)) (g ∷ gs)
    by true e h = broken g (lines gs) gs e h
    by false e h = longer g (lines gs) gs e h

-- ---- nothing else does

unbroken_on : (g : Glyph) (gs : List Glyph) → is_break_glyph g ≡ false → lines (g ∷ gs) ≡ onto g (lines gs)
unbroken_on g gs e = ap (λ t. if t then [] ∷ lines gs else onto g (lines gs)) e

one_line : (l : List Glyph) → HasNoBreak l → lines l ≡ l ∷ []
one_line [] e = refl
one_line (g ∷ gs) e =
    let halves = neither (is_break_glyph g) (list_any is_break_glyph gs) e in
    unbroken_on g gs halves.0 ∙ ap (onto g) (one_line gs halves.1)

line_first : (l rest : List Glyph) → HasNoBreak l → lines (l ++ glyph.Byte 10 ∷ rest) ≡ l ∷ lines rest
line_first [] rest e = refl
line_first (g ∷ gs) rest e =
    let halves = neither (is_break_glyph g) (list_any is_break_glyph gs) e in
    unbroken_on g (gs ++ glyph.Byte 10 ∷ rest) halves.0 ∙ ap (onto g) (line_first gs rest halves.1)

are_alone : (ls : List (List Glyph)) (gs : List Glyph) → AreLines ls gs → ls ≡ lines gs
are_alone [] gs h = absurd h
are_alone (l ∷ []) gs (none, is) = sym (ap lines is ∙ one_line l none)
are_alone (l ∷ m ∷ ls) gs (rest, none, is, more) =
    sym (ap lines is ∙ line_first l rest none ∙ ap (λ (ms : List (List Glyph)). l ∷ ms) (sym (are_alone (m ∷ ls) rest more)))

pub lines_joined : (ls : List (List Glyph)) (gs : List Glyph) → AreLines ls gs ↔ (ls ≡ lines gs)
lines_joined ls gs =
    let P : List (List Glyph) → Type 0 = λ ms. AreLines ms gs in
    (are_alone ls gs, λ e. subst P (sym e) (are_lines gs))
