-- The lengths of runs of apostrophes, as they are computed, and in other words.
use Rattle.std.proofs.Common.{arith, ◌≡◌, ◌↔◌, ◌+◌, ℕ, zero, suc, Bool, true, false, List, [], ◌∷◌, ◌++◌, refl, sym, ap, ◌∙◌, subst, append-nil}
use Rattle.std.specs.Prelude.{◌==◌, if◌then◌else◌, replicate}
use Rattle.std.proofs.lemmas.Bool.Decides.{nat_tests}
use Rattle.wt_tiles.specs.declared.glyph.Glyph.{Glyph}
use Rattle.wt_tiles.specs.declared.glyph.Glyph.TheVariants as glyph
use Rattle.wt_isolation.specs.TangledLaws.{AreRuns}
use Rattle.wt_isolation.specs.Toggles.{is_quote, quote_runs}

abbrev quotes : ℕ → List Glyph
quotes n = replicate n (glyph.Byte 39)

is_equal : (a b : ℕ) → (a == b) ≡ true → a ≡ b
is_equal a b e = grind (arith, nat_tests)

is_apostrophe : (g : Glyph) → is_quote g ≡ true → g ≡ glyph.Byte 39
is_apostrophe (glyph.Byte b) e = ap (λ (n : ℕ). glyph.Byte n) (is_equal b 39 e)
is_apostrophe (glyph.Entity c) e = absurd (cc)
is_apostrophe glyph.Atom e = absurd (cc)
is_apostrophe glyph.Mark e = absurd (cc)

one_more : (n : ℕ) (gs : List Glyph) → glyph.Byte 39 ∷ quotes n ++ gs ≡ quotes n ++ glyph.Byte 39 ∷ gs
one_more zero gs = refl
one_more (suc n) gs = ap (λ (xs : List Glyph). glyph.Byte 39 ∷ xs) (one_more n gs)

-- ---- what is computed joins to the items

ended : (n : ℕ) (g : Glyph) (ns : List ℕ) (gs : List Glyph) → is_quote g ≡ false → AreRuns ns gs → AreRuns (n ∷ ns) (quotes n ++ g ∷ gs)
ended n g [] gs e h = absurd h
ended n g (m ∷ ns) gs e h = (g, gs, e, refl, h)

goes_on : (n : ℕ) (g : Glyph) (ns : List ℕ) (gs : List Glyph) → is_quote g ≡ true → AreRuns ns (quotes (suc n) ++ gs) → AreRuns ns (quotes n ++ g ∷ gs)
goes_on n g ns gs e h =
    let P : List Glyph → Type 0 = λ xs. AreRuns ns xs in
    subst P (one_more n gs ∙ ap (λ (x : Glyph). quotes n ++ x ∷ gs) (sym (is_apostrophe g e))) h

are_runs : (n : ℕ) (gs : List Glyph) → AreRuns (quote_runs n gs) (quotes n ++ gs)
are_runs n [] = append-nil (quotes n)
are_runs n (g ∷ gs) = by (is_quote g) refl (are_runs (suc n) gs) (are_runs 0 gs)
  where
    by : (t : Bool) → is_quote g ≡ t → AreRuns (quote_runs (suc n) gs) (quotes (suc n) ++ gs) → AreRuns (quote_runs 0 gs) gs
        → AreRuns (if t then quote_runs (suc n) gs else n ∷ quote_runs 0 gs) (quotes n ++ g ∷ gs)
    by true e on out = goes_on n g (quote_runs (suc n) gs) gs e on
    by false e on out = ended n g (quote_runs 0 gs) gs e out

-- ---- nothing else does

last_run : (m n : ℕ) → quote_runs m (quotes n) ≡ (m + n) ∷ []
last_run m zero = let k : m ≡ m + 0 = omega arith in ap (λ (i : ℕ). i ∷ []) k
last_run m (suc n) = let k : suc m + n ≡ m + suc n = omega arith in last_run (suc m) n ∙ ap (λ (i : ℕ). i ∷ []) k

run_first : (m n : ℕ) (g : Glyph) (rest : List Glyph) → is_quote g ≡ false → quote_runs m (quotes n ++ g ∷ rest) ≡ (m + n) ∷ quote_runs 0 rest
run_first m zero g rest e =
    let k : m ≡ m + 0 = omega arith in
    ap (λ t. if t then quote_runs (suc m) rest else m ∷ quote_runs 0 rest) e ∙ ap (λ (i : ℕ). i ∷ quote_runs 0 rest) k
run_first m (suc n) g rest e =
    let k : suc m + n ≡ m + suc n = omega arith in
    run_first (suc m) n g rest e ∙ ap (λ (i : ℕ). i ∷ quote_runs 0 rest) k

are_alone : (ns : List ℕ) (gs : List Glyph) → AreRuns ns gs → ns ≡ quote_runs 0 gs
are_alone [] gs h = absurd h
are_alone (n ∷ []) gs is =
    let k : 0 + n ≡ n = omega arith in
    sym (ap (quote_runs 0) is ∙ last_run 0 n ∙ ap (λ (i : ℕ). i ∷ []) k)
are_alone (n ∷ m ∷ ns) gs (g, rest, e, is, more) =
    let k : 0 + n ≡ n = omega arith in
    sym (ap (quote_runs 0) is ∙ run_first 0 n g rest e ∙ ap (λ (i : ℕ). i ∷ quote_runs 0 rest) k
    ∙ ap (λ (ms : List ℕ). n ∷ ms) (sym (are_alone (m ∷ ns) rest more)))

pub runs_joined : (ns : List ℕ) (gs : List Glyph) → AreRuns ns gs ↔ (ns ≡ quote_runs 0 gs)
runs_joined ns gs =
    let P : List ℕ → Type 0 = λ ms. AreRuns ms gs in
    (are_alone ns gs, λ e. subst P (sym e) (are_runs 0 gs))
