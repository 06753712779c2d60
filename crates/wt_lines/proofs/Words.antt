-- Words at the front of signs.
use Rattle.std.proofs.Common.{◌≡◌, ℕ, ◌==◌, ◌<◌, ◌+◌, Bool, true, false, List, [], ◌∷◌, length, drop, get_or, refl, sym, ap, ◌∙◌, eq-eqb}
use Rattle.std.specs.Prelude.{◌&&◌}
use Rattle.std.proofs.lemmas.List.{drop_more, drop-drop}
use Rattle.wt_span.specs.Bytes.{begins}

pub begins_none : (b : ℕ) (word : List ℕ) → begins (b ∷ word) [] ≡ false
begins_none b word = refl

pub begins_step : (b : ℕ) (word s : List ℕ) → begins (b ∷ word) (b ∷ s) ≡ begins word s
begins_step b word s = rw (eq-eqb b b refl) refl

pub begins_other : (b c : ℕ) (word s : List ℕ) → (b == c) ≡ false → begins (b ∷ word) (c ∷ s) ≡ false
begins_other b c word s e = rw e refl

-- one more byte of the word
pub word_goes_on : (word whole s t : List ℕ) (i : ℕ) → i < length word → s ≡ get_or word i 0 ∷ t
    → begins (drop i word) s ≡ begins word whole → begins (drop (i + 1) word) t ≡ begins word whole
word_goes_on word whole s t i l e h =
    sym (begins_step (get_or word i 0) (drop (i + 1) word) t)
    ∙ ap (λ w. begins w (get_or word i 0 ∷ t)) (sym (drop_more word i 0 l))
    ∙ ap (begins (drop i word)) (sym e)
    ∙ h

pub rest_goes_on : (whole s t : List ℕ) (i b : ℕ) → s ≡ b ∷ t → s ≡ drop i whole → t ≡ drop (i + 1) whole
rest_goes_on whole s t i b e h = sym (ap (drop 1) e) ∙ ap (drop 1) h ∙ drop-drop 1 i whole

pub begins_one : (b c : ℕ) (s : List ℕ) → begins (b ∷ []) (c ∷ s) ≡ (b == c)
begins_one b c s = one (b == c)
  where
    one : (v : Bool) → (v && true) ≡ v
    one true = refl
    one false = refl
