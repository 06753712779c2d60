-- The attributes of a text, one after another.
use Rattle.std.proofs.Common.{◌≡◌, ◌<◌, ◌≤◌, ℕ, zero, suc, ◌+◌, ◌-◌, Bool, true, false, Some, None, List, [], ◌∷◌, ◌++◌, length, drop, refl, sym, ap, ◌∙◌, cond, arith}
use Rattle.std.specs.Prelude.{not}
use Rattle.std.proofs.lemmas.List.{length-append}
use Rattle.wt_span.specs.Bytes.{is_blank}
use Rattle.wt_attributes.specs.declared.class.ScanClass.TheVariants as class
use Rattle.wt_attributes.specs.Classes.{run_len}
use Rattle.wt_attributes.specs.Attributes.{Named, ended, attribute_at, attribute_if, going_on, readings}
use Rattle.wt_attributes.proofs.Fronts.{ended_some, ended_none}
use Rattle.wt_attributes.proofs.Inverted.{attribute_front}

pub missed : (bs : List ℕ) → attribute_at bs ≡ None → readings true 0 bs ≡ readings false 0 bs
missed [] e = refl
missed (b ∷ bs) e = ap (λ o. going_on o bs (λ n. readings false n bs) (readings (is_blank b) zero bs)) e

skipped : (xs rest : List ℕ) → readings false (length xs) (xs ++ rest) ≡ readings false 0 rest
skipped [] rest = refl
skipped (x ∷ xs) rest = skipped xs rest

found_at : (b : ℕ) (xs : List ℕ) (a : Named) (rest : List ℕ) → attribute_at (b ∷ (xs ++ rest)) ≡ Some (a, rest)
    → readings true 0 (b ∷ (xs ++ rest)) ≡ a ∷ readings false 0 rest
found_at b xs a rest e =
    let bs = xs ++ rest in
    let n : length bs - length rest ≡ length xs = omega (arith, length-append xs rest) in
    ap (λ o. going_on o bs (λ n. readings false n bs) (readings (is_blank b) zero bs)) e
    ∙ ap (λ (k : ℕ). a ∷ readings false k bs) n ∙ ap (λ (l : List Named). a ∷ l) (skipped xs rest)

pub found : (bs : List ℕ) (a : Named) (rest : List ℕ) → attribute_at bs ≡ Some (a, rest) → readings true 0 bs ≡ a ∷ readings false 0 rest
found bs a rest e =
    let h = attribute_front bs a rest e in
    ap (readings true 0) h.joined ∙ found_at h.first h.others a rest (ap attribute_at (sym h.joined) ∙ e)

-- ---- up to the next blank

blank_by : (t : Bool) (b : ℕ) (bs : List ℕ) → is_blank b ≡ t → cond (not t) (1 + run_len class.NoBlank bs) 0 < suc (length bs)
    → (run_len class.NoBlank bs < length bs → readings false 0 bs ≡ readings true 0 (drop (run_len class.NoBlank bs + 1) bs))
    → readings t 0 bs ≡ readings true 0 (drop (cond (not t) (1 + run_len class.NoBlank bs) 0 + 1) (b ∷ bs))
blank_by true b bs e l h = refl
blank_by false b bs e l h =
    let n = run_len class.NoBlank bs in
    let k : 1 + n + 1 ≡ suc (n + 1) = omega arith in
    h (omega arith) ∙ ap (λ (m : ℕ). readings true 0 (drop m (b ∷ bs))) (sym k)

pub to_blank : (bs : List ℕ) → run_len class.NoBlank bs < length bs → readings false 0 bs ≡ readings true 0 (drop (run_len class.NoBlank bs + 1) bs)
to_blank [] l = absurd (omega arith)
to_blank (b ∷ bs) l = blank_by (is_blank b) b bs refl l (to_blank bs)

none_by : (t : Bool) (b : ℕ) (bs : List ℕ) → is_blank b ≡ t → suc (length bs) ≤ cond (not t) (1 + run_len class.NoBlank bs) 0
    → (length bs ≤ run_len class.NoBlank bs → readings false 0 bs ≡ [])
    → readings t 0 bs ≡ []
none_by true b bs e l h = absurd (omega arith)
none_by false b bs e l h = h (omega arith)

pub no_blank : (bs : List ℕ) → length bs ≤ run_len class.NoBlank bs → readings false 0 bs ≡ []
no_blank [] l = refl
no_blank (b ∷ bs) l = none_by (is_blank b) b bs refl l (no_blank bs)

-- the same by the text in parts
pub blank_some : (bs front rest : List ℕ) → ended (run_len class.NoBlank bs) bs ≡ Some (front, rest) → readings true 0 rest ≡ readings false 0 bs
blank_some bs front rest e =
    let h = ended_some (run_len class.NoBlank bs) bs front rest e in
    ap (readings true 0) (sym h.2) ∙ sym (to_blank bs h.0)

pub blank_none : (bs : List ℕ) → ended (run_len class.NoBlank bs) bs ≡ None → [] ≡ readings false 0 bs
blank_none bs e = sym (no_blank bs (ended_none _ bs e))

-- where an attribute may begin or not
pub found_here : (fresh : Bool) (bs : List ℕ) (a : Named) (rest : List ℕ) → attribute_if fresh bs ≡ Some (a, rest)
    → readings fresh 0 bs ≡ a ∷ readings false 0 rest
found_here true bs a rest e = found bs a rest e
found_here false bs a rest e = absurd cc

pub missed_here : (fresh : Bool) (bs : List ℕ) → attribute_if fresh bs ≡ None → readings false 0 bs ≡ readings fresh 0 bs
missed_here true bs e = sym (missed bs e)
missed_here false bs e = refl
