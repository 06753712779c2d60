-- The attributes of a text are those that stand at its start or after a blank, one behind the other, and no others are.
use Rattle.std.proofs.Common.{◌≡◌, ◌<◌, ℕ, zero, suc, ◌-◌, Bool, true, false, Some, None, List, [], ◌∷◌, ◌++◌, length, drop, refl, sym, ap, ◌∙◌, subst, arith}
use Rattle.std.proofs.lemmas.List.{length-append, drop_at}
use Rattle.wt_span.specs.Bytes.{is_blank}
use Rattle.wt_attributes.specs.Attributes.{Named, Read, attribute_at, going_on, readings}
use Rattle.wt_attributes.specs.Spelled.{may_begin, NoneBefore, AreReadings}
use Rattle.wt_attributes.proofs.Inverted.{attribute_front}
use Rattle.wt_attributes.proofs.Readings.{missed, found}

-- places behind the first byte
behind : (fresh : Bool) (b : ℕ) (bs : List ℕ) (k : ℕ) → may_begin fresh (b ∷ bs) (suc k) ≡ may_begin (is_blank b) bs k
behind fresh b bs zero = refl
behind fresh b bs (suc k) = refl

none_behind : (fresh : Bool) (b : ℕ) (bs : List ℕ) (n : ℕ) → (fresh ≡ true → attribute_at (b ∷ bs) ≡ None)
    → NoneBefore (is_blank b) n bs → NoneBefore fresh (suc n) (b ∷ bs)
none_behind fresh b bs n h free zero l m = h m
none_behind fresh b bs n h free (suc k) l m = free k (omega arith) (sym (behind fresh b bs k) ∙ m)

-- one byte more at the front, at which no attribute stands
wider : (fresh : Bool) (b : ℕ) (bs : List ℕ) (rs : List Named) → (fresh ≡ true → attribute_at (b ∷ bs) ≡ None)
    → AreReadings (is_blank b) rs bs → AreReadings fresh rs (b ∷ bs)
wider fresh b bs [] h free = none_behind fresh b bs (length bs) h free
wider fresh b bs (a ∷ rs) h (n, rest, l, free, m, at, more) =
    (suc n, rest, omega arith, none_behind fresh b bs n h free, behind fresh b bs n ∙ m, at, more)

-- an attribute may begin at the front of what is left
abbrev fresh_after : Bool → ℕ → Bool
fresh_after fresh zero = fresh
fresh_after fresh (suc n) = false

stays : (n : ℕ) → fresh_after false n ≡ false
stays zero = refl
stays (suc n) = refl

none_at : (k : ℕ) (P : Type 0) → k < 0 → P
none_at k P l = absurd (omega arith)

left_is : (b : ℕ) (bs : List ℕ) (a : Named) (rest : List ℕ) → attribute_at (b ∷ bs) ≡ Some (a, rest) → drop (length bs - length rest) bs ≡ rest
left_is b bs a rest e =
    let h = attribute_front (b ∷ bs) a rest e in
    let same : bs ≡ h.others ++ rest = ap (drop 1) h.joined in
    let n : length bs - length rest ≡ length h.others = omega (arith, ap length same, length-append h.others rest) in
    ap (λ (k : ℕ). drop k bs) n ∙ ap (drop (length h.others)) same ∙ drop_at h.others rest (length h.others) refl

front_by : (o : Read Named) (b : ℕ) (bs : List ℕ) → attribute_at (b ∷ bs) ≡ o
    → ((n : ℕ) → AreReadings false (readings false n bs) (drop n bs)) → AreReadings (is_blank b) (readings (is_blank b) zero bs) bs
    → AreReadings true (going_on o bs (λ n. readings false n bs) (readings (is_blank b) zero bs)) (b ∷ bs)
front_by None b bs e after without = wider true b bs (readings (is_blank b) zero bs) (λ t. e) without
front_by (Some (a, rest)) b bs e after without =
    let k = length bs - length rest in
    (0, rest, omega arith, λ k l m. none_at k _ l, refl, e, subst (AreReadings false (readings false k bs)) (left_is b bs a rest e) (after k))

pub readings_are : (fresh : Bool) (n : ℕ) (bs : List ℕ) → AreReadings (fresh_after fresh n) (readings fresh n bs) (drop n bs)
readings_are fresh zero [] = λ k l m. none_at k _ l
readings_are fresh (suc n) [] = λ k l m. none_at k _ l
readings_are fresh (suc n) (b ∷ bs) = subst (λ (t : Bool). AreReadings t (readings false n bs) (drop n bs)) (stays n) (readings_are false n bs)
readings_are false zero (b ∷ bs) = wider false b bs (readings (is_blank b) zero bs) (λ t. absurd cc) (readings_are (is_blank b) zero bs)
readings_are true zero (b ∷ bs) =
    front_by (attribute_at (b ∷ bs)) b bs refl (λ n. subst (λ (t : Bool). AreReadings t (readings false n bs) (drop n bs))
    (stays n) (readings_are false n bs)) (readings_are (is_blank b) zero bs)

-- ---- no others

-- at a front where none stands, the next byte's
step_by : (fresh : Bool) (b : ℕ) (bs : List ℕ) → (fresh ≡ true → attribute_at (b ∷ bs) ≡ None) → readings fresh 0 (b ∷ bs) ≡ readings (is_blank b) 0 bs
step_by false b bs h = refl
step_by true b bs h = missed (b ∷ bs) (h refl)

free_behind : (fresh : Bool) (b : ℕ) (bs : List ℕ) (n : ℕ) → NoneBefore fresh (suc n) (b ∷ bs) → NoneBefore (is_blank b) n bs
free_behind fresh b bs n free k l m = free (suc k) (omega arith) (behind fresh b bs k ∙ m)

free_front : (fresh : Bool) (b : ℕ) (bs : List ℕ) (n : ℕ) → NoneBefore fresh (suc n) (b ∷ bs) → fresh ≡ true → attribute_at (b ∷ bs) ≡ None
free_front fresh b bs n free t = free 0 (omega arith) t

none_left : (fresh : Bool) (bs : List ℕ) → NoneBefore fresh (length bs) bs → readings fresh 0 bs ≡ []
none_left fresh [] free = refl
none_left fresh (b ∷ bs) free = step_by fresh b bs (free_front fresh b bs (length bs) free)
    ∙ none_left (is_blank b) bs (free_behind fresh b bs (length bs) free)

here : (fresh : Bool) (bs : List ℕ) (a : Named) (rest : List ℕ) → fresh ≡ true → attribute_at bs ≡ Some (a, rest)
    → readings fresh 0 bs ≡ a ∷ readings false 0 rest
here fresh bs a rest t e = ap (λ (u : Bool). readings u 0 bs) t ∙ found bs a rest e

first_left : (fresh : Bool) (n : ℕ) (bs : List ℕ) (a : Named) (rest : List ℕ) → n < length bs → NoneBefore fresh n bs
    → may_begin fresh bs n ≡ true → attribute_at (drop n bs) ≡ Some (a, rest)
    → readings fresh 0 bs ≡ a ∷ readings false 0 rest
first_left fresh n [] a rest l free m e = absurd (omega arith)
first_left fresh zero (b ∷ bs) a rest l free m e = here fresh (b ∷ bs) a rest m e
first_left fresh (suc n) (b ∷ bs) a rest l free m e =
    step_by fresh b bs (free_front fresh b bs n free) ∙ first_left (is_blank b) n bs a rest (omega arith)
    (free_behind fresh b bs n free) (sym (behind fresh b bs n) ∙ m) e

pub readings_only : (fresh : Bool) (rs : List Named) (bs : List ℕ) → AreReadings fresh rs bs → rs ≡ readings fresh 0 bs
readings_only fresh [] bs free = sym (none_left fresh bs free)
readings_only fresh (a ∷ rs) bs (n, rest, l, free, m, at, more) =
    ap (λ (l : List Named). a ∷ l) (readings_only false rs rest more) ∙ sym (first_left fresh n bs a rest l free m at)
