-- Words and values at the front of a text, as the code finds them.
use Rattle.std.proofs.Common.{◌≡◌, ◌<◌, ◌≤◌, ℕ, ◌+◌, ◌-◌, Bool, true, false, Option, Some, None, List, length, take, drop, get_or, nat_lt, refl, sym, ap, ◌∙◌, subst, ◌⊎◌, inl, inr, arith}
use Rattle.std.specs.Prelude.{if◌then◌else◌}
use Rattle.std.specs.Option.{option_or}
use Rattle.std.specs.Char.{to_ascii_lowercase}
use Rattle.std.specs.Str.{IsUtf8, IsCharBoundary}
use Rattle.std.proofs.lemmas.Bool.Decides.{nat_tests}
use Rattle.std.proofs.lemmas.List.{length-take, length-map, get_or-map, get_or-take}
use Rattle.std.proofs.lemmas.Slice.Eq.{bytes_eq-Decides}
use Rattle.std.proofs.lemmas.Str.{IsCharBoundary-after_ascii}
use Rattle.std.proofs.lemmas.Str.Ascii.{lowercase_ascii, lowercase_is}
use Rattle.wt_span.specs.Bytes.{lower}
use Rattle.wt_attributes.specs.Attributes.{begins_any_case, ended}

-- ---- options

pub if_some : {A : Type 0} (t : Bool) (x y : A) → (if t then Some x else None) ≡ Some y → (t ≡ true) × (x ≡ y)
if_some true x y e = (refl, cc)
if_some false x y e = absurd cc

pub if_none : {A : Type 0} (t : Bool) (x : A) → (if t then Some x else None) ≡ None → t ≡ false
if_none true x e = absurd cc
if_none false x e = refl

pub some_same : {A : Type 0} (x y : A) → Some x ≡ Some y → x ≡ y
some_same x y e = cc

pub or_some : {A : Type 0} (a b : Option A) (x : A) → option_or a b ≡ Some x → (a ≡ Some x) ⊎ (b ≡ Some x)
or_some None b x e = inr e
or_some (Some y) b x e = inl e

pub lt_of_test : (a b : ℕ) → nat_lt a b ≡ true → a < b
lt_of_test a b e = grind (arith, nat_tests)

pub test_of_lt : (a b : ℕ) → a < b → nat_lt a b ≡ true
test_of_lt a b e = grind (arith, nat_tests)

pub ge_of_test : (a b : ℕ) → nat_lt a b ≡ false → b ≤ a
ge_of_test a b e = grind (arith, nat_tests)

pub ended_some : (n : ℕ) (bs v rest : List ℕ) → ended n bs ≡ Some (v, rest) → (n < length bs) × (take n bs ≡ v) × (drop (n + 1) bs ≡ rest)
ended_some n bs v rest e =
    let h = if_some (nat_lt n (length bs)) (take n bs, drop (n + 1) bs) (v, rest) e in
    (lt_of_test _ _ h.0, ap (λ (p : List ℕ × List ℕ). p.0) h.1, ap (λ (p : List ℕ × List ℕ). p.1) h.1)

pub ended_none : (n : ℕ) (bs : List ℕ) → ended n bs ≡ None → length bs ≤ n
ended_none n bs e = ge_of_test _ _ (if_none (nat_lt n (length bs)) (take n bs, drop (n + 1) bs) e)

pub ended_is : (n : ℕ) (bs : List ℕ) → n < length bs → ended n bs ≡ Some (take n bs, drop (n + 1) bs)
ended_is n bs l = ap (λ (t : Bool). if t then Some (take n bs, drop (n + 1) bs) else None) (test_of_lt _ _ l)

pub ended_not : (n : ℕ) (bs : List ℕ) → length bs ≤ n → ended n bs ≡ None
ended_not n bs l =
    let e : nat_lt n (length bs) ≡ false = grind (arith, nat_tests) in
    ap (λ (t : Bool). if t then Some (take n bs, drop (n + 1) bs) else None) e

-- ---- a word in any case

pub word_is : (w bs : List ℕ) → begins_any_case w bs ≡ true → lower (take (length w) bs) ≡ lower w
unfolding begins_any_case
word_is w bs e = (bytes_eq-Decides (lower (take (length w) bs)) (lower w)).0 e

raised : (b : ℕ) → to_ascii_lowercase b < 128 → b < 128
raised b h = let is = lowercase_is b in grind (arith, nat_tests)

-- behind a word in ASCII a text may be cut
pub border_word : (w bs : List ℕ) → IsUtf8 bs → 0 < length w → get_or w (length w - 1) 0 < 128 → begins_any_case w bs ≡ true → IsCharBoundary bs (length w)
border_word w bs u s a e =
    let is = word_is w bs e in
    let k = length w - 1 in
    let size : length (take (length w) bs) ≡ length w = sym (length-map (take (length w) bs) to_ascii_lowercase) ∙ ap length is
    ∙ length-map w to_ascii_lowercase in
    let within : length w ≤ length bs = omega (arith, size, length-take (length w) bs) in
    let there : to_ascii_lowercase (get_or (take (length w) bs) k 0) ≡ to_ascii_lowercase (get_or w k 0) =
    sym (get_or-map to_ascii_lowercase (take (length w) bs) k 0 0 (omega (arith, size))) ∙ ap (λ (l : List ℕ). get_or l k 0) is
    ∙ get_or-map to_ascii_lowercase w k 0 0 (omega arith) in
    let low : get_or (take (length w) bs) k 0 < 128 = raised _ (subst (λ (n : ℕ). n < 128) (sym there) (lowercase_ascii _ a)) in
    let at : get_or bs k 0 < 128 = subst (λ (n : ℕ). n < 128) (get_or-take (length w) bs k 0 (omega arith)) low in
    subst (IsCharBoundary bs) (omega arith) (IsCharBoundary-after_ascii bs k u (omega arith) at)
