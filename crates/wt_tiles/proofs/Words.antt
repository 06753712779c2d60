-- Tests on items, as facts.
use Rattle.std.proofs.Common.{◌≡◌, ℕ, zero, suc, ◌+◌, ◌<◌, ◌≤◌, ◌==◌, Bool, true, false, List, [], ◌∷◌, length, drop, nat_lt, refl, sym, ap, ◌∙◌, inl, inr, arith, subst, cond}
use Rattle.std.specs.Prelude.{◌&&◌}
use Rattle.std.specs.List.{list_all}
use Rattle.std.specs.Char.{is_ascii_alphabetic, is_ascii_alphanumeric, to_ascii_lowercase}
use Rattle.std.proofs.lemmas.Bool.{eqb-true}
use Rattle.std.proofs.lemmas.Bool.Decides.{nat_tests}
use Rattle.wt_span.specs.Bytes.{is_blank}
use Rattle.wt_tiles.specs.declared.glyph.Glyph.{Glyph}
use Rattle.wt_tiles.specs.declared.glyph.Glyph.TheVariants as glyph
use Rattle.wt_tiles.specs.declared.glyph.GlyphClass.{GlyphClass}
use Rattle.wt_tiles.specs.declared.glyph.GlyphClass.TheVariants as class
use Rattle.wt_tiles.specs.Glyphs.{is_in, in_class, is_small, first_is, run_len, begins, begins_like}
use Rattle.wt_tiles.specs.Edges.{is_low, low_at, IsEdge}

pub and_left : (a b : Bool) → (a && b) ≡ true → a ≡ true
and_left true b e = refl
and_left false b e = cc

pub and_right : (a b : Bool) → (a && b) ≡ true → b ≡ true
and_right true b e = e
and_right false b e = cc

pub lt_is : (m n : ℕ) → nat_lt m n ≡ true → m < n
lt_is m n e = grind (arith, nat_tests)

pub is_lt : (m n : ℕ) → m < n → nat_lt m n ≡ true
is_lt m n e = grind (arith, nat_tests)

pub false_true : {X : Type 0} → false ≡ true → X
false_true e = absurd (subst (λ (b : Bool). cond b ⊥ (Unit {0})) e tt)

-- ---- low items

-- each byte that passes a test is ASCII
abbrev pub IsLowTest : (ℕ → Bool) → Type 0
IsLowTest p = (b : ℕ) → p b ≡ true → b < 128

pub in_low : (p : ℕ → Bool) (g : Glyph) → IsLowTest p → is_in p g ≡ true → is_low g ≡ true
in_low p (glyph.Byte b) h e = is_lt b 128 (h b e)
in_low p (glyph.Entity c) h e = refl
in_low p glyph.Atom h e = refl
in_low p glyph.Mark h e = refl

pub only_low : (one : ℕ) → one < 128 → IsLowTest (λ b. b == one)
only_low one h b e = omega (arith, eqb-true b one e)

blank_low : IsLowTest is_blank
blank_low b e = grind (arith, nat_tests)

letter_low : IsLowTest is_ascii_alphabetic
letter_low b e = grind (arith, nat_tests)

name_low : IsLowTest is_ascii_alphanumeric
name_low b e = grind (arith, nat_tests)

small_low : IsLowTest is_small
small_low b e = grind (arith, nat_tests)

-- classes of ASCII characters alone
abbrev pub IsLowClass : GlyphClass → Type 0
IsLowClass class.Blank = Unit {0}
IsLowClass class.Letter = Unit {0}
IsLowClass class.Name = Unit {0}
IsLowClass class.Trail = Unit {0}
IsLowClass class.Tag = ⊥
IsLowClass (class.Only one) = one < 128

pub class_low : (k : GlyphClass) (g : Glyph) → IsLowClass k → in_class k g ≡ true → is_low g ≡ true
class_low class.Blank g h e = in_low is_blank g blank_low e
class_low class.Letter g h e = in_low is_ascii_alphabetic g letter_low e
class_low class.Name g h e = in_low is_ascii_alphanumeric g name_low e
class_low class.Trail g h e = in_low is_small g small_low e
class_low class.Tag g h e = absurd h
class_low (class.Only one) g h e = in_low (λ b. b == one) g (only_low one h) e

pub first_low : (k : GlyphClass) (gs : List Glyph) → IsLowClass k → first_is k gs ≡ true → low_at gs 0 ≡ true
first_low k [] h e = false_true e
first_low k (g ∷ gs) h e = class_low k g h e

pub first_some : (k : GlyphClass) (gs : List Glyph) → first_is k gs ≡ true → 0 < length gs
first_some k [] e = false_true e
first_some k (g ∷ gs) e = omega arith

pub low_drop : (n k : ℕ) (gs : List Glyph) → low_at (drop n gs) k ≡ low_at gs (n + k)
low_drop zero k gs = let z : 0 + k ≡ k = omega arith in ap (low_at gs) (sym z)
low_drop (suc n) k [] = refl
low_drop (suc n) k (g ∷ gs) = let z : suc n + k ≡ suc (n + k) = omega arith in low_drop n k gs ∙ ap (low_at (g ∷ gs)) (sym z)

run_step : (t : Bool) (n k : ℕ) → suc k < cond t (1 + n) 0 → k < n
run_step true n k h = omega arith
run_step false n k h = absurd (omega arith)

run_some : (t : Bool) (n : ℕ) → 0 < cond t (1 + n) 0 → t ≡ true
run_some true n h = refl
run_some false n h = absurd (omega arith)

pub run_low : (c : GlyphClass) (gs : List Glyph) (k : ℕ) → IsLowClass c → k < run_len c gs → low_at gs k ≡ true
run_low c [] k h below = absurd (omega arith)
run_low c (g ∷ gs) zero h below = class_low c g h (run_some (in_class c g) (run_len c gs) below)
run_low c (g ∷ gs) (suc k) h below = run_low c gs k h (run_step (in_class c g) (run_len c gs) k below)

-- ---- words

abbrev is_low_byte : ℕ → Bool
is_low_byte b = nat_lt b 128

-- a word of ASCII characters
abbrev pub is_low_word : List ℕ → Bool
is_low_word word = list_all is_low_byte word

pub begins_low : (word : List ℕ) (gs : List Glyph) (k : ℕ) → is_low_word word ≡ true → begins word gs ≡ true → k < length word → low_at gs k ≡ true
begins_low [] gs k h e below = absurd (omega arith)
begins_low (b ∷ word) [] k h e below = false_true e
begins_low (b ∷ word) (g ∷ gs) zero h e below =
    in_low (λ c. c == b) g (only_low b (lt_is b 128 (and_left (is_low_byte b) _ h))) (and_left (is_in (λ c. c == b) g) _ e)
begins_low (b ∷ word) (g ∷ gs) (suc k) h e below = begins_low word gs k (and_right (is_low_byte b) _ h) (and_right (is_in (λ c. c == b) g) _ e) (omega arith)

pub begins_len : (word : List ℕ) (gs : List Glyph) → begins word gs ≡ true → length word ≤ length gs
begins_len [] gs e = omega arith
begins_len (b ∷ word) [] e = false_true e
begins_len (b ∷ word) (g ∷ gs) e = omega (arith, begins_len word gs (and_right (is_in (λ c. c == b) g) _ e))

like_low : (b : ℕ) → b < 128 → IsLowTest (λ c. to_ascii_lowercase c == b)
like_low b h c e = grind (arith, nat_tests, eqb-true)

pub begins_like_low : (word : List ℕ) (gs : List Glyph) (k : ℕ) → is_low_word word ≡ true → begins_like word gs ≡ true → k < length word → low_at gs k ≡ true
begins_like_low [] gs k h e below = absurd (omega arith)
begins_like_low (b ∷ word) [] k h e below = false_true e
begins_like_low (b ∷ word) (g ∷ gs) zero h e below =
    in_low (λ c. to_ascii_lowercase c == b) g (like_low b (lt_is b 128 (and_left (is_low_byte b) _ h)))
    (and_left (is_in (λ c. to_ascii_lowercase c == b) g) _ e)
begins_like_low (b ∷ word) (g ∷ gs) (suc k) h e below =
    begins_like_low word gs k (and_right (is_low_byte b) _ h) (and_right (is_in (λ c. to_ascii_lowercase c == b) g) _ e) (omega arith)

pub begins_like_len : (word : List ℕ) (gs : List Glyph) → begins_like word gs ≡ true → length word ≤ length gs
begins_like_len [] gs e = omega arith
begins_like_len (b ∷ word) [] e = false_true e
begins_like_len (b ∷ word) (g ∷ gs) e = omega (arith, begins_like_len word gs (and_right (is_in (λ c. to_ascii_lowercase c == b) g) _ e))

-- ---- edges

pub edge_after : (gs : List Glyph) (n m : ℕ) → m ≡ suc n → low_at gs n ≡ true → IsEdge gs m
edge_after gs n m e h = let P : ℕ → Type 0 = λ k. IsEdge gs k in subst P (sym e) (inr (inr h))

pub edge_at : (gs : List Glyph) (n m : ℕ) → m ≡ n → low_at gs n ≡ true → IsEdge gs m
edge_at gs n m e h = let P : ℕ → Type 0 = λ k. IsEdge gs k in subst P (sym e) (inr (inl h))

pub edge_same : (gs : List Glyph) (n m : ℕ) → m ≡ n → IsEdge gs n → IsEdge gs m
edge_same gs n m e h = let P : ℕ → Type 0 = λ k. IsEdge gs k in subst P (sym e) h
