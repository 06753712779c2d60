-- Switches are told in small letters.
use Rattle.std.proofs.Common.{◌≡◌, ℕ, ◌+◌, ◌-◌, Bool, true, false, Option, Some, None, List, [], ◌∷◌, ◌++◌, length, map, take, refl, sym, ap, ◌∙◌, arith, codes, subst, length-append, inl, inr, ◌⊎◌}
use Rattle.std.specs.Prelude.{◌==◌, ◌&&◌, if◌then◌else◌, option_map}
use Rattle.std.specs.Char.{to_ascii_lowercase}
use Rattle.std.proofs.Math.Seq.{take-append_seam}
use Rattle.std.proofs.lemmas.Bool.Decides.{nat_tests}
use Rattle.std.proofs.lemmas.Option.{same_Some}
use Rattle.wt_tiles.specs.declared.shape.Shape.{Shape}
use Rattle.wt_tiles.specs.declared.shape.TileKind.TheVariants as kind
use Rattle.wt_tiles.specs.Glyphs.{begins, byte_glyphs}
use Rattle.wt_tiles.specs.Links.{leaf}
use Rattle.wt_tiles.specs.Tiles.{switch_at, switch_len, switch_names as written_names}
use Rattle.wt_context.specs.Heads.{named, switch_names, switch_property}
use Rattle.wt_page_laws.specs.Addresses.{IsToldSmall}

both_true : (a b : Bool) → (a && b) ≡ true → (a ≡ true) × (b ≡ true)
both_true true b e = (refl, e)
both_true false b e = absurd (cc)

byte_is : (b c : ℕ) → (b == c) ≡ true → b ≡ c
byte_is b c e = grind (arith, nat_tests)

-- a word that begins bytes of its own length is they
word_is : (word bs : List ℕ) → begins word (byte_glyphs bs) ≡ true → length word ≡ length bs → bs ≡ word
word_is [] [] e l = refl
word_is [] (b ∷ bs) e l = absurd (omega arith)
word_is (c ∷ word) [] e l = absurd (omega arith)
word_is (c ∷ word) (b ∷ bs) e l =
    let parts = both_true (b == c) (begins word (byte_glyphs bs)) e in
    ap (λ (d : ℕ). d ∷ bs) (byte_is b c parts.0) ∙ ap (λ (cs : List ℕ). c ∷ cs) (word_is word bs parts.1 (omega arith))

-- it is one of these words
abbrev IsOneOf : List (List ℕ) → List ℕ → Type 0
IsOneOf [] bs = ⊥
IsOneOf (word ∷ words) bs = (bs ≡ word) ⊎ IsOneOf words bs

one_by : (words : List (List ℕ)) (word bs : List ℕ) (stands : Bool) → begins word (byte_glyphs bs) ≡ stands
    → (if stands then Some (length word) else switch_len words (byte_glyphs bs)) ≡ Some (length bs)
    → (switch_len words (byte_glyphs bs) ≡ Some (length bs) → IsOneOf words bs) → IsOneOf (word ∷ words) bs
one_by words word bs true e f more = inl (word_is word bs e (same_Some (length word) (length bs) f))
one_by words word bs false e f more = inr (more f)

one_of : (words : List (List ℕ)) (bs : List ℕ) → switch_len words (byte_glyphs bs) ≡ Some (length bs) → IsOneOf words bs
one_of [] bs e = absurd (cc)
one_of (word ∷ words) bs e = one_by words word bs (begins word (byte_glyphs bs)) refl e (one_of words bs)

-- what follows the first `__` is told by the name in it, in small letters
abbrev IsTold : List ℕ → Type 0
IsTold bs = named switch_names (codes "__" ++ bs) ≡ map to_ascii_lowercase (take (length bs - 2) bs)

abbrev AreTold : List (List ℕ) → Type 0
AreTold [] = Unit {0}
AreTold (word ∷ words) = IsTold word × AreTold words

are_told : AreTold written_names
unfolding switch_names written_names
are_told = (refl, (refl, (refl, (refl, (refl, (refl, (refl, (refl, (refl, tt)))))))))

told_of : (words : List (List ℕ)) (bs : List ℕ) → AreTold words → IsOneOf words bs → IsTold bs
told_of [] bs h one = absurd one
told_of (word ∷ words) bs h (inl e) = subst IsTold (sym e) h.0
told_of (word ∷ words) bs h (inr one) = told_of words bs h.1 one

size_is : (o : Option ℕ) (n : ℕ) → option_map (λ (k : ℕ). leaf kind.Switch (2 + k)) o ≡ Some (leaf kind.Switch (n + 2)) → o ≡ Some n
size_is None n e = absurd (cc)
size_is (Some k) n e =
    let l : 2 + k ≡ n + 2 = ap (λ (w : Shape). w.opening) (same_Some (leaf kind.Switch (2 + k)) (leaf kind.Switch (n + 2)) e) in
    ap Some (omega (arith, l))

behind_is : (bs : List ℕ) → switch_at (byte_glyphs (codes "__" ++ bs)) ≡ Some (leaf kind.Switch (length bs + 2))
    → switch_len written_names (byte_glyphs bs) ≡ Some (length bs)
unfolding switch_at
behind_is bs e = size_is (switch_len written_names (byte_glyphs bs)) (length bs) e

pub is_told : (name : List ℕ) → IsToldSmall name
unfolding switch_property
is_told name e =
    let bs : List ℕ = name ++ codes "__" in
    let l : length bs ≡ length name + 2 = length-append name (codes "__") in
    let size : length name + 4 ≡ length bs + 2 = omega (arith, l) in
    let h = told_of written_names bs are_told (one_of written_names bs (behind_is bs (e ∙ ap (λ (n : ℕ). Some (leaf kind.Switch n)) size))) in
    let n : length bs - 2 ≡ length name = omega (arith, l) in
    ap (λ (cs : List ℕ). codes "mw:PageProp/" ++ cs) (h
    ∙ ap (λ (k : ℕ). map to_ascii_lowercase (take k bs)) n ∙ ap (λ (cs : List ℕ). map to_ascii_lowercase cs) (take-append_seam name (codes "__")))
