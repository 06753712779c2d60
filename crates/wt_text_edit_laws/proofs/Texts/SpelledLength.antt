-- What is spelled of a text isn't much longer than the text: nine bytes before each character and at the end, and up to six for a character.
use Rattle.std.proofs.Common.{arith, ◌≡◌, ℕ, ◌+◌, ◌≤◌, Bool, true, false, List, [], ◌∷◌, ◌++◌, length, map, refl, ap, subst, length-append}
use Rattle.std.specs.Prelude.{◌*◌, encode_utf8}
use Rattle.std.specs.Fmt.{digits}
use Rattle.std.specs.Str.{chars, IsUtf8}
use Rattle.std.proofs.Math.Utf8.{encodes}
use Rattle.std.proofs.lemmas.Str.{encodes-chars, length-encode, len_utf8_bounds}
use Rattle.wt_guards.specs.Content.{ContentSign, letter, letters}
use Rattle.wt_guards.specs.Letters.{is_escaped, reference, written_by}
use Rattle.wt_guards.specs.Guards.{Setting, nowiki, nowiki_if, is_guarded, spelled_from, spelled}
use Rattle.wt_guards.proofs.Escapes.{is_escapable, escapable, each_escapable}

guard_length : (guarded : Bool) → length (nowiki_if guarded) ≤ 9
unfolding nowiki
guard_length true = let e : length (nowiki_if true) ≡ 9 = refl in omega (arith, e)
guard_length false = let e : length (nowiki_if false) ≡ 0 = refl in omega (arith, e)

up_to_six : (bs : List ℕ) (k : ℕ) → length bs + k ≡ 6 → length bs ≤ 6
up_to_six bs k e = omega (arith, e)

reference_length : (c : ℕ) → is_escapable c ≡ true → length (reference c) ≤ 6
unfolding reference digits
reference_length c e = each_escapable (λ k. length (reference k) ≤ 6)
    (up_to_six (reference 91) 1 refl) (up_to_six (reference 93) 1 refl) (up_to_six (reference 123) 0 refl) (up_to_six (reference 125) 0 refl)
    (up_to_six (reference 124) 0 refl) (up_to_six (reference 62) 2 refl) (up_to_six (reference 60) 2 refl) (up_to_six (reference 38) 1 refl)
    (up_to_six (reference 39) 1 refl) (up_to_six (reference 95) 1 refl) (up_to_six (reference 58) 1 refl) (up_to_six (reference 61) 1 refl)
    (up_to_six (reference 33) 1 refl) c e

some_bytes : (c : ℕ) → 1 ≤ length (encode_utf8 c)
some_bytes c = omega (arith, length-encode c, (len_utf8_bounds c).0)

letter_length : (s : Setting) (before after : List ContentSign) (c : ℕ) (t : Bool) → is_escaped s.within s.place before c after ≡ t
    → length (written_by t c) ≤ 6 * length (encode_utf8 c)
letter_length s before after c true e = omega (arith, reference_length c (escapable s.within s.place before c after e), some_bytes c)
letter_length s before after c false e = omega arith

from_length : (s : Setting) (before : List ContentSign) (cs : List ℕ) → length (spelled_from s before (map letter cs)) ≤ 15 * length (encodes cs) + 9
from_length s before [] = guard_length (is_guarded s before [])
from_length s before (c ∷ cs) =
    let after : List ContentSign = map letter cs in
    let e : Bool = is_escaped s.within s.place before c after in
    let g : Bool = is_guarded s before (letter c ∷ after) in
    let rest : List ℕ = spelled_from s (letter c ∷ before) after in
    let three : length (nowiki_if g ++ (written_by e c ++ rest)) ≡ length (nowiki_if g) + length (written_by e c ++ rest) =
    length-append (nowiki_if g) (written_by e c ++ rest) in
    let two : length (written_by e c ++ rest) ≡ length (written_by e c) + length rest = length-append (written_by e c) rest in
    let text : length (encode_utf8 c ++ encodes cs) ≡ length (encode_utf8 c) + length (encodes cs) = length-append (encode_utf8 c) (encodes cs) in
    omega (arith, three, two, text, guard_length g, letter_length s before after c e refl, some_bytes c, from_length s (letter c ∷ before) cs)

pub spelled_length : (s : Setting) (text : List ℕ) → IsUtf8 text → length (spelled s (letters text)) ≤ 15 * length text + 9
spelled_length s text u =
    subst (λ (n : ℕ). length (spelled s (letters text)) ≤ 15 * n + 9) (ap length (encodes-chars text u)) (from_length s [] (chars text))
