-- The bytes of such a text, and its characters.
use Rattle.std.proofs.Common.{arith, ◌≡◌, ℕ, ◌≤◌, Bool, true, false, List, [], ◌∷◌, ◌++◌, refl, sym, subst, inl, inr, All}
use Rattle.std.specs.Prelude.{◌&&◌, encode_utf8}
use Rattle.std.specs.List.{list_all}
use Rattle.std.specs.Str.{chars}
use Rattle.std.proofs.Math.Utf8.{encodes}
use Rattle.std.proofs.lemmas.Bool.{cases_lt}
use Rattle.std.proofs.lemmas.Bool.Decides.{nat_tests}
use Rattle.std.proofs.lemmas.List.Elements.{All-head, All-tail}
use Rattle.std.proofs.lemmas.Str.{encode_ascii, encodes-chars}
use Rattle.wt_names.proofs.Ascii.{IsWide, encode_wide}
use Rattle.wt_text_edit_laws.specs.PlainTexts.{is_plain, IsPlainText}
use Rattle.wt_text_edit_laws.proofs.Texts.PlainWords.{and_left, and_right}

-- no byte of a character past ASCII is a sign
wide_plain : (b : ℕ) → 128 ≤ b → is_plain b ≡ true
wide_plain b h = grind (arith, nat_tests)

and_true : (a b : Bool) → a ≡ true → b ≡ true → (a && b) ≡ true
and_true true b e f = f
and_true false b e f = cc

plain_wide : (bs rest : List ℕ) → All IsWide bs → list_all is_plain rest ≡ true → list_all is_plain (bs ++ rest) ≡ true
plain_wide [] rest h r = r
plain_wide (b ∷ bs) rest h r =
    and_true (is_plain b) (list_all is_plain (bs ++ rest)) (wide_plain b (All-head IsWide b bs h)) (plain_wide bs rest (All-tail IsWide b bs h) r)

plain_char : (c : ℕ) (rest : List ℕ) → is_plain c ≡ true → list_all is_plain rest ≡ true → list_all is_plain (encode_utf8 c ++ rest) ≡ true
plain_char c rest p r = elim (cases_lt c 128) [
  | inl small ↦ subst (λ bs. list_all is_plain (bs ++ rest) ≡ true) (sym (encode_ascii c small)) (and_true (is_plain c) (list_all is_plain rest) p r)
  | inr wide ↦ plain_wide (encode_utf8 c) rest (encode_wide c wide) r
]

all_plain : (cs : List ℕ) → list_all is_plain cs ≡ true → list_all is_plain (encodes cs) ≡ true
all_plain [] e = refl
all_plain (c ∷ cs) e = plain_char c (encodes cs) (and_left (is_plain c) (list_all is_plain cs) e) (all_plain cs (and_right (is_plain c) (list_all is_plain cs) e))

pub plain_bytes : (text : List ℕ) → IsPlainText text → list_all is_plain text ≡ true
plain_bytes text h = subst (λ bs. list_all is_plain bs ≡ true) (encodes-chars text h.utf8) (all_plain (chars text) h.plain)
