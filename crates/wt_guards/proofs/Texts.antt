-- The characters of a text, one after another.
use Rattle.std.proofs.Common.{arith, ◌≡◌, ℕ, List, [], ◌∷◌, ◌++◌, map, ap, length}
use Rattle.std.specs.Prelude.{encode_utf8}
use Rattle.std.specs.Str.{IsUtf8}
use Rattle.std.proofs.lemmas.Str.{chars-nil, chars_past_char}
use Rattle.wt_guards.specs.Content.{letter, letters}

pub letters_nil : letters [] ≡ []
letters_nil = ap (λ cs. map letter cs) chars-nil

pub letters_empty : (bs : List ℕ) → length bs ≡ 0 → letters bs ≡ []
letters_empty [] e = letters_nil
letters_empty (b ∷ bs) e = absurd (search arith)

pub letters_past : (bs rest : List ℕ) (c : ℕ) → IsUtf8 bs → bs ≡ encode_utf8 c ++ rest → letters bs ≡ letter c ∷ letters rest
letters_past bs rest c u e = ap (λ cs. map letter cs) (chars_past_char bs rest c u e)
