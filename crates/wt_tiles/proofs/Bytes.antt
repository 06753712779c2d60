-- Titles of bytes that are a text, and of others.
use Rattle.std.proofs.Common.{◌≡◌, ℕ, Bool, true, false, None, List, refl, ap}
use Rattle.std.specs.Prelude.{if◌then◌else◌}
use Rattle.std.specs.Str.{IsUtf8, is_utf8}
use Rattle.std.proofs.lemmas.Str.{IsUtf8-from_is_utf8, is_utf8-from_IsUtf8}
use Rattle.wt_names.specs.Good.{read_text}
use Rattle.wt_names.specs.Written.{read_bytes}

pub of_text : (bs : List ℕ) → IsUtf8 bs → read_bytes bs ≡ read_text bs
of_text bs is = ap (λ (t : Bool). if t then read_text bs else None) (is_utf8-from_IsUtf8 bs is)

none_by : (bs : List ℕ) → ¬ IsUtf8 bs → (t : Bool) → is_utf8 bs ≡ t → (if t then read_text bs else None) ≡ None
none_by bs other true e = absurd (other (IsUtf8-from_is_utf8 bs e))
none_by bs other false e = refl

pub of_other : (bs : List ℕ) → ¬ IsUtf8 bs → read_bytes bs ≡ None
of_other bs other = none_by bs other (is_utf8 bs) refl
