-- Small words on the bytes of a page.
use Rattle.std.specs.Prelude.{ℕ, ◌==◌, Bool, List, reverse}
use Rattle.std.specs.List.{prefix_len}
use Rattle.wt_span.specs.Characters as byte

-- how many bytes that pass a test end a text
abbrev pub suffix_len : (ℕ → Bool) → List ℕ → ℕ
suffix_len test bs = prefix_len test (reverse bs)

-- `=`
abbrev pub is_equals : ℕ → Bool
is_equals b = b == byte.equals_sign
