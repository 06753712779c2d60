-- The characters with which forms begin.
use Rattle.std.specs.Prelude.{ℕ, ◌==◌, ◌||◌, Bool}
use Rattle.wt_span.specs.Characters as byte

-- one of `[`, `<`, `_`, and the letters of schemes
abbrev pub may_begin : ℕ → Bool
may_begin b = b == byte.opening_bracket || (b == byte.less_than || (b == byte.underscore || (b == 104 || (b == 72 || (b == 102 || b == 70)))))
