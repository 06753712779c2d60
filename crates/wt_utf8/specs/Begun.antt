-- How much of a character is at the front of bytes.
use Rattle.std.specs.Prelude.{ℕ, zero, suc, Option, Some, None, List, [], ◌∷◌, if◌then◌else◌}
use Rattle.wt_html_grammar.specs.Signs.{Follow, follow, between}

-- how many bytes may come after the first byte of a character: the next lies between two bounds, `more` come after it
abbrev pub following_len : ℕ → ℕ → ℕ → List ℕ → ℕ
following_len low high more [] = 0
following_len low high zero (b ∷ bs) = if between low high b then 1 else 0
following_len low high (suc more) (b ∷ bs) = if between low high b then suc (following_len 128 191 more bs) else 0

abbrev pub begun_by : Option Follow → List ℕ → ℕ
begun_by None bs = 0
begun_by (Some f) bs = suc (following_len f.low f.high f.more bs)

-- how many bytes at the front may be those of a character of several bytes
abbrev pub begun_len : List ℕ → ℕ
begun_len [] = 0
begun_len (b ∷ bs) = begun_by (follow b) bs
