-- What a text with its place holds, and where it is: the places are bytes of what it was cut from.
use Rattle.std.specs.Prelude.{ℕ, ◌+◌, List, length}
use Rattle.wt_span.specs.declared.text.Text.{Text}

-- its bytes
abbrev pub bytes_of : Text → List ℕ
bytes_of t = t.of.now

-- the place of its first byte
abbrev pub start_of : Text → ℕ
start_of t = t.at

-- the place after its last byte
abbrev pub end_of : Text → ℕ
end_of t = t.at + length t.of.now
