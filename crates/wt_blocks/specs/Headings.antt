-- Where the two delimiters of a heading end, by the signs of its items: a mark has a sign of its own, so it parts a run.
use Rattle.std.specs.Prelude.{ℕ, ◌+◌, ◌-◌, ◌/◌, min, List, length, take, drop, reverse, map, ◌==◌, if◌then◌else◌}
use Rattle.std.specs.List.{prefix_len}
use Rattle.wt_span.specs.Bytes.{blank_len}
use Rattle.wt_span.specs.Items.{Item, sign}
use Rattle.wt_span.specs.Characters as byte
use Rattle.wt_lines.specs.Kinds.{is_idle}

-- how many `=` the signs begin with
abbrev pub equals : List ℕ → ℕ
equals ss = prefix_len (λ s. s == byte.equals_sign) ss

-- up to the last sign that is neither blank nor mark
abbrev pub core : List ℕ → List ℕ
core ss = take (length ss - prefix_len is_idle (reverse ss)) ss

-- The level is the smaller of the two runs of `=`, and at most 6; of n `=` alone it is the half of n - 1, rounded down.
abbrev pub level_of : List ℕ → ℕ
level_of c =
    if equals c == length c then min 6 ((length c - 1) / 2)
    else min 6 (min (equals c) (equals (reverse c)))

-- the open delimiter: that many `=`, and the blanks after them
abbrev pub open_len : List ℕ → ℕ
open_len c = level_of c + blank_len (drop (level_of c) c)

-- signs without the blanks at their end, by their number
abbrev pub trimmed_len : List ℕ → ℕ
trimmed_len ss = length ss - blank_len (reverse ss)

-- What is between the delimiters. The close delimiter is the rest: the blanks before the last `=`, as many of these as
-- the level, and all after them.
abbrev pub inside_len : List ℕ → ℕ
inside_len c = trimmed_len (take (length c - level_of c - open_len c) (drop (open_len c) c))

-- ---- of a line from its first visible item on

unfoldable pub level : List Item → ℕ
level line = level_of (core (map sign line))

unfoldable pub opening : List Item → List Item
opening line = take (open_len (core (map sign line))) line

unfoldable pub inside : List Item → List Item
inside line = let c = core (map sign line) in take (inside_len c) (drop (open_len c) line)

unfoldable pub closing : List Item → List Item
closing line = let c = core (map sign line) in drop (open_len c + inside_len c) line
