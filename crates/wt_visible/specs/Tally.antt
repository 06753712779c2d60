-- How often a text is among some.
use Rattle.std.specs.Prelude.{ℕ, List, ◌≤◌, ◌-◌, drop, length, take}
use Rattle.std.specs.BTreeMap.{get_by}
use Rattle.std.specs.Char.{is_ascii_whitespace}
use Rattle.std.specs.Cmp.Lexicographic.{slice_cmp}
use Rattle.std.specs.List.{count_by, prefix_len, suffix_len}
use Rattle.std.specs.Option.{unwrap_or}
use Rattle.std.specs.Ordering.{nat_cmp}
use Rattle.std.specs.Str.{bytes_eq}
use Rattle.wt_visible.specs.declared.tally.Tally.{Tally}

abbrev pub times : List ℕ → List (List ℕ) → ℕ
times text texts = count_by (λ it. bytes_eq it text) texts

-- each is among the others at least as often
abbrev pub StandAmong : List (List ℕ) → List (List ℕ) → Type 0
StandAmong texts others = (text : List ℕ) → times text texts ≤ times text others

abbrev pub without_lead : List ℕ → List ℕ
without_lead text = drop (prefix_len is_ascii_whitespace text) text

abbrev pub without_tail : List ℕ → List ℕ
without_tail text = take (length text - suffix_len is_ascii_whitespace text) text

-- a text without the white space at its ends
abbrev pub trimmed : List ℕ → List ℕ
trimmed text = without_tail (without_lead text)

-- what the code has counted of a text
abbrev pub counted : Tally → List ℕ → ℕ
counted tally text = unwrap_or (get_by (λ key. slice_cmp nat_cmp text key.now) tally.counts) 0
