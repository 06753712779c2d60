-- What holds of the styles of every context.
use Rattle.std.specs.Prelude.{◌≡◌, ◌⊎◌, ℕ, ◌+◌, ◌%◌, ◌<◌, ◌≤◌, ◌==◌, ◌&&◌, ◌||◌, Bool, true, false, not, List, if◌then◌else◌, nat_lt, nat_le, All, count_by}
use Rattle.std.specs.List.{AllPairs, list_any}
use Rattle.wt_quotes.specs.declared.chunk.Chunk.{Chunk}
use Rattle.wt_quotes.specs.declared.toggle.Toggle.{Toggle}
use Rattle.wt_quotes.specs.declared.style.Style.{Style}
use Rattle.wt_quotes.specs.Runs.{bytes_of}
use Rattle.wt_quotes.specs.Toggles.{toggles_of, width_of}
use Rattle.wt_quotes.specs.Turns.{is_of, start_of}
use Rattle.wt_quotes.specs.Styles.{style_tree_of}

-- its delimiters don't overlap, and it lies in the context
abbrev pub IsWhole : ℕ → Style → Type 0
IsWhole total s = (s.from + s.open_w + s.close_w ≤ s.to) × (s.to ≤ total)

-- a later style lies after an earlier one, or between its delimiters, and is then of the other kind
abbrev pub IsBehindOrInside : Style → Style → Type 0
IsBehindOrInside s u = (s.to ≤ u.from) ⊎ ((s.from + s.open_w ≤ u.from) × (u.to + s.close_w ≤ s.to) × (u.bold ≡ not s.bold))

-- styles nest
abbrev pub StylesNest : List Chunk → Type 0
StylesNest chunks = All (IsWhole (bytes_of chunks)) (style_tree_of chunks) × AllPairs IsBehindOrInside (style_tree_of chunks)

abbrev pub is_kind : Bool → Bool → Bool
is_kind true bold = bold
is_kind false bold = not bold

-- a style of the kind has the byte between its delimiters
abbrev pub holds : Bool → ℕ → Style → Bool
holds bold p s = is_kind bold s.bold && (nat_le (s.from + s.open_w) p && nat_lt (p + s.close_w) s.to)

-- a style has the byte in one of its delimiters
abbrev pub delimits : ℕ → Style → Bool
delimits p s = (nat_le s.from p && nat_lt p (s.from + s.open_w)) || (nat_le s.to (p + s.close_w) && nat_lt p s.to)

-- the byte is one of the apostrophes of a toggle that aren't plain
abbrev pub is_switch_at : List Chunk → ℕ → Toggle → Bool
is_switch_at chunks p t = nat_le (start_of chunks t) p && nat_lt p (start_of chunks t + width_of t)

abbrev pub is_switch : List Chunk → ℕ → Bool
is_switch chunks p = list_any (is_switch_at chunks p) (toggles_of chunks)

-- the toggle switches the style before the byte
abbrev pub switches_before : Bool → List Chunk → ℕ → Toggle → Bool
switches_before bold chunks p t = is_of bold t && nat_le (start_of chunks t + width_of t) p

-- each byte that is no switch is in one bold style where an odd number of bold toggles lies before it, and in
-- none elsewhere; likewise italic
abbrev pub EachByteIsStyled : List Chunk → Type 0
EachByteIsStyled chunks = (bold : Bool) (p : ℕ) → p < bytes_of chunks → is_switch chunks p ≡ false
    → count_by (holds bold p) (style_tree_of chunks) ≡ (if count_by (switches_before bold chunks p) (toggles_of chunks) % 2 == 1 then 1 else 0)

-- each byte that is a switch is in one delimiter, and every other byte in none
abbrev pub EachSwitchIsOneDelimiter : List Chunk → Type 0
EachSwitchIsOneDelimiter chunks = (p : ℕ) → p < bytes_of chunks → count_by (delimits p) (style_tree_of chunks) ≡ (if is_switch chunks p then 1 else 0)
