-- Lines as the code has them: prefixes, of which the first signs are read.
use Rattle.std.specs.Prelude.{ℕ, ◌<◌, ◌≤◌, ◌+◌, Bool, List, length, take, drop, map, All, slice_index, nat_lt}
use Rattle.wt_span.specs.Runs.{IsRun}
use Rattle.wt_blocks.specs.declared.limits.TheConstants.{MOST_SIGNS}
use Rattle.wt_blocks.specs.Nesting.{ListLine, numbered, same_list}

-- the lines from a number on, by their prefixes from a sign on
abbrev pub lines_from : ℕ → ℕ → List (List ℕ) → List ListLine
lines_from first depth ps = numbered first (map (drop depth) ps)

-- signs are left to be read, and count
abbrev pub AreLeft : ℕ → List (List ℕ) → Type 0
AreLeft depth ps = All (λ p. (depth < length p) × (length p ≤ MOST_SIGNS)) ps

-- two prefixes have signs of one list at this place
abbrev pub one_list_at : ℕ → List ℕ → List ℕ → Bool
one_list_at depth p q = same_list (slice_index p depth) (slice_index q depth)

-- the second prefix goes on after this place
abbrev pub one_item_at : ℕ → List ℕ → List ℕ → Bool
one_item_at depth p q = nat_lt (depth + 1) (length q)

-- these lines are an item, before some others
abbrev pub IsItem : ℕ → List (List ℕ) → Type 0
IsItem depth ps = (others : List (List ℕ)) × IsRun (one_item_at depth) ps others

-- so many are the first run
abbrev pub IsFront : (List ℕ → List ℕ → Bool) → List (List ℕ) → ℕ → Type 0
IsFront joins ps n = IsRun joins (take n ps) (drop n ps)
