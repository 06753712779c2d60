-- What is read of a text, by its members so far: the nearest member comes first.
use Rattle.std.specs.Prelude.{◌≡◌, ℕ, ◌+◌, ◌-◌, ◌==◌, ◌≤◌, false, Option, Some, None, List, [], ◌∷◌, ◌++◌, length, take, drop, nat_le, nat_lt, slice_index, if◌then◌else◌}
use Rattle.wt_span.specs.Braces.{Member, Members, lexeme, call, none, more, PartSign, sign_of, is_kind_open, is_kind_close, open_left, width, width_of_all, call_count, parts_of, parts_between}
use Rattle.wt_braces.specs.declared.matching.OpenRun.{OpenRun}
use Rattle.wt_braces.specs.Views.{ClosedAt}
use Rattle.wt_braces.specs.PartRows.{Fit}

-- ---- calls in the order of their last bytes; `n` come before

abbrev mutual
  pub closed_of : ℕ → ℕ → Member → List ClosedAt
  closed_of at n (lexeme w) = []
  closed_of at n (call k ms) = closed_of_all (at + k) n ms ++ record {
    argument = k == 3;
    from = at;
    to = at + (k + width_of_all ms + k);
    parts = parts_of (at + k) ms;
    first = n;
  } ∷ []

  pub closed_of_all : ℕ → ℕ → Members → List ClosedAt
  closed_of_all at n none = []
  closed_of_all at n (more m ms) = closed_of at n m ++ closed_of_all (at + width m) (n + call_count m) ms

-- ---- what is read

-- The open runs that have two braces left, the nearest first; the signs after them that may count, and for each open `[[`
-- how many signs come before it; the calls in the order of their last bytes.
pub record Matched : Type 0 where
  pub runs : List OpenRun
  pub signs : List PartSign
  pub links : List ℕ
  pub closed : List ClosedAt

-- the nearest run is taken, where there is one
abbrev pub TakesRun : Option OpenRun → List OpenRun → List OpenRun → Type 0
TakesRun None old new = (old ≡ []) × (new ≡ [])
TakesRun (Some r) old new = old ≡ r ∷ new

-- the nearest run is taken of what is read, where there is one
abbrev pub TakesNearest : Option OpenRun → Matched → Matched → Type 0
TakesNearest None old new = (old.runs ≡ []) × (new ≡ old)
TakesNearest (Some r) old new = old ≡ record { runs = r ∷ new.runs; signs = new.signs; links = new.links; closed = new.closed }

-- how many links are open before the nearest run
abbrev pub links_before : List OpenRun → ℕ
links_before [] = 0
links_before (r ∷ rs) = r.links

abbrev pub with_link : Matched → Matched
with_link m = record { runs = m.runs; signs = m.signs; links = m.links ++ length m.signs ∷ []; closed = m.closed }

-- the last open link of the level is closed, and the signs in it are gone
abbrev pub link_closed : Matched → Matched
link_closed m = if nat_lt (links_before m.runs) (length m.links)
    then record {
      runs = m.runs;
      signs = take (slice_index m.links (length m.links - 1)) m.signs;
      links = take (length m.links - 1) m.links;
      closed = m.closed;
    } else m

abbrev pub with_signs : List PartSign → Matched → Matched
with_signs ss m = record { runs = m.runs; signs = m.signs ++ ss; links = m.links; closed = m.closed }

abbrev pub with_level : ℕ → Member → Matched → Matched
with_level at x m = if is_kind_close x then link_closed m else (if is_kind_open x then with_link m else with_signs (sign_of x at) m)

abbrev pub with_run : ℕ → ℕ → Matched → Matched
with_run at n m = if nat_le 2 n then record {
  runs = record { at = at; left = n; signs = length m.signs; links = length m.links; calls = length m.closed }
      ∷ m.runs;
  signs = m.signs;
  links = m.links;
  closed = m.closed;
} else m

abbrev pub with_calls : ℕ → Member → Matched → Matched
with_calls at x m = record { runs = m.runs; signs = m.signs; links = m.links; closed = m.closed ++ closed_of at (length m.closed) x }

-- one more member, which begins at `at`
abbrev pub with_member : ℕ → Member → Matched → Matched
with_member at x m = with_run at (open_left (Some x)) (with_calls at x (with_level at x m))

-- where members that begin at `at` end
abbrev pub end_of : ℕ → List Member → ℕ
end_of at [] = at
end_of at (x ∷ before) = end_of at before + width x

abbrev pub matched : ℕ → List Member → Matched
matched at [] = record { runs = []; signs = []; links = []; closed = [] }
matched at (x ∷ before) = with_member (end_of at before) x (matched at before)

-- ---- a call is made

-- what is after a run is gone
abbrev pub cut_at : OpenRun → Matched → Matched
cut_at r m = record { runs = m.runs; signs = take r.signs m.signs; links = take r.links m.links; closed = m.closed }

abbrev pub with_closed : ClosedAt → Matched → Matched
with_closed c m = record { runs = m.runs; signs = m.signs; links = m.links; closed = m.closed ++ c ∷ [] }

-- a run has so many braces left
abbrev pub with_left : OpenRun → ℕ → Matched → Matched
with_left r n m = if nat_le 2 n then record {
  runs = record { at = r.at; left = n; signs = r.signs; links = r.links; calls = r.calls } ∷ m.runs;
  signs = m.signs;
  links = m.links;
  closed = m.closed;
} else m

-- the call of so many braces of a run, which ends at `end`
abbrev pub closed_call : OpenRun → ℕ → ℕ → Matched → ClosedAt
closed_call r k end m = record {
  argument = k == 3;
  from = r.at + r.left - k;
  to = end;
  parts = parts_between false (r.at + r.left) (end - k) (drop r.signs m.signs);
  first = r.calls;
}

-- so many braces of this run, which is no longer among the open ones, and of a closing run make a call that ends at `end`
abbrev pub call_closed : OpenRun → ℕ → ℕ → Matched → Matched
call_closed r k end m = with_left r (r.left - k) (with_closed (closed_call r k end m) (cut_at r m))

-- they can
pub record CanClose (r : OpenRun) (k end : ℕ) (m : Matched) : Type 0 where
  pub most : k ≤ r.left
  pub ends : k ≤ end
  pub behind : r.signs ≤ length m.signs
  pub fit : Fit (r.at + r.left) (end - k) (drop r.signs m.signs)

-- these members are read, and end here
pub record Stands (at : ℕ) (before : List Member) (m : Matched) (place : ℕ) : Type 0 where
  pub read : m ≡ matched at before
  pub ends : place ≡ end_of at before
