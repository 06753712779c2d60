-- Where an expansion stops: what was done of its work before, and what comes next.
use Rattle.std.specs.Prelude.{◌≡◌, ℕ, ◌+◌, Bool, true, false, Some, None, List, [], ◌∷◌, ◌++◌, is_some, if◌then◌else◌}
use Rattle.wt_expand.specs.Work.{Pages, Entry, entered, begun, fetched, ended, Refused, cost_of, entry_refusal, refusal_from, is_among, names_asked}

-- what entries cost
abbrev pub cost_of_all : List Entry → ℕ
cost_of_all [] = 0
cost_of_all (e ∷ es) = cost_of e + cost_of_all es

-- the names that are known once these were fetched, where those were known before
abbrev pub known_after : List (List ℕ) → List (List ℕ) → List (List ℕ)
known_after met [] = met
known_after met (n ∷ ns) = if is_among n met then known_after met ns else known_after (n ∷ met) ns

-- Of some work this much is done and this is left. Where so much was spent before, no entry that is done is refused.
pub record Front (pages : Pages) (page : List ℕ) (spent : ℕ) (work done left : List Entry) : Type 0 where
  pub whole : work ≡ done ++ left
  pub allowed : refusal_from pages page spent done ≡ None

-- the next entry is refused so, where so much was spent before it
abbrev pub NextRefuses : Pages → List ℕ → ℕ → Refused → List Entry → Type 0
NextRefuses pages page spent r [] = ⊥
NextRefuses pages page spent r (e ∷ es) = entry_refusal pages page (spent + cost_of e) e ≡ Some r

abbrev pub IsNewFetch : List (List ℕ) → Entry → Type 0
IsNewFetch met (entered title) = ⊥
IsNewFetch met begun = ⊥
IsNewFetch met (fetched title) = is_among title met ≡ false
IsNewFetch met (ended n) = ⊥

-- the next entry is the fetch of a page whose name is none of these
abbrev pub NextFetches : List (List ℕ) → List Entry → Type 0
NextFetches met [] = ⊥
NextFetches met (e ∷ es) = IsNewFetch met e

-- ---- up to the first refusal

-- the entries before the first one that is refused, where so much was spent before; all of them where none is
abbrev pub allowed_from : Pages → List ℕ → ℕ → List Entry → List Entry
allowed_from pages page spent [] = []
allowed_from pages page spent (e ∷ es) =
    if is_some (entry_refusal pages page (spent + cost_of e) e) then [] else e ∷ allowed_from pages page (spent + cost_of e) es

unfoldable pub allowed_work : Pages → List ℕ → List Entry → List Entry
allowed_work pages page es = allowed_from pages page 0 es

-- The names that a folder without faults is asked for, each once, in the order of their first fetch, where memory suffices: up to
-- the first entry that is refused, or all of them.
unfoldable pub names_told : Pages → List ℕ → List Entry → List (List ℕ)
names_told pages page es = names_asked (allowed_work pages page es)
