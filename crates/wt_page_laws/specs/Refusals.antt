-- What an entry of the work is refused for, at what was spent by then, and which entry is the first.
use Rattle.std.specs.Prelude.{◌≡◌, ◌⊎◌, ℕ, ◌+◌, ◌<◌, ◌≤◌, Some, None, List, [], ◌∷◌, ◌++◌, length}
use Rattle.wt_span.specs.declared.form.Mode.TheVariants as mode
use Rattle.wt_utf8.specs.Places.{not_utf8_place}
use Rattle.wt_expand.specs.Templates.{template_text}
use Rattle.wt_expand.specs.Work.{Pages, Entry, entered, begun, fetched, ended, Refused, braces_too_deep, too_large, not_utf8, too_long, most_bytes, most_cost, deep_place}

-- ---- what was spent

-- how many calls and arguments began
abbrev pub beginnings : List Entry → ℕ
beginnings [] = 0
beginnings (entered title ∷ es) = beginnings es
beginnings (begun ∷ es) = 1 + beginnings es
beginnings (fetched title ∷ es) = beginnings es
beginnings (ended n ∷ es) = beginnings es

-- how many bytes those that ended gave, at each level
abbrev pub bytes_given : List Entry → ℕ
bytes_given [] = 0
bytes_given (entered title ∷ es) = bytes_given es
bytes_given (begun ∷ es) = bytes_given es
bytes_given (fetched title ∷ es) = bytes_given es
bytes_given (ended n ∷ es) = n + bytes_given es

abbrev pub spent : List Entry → ℕ
spent es = beginnings es + bytes_given es

-- ---- one entry

-- A template's bytes are too many; or they aren't, and aren't UTF-8 from a place on; or they are UTF-8, and too many calls of
-- its text are one in another.
abbrev pub IsBadTemplate : List ℕ → List ℕ → Refused → Type 0
IsBadTemplate title bytes r =
    ((most_bytes < length bytes) × (r ≡ too_long title))
    ⊎ ((length bytes ≤ most_bytes) × (p : ℕ) × (not_utf8_place bytes ≡ Some p) × (r ≡ not_utf8 title p))
    ⊎ ((length bytes ≤ most_bytes) × (p : ℕ) × (not_utf8_place bytes ≡ None) × (deep_place mode.Template (template_text bytes) ≡ Some p)
    × (r ≡ braces_too_deep (Some title) p))

-- Where so much is spent with it, an entry is refused so: a page that is entered, for its nesting alone; a template, as above,
-- unless it is absent; a beginning and an end, for the cost. A fetch isn't refused.
abbrev pub IsRefusedAt : Pages → List ℕ → ℕ → Entry → Refused → Type 0
IsRefusedAt pages page cost (entered None) r = (p : ℕ) × (deep_place mode.Page page ≡ Some p) × (r ≡ braces_too_deep None p)
IsRefusedAt pages page cost (entered (Some title)) r = (bytes : List ℕ) × (pages title ≡ Some bytes) × IsBadTemplate title bytes r
IsRefusedAt pages page cost begun r = (most_cost < cost) × (r ≡ too_large)
IsRefusedAt pages page cost (fetched title) r = ⊥
IsRefusedAt pages page cost (ended n) r = (most_cost < cost) × (r ≡ too_large)

-- ---- all of them

-- whichever entry is taken, it isn't refused at what is spent by it and those before it
abbrev pub AreAllowed : Pages → List ℕ → List Entry → Type 0
AreAllowed pages page work =
    (before : List Entry) (e : Entry) (after : List Entry) (r : Refused) → work ≡ before ++ e ∷ after
    → IsRefusedAt pages page (spent before + spent (e ∷ [])) e r
    → ⊥

-- the first that is refused, between those before and after it
pub record IsFirstRefused (pages : Pages) (page : List ℕ) (work : List Entry) (r : Refused) : Type 0 where
  pub before : List Entry
  pub entry : Entry
  pub after : List Entry
  pub whole : work ≡ before ++ entry ∷ after
  pub allowed : AreAllowed pages page before
  pub refused : IsRefusedAt pages page (spent before + spent (entry ∷ [])) entry r
