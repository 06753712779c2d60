-- Conditions on the numbers of an edited tree: unknown, repeated, moved.
use Rattle.std.specs.Prelude.{ℕ, ◌==◌, ◌&&◌, ◌||◌, not, nat_lt, Bool, true, false, Option, Some, None, List}
use Rattle.std.specs.List.{list_any}
use Rattle.wt_checks.specs.Places.{Place, number, is_kept, Page, Condition}

-- the place is there
abbrev pub is_there : Option Place → Bool
is_there None = false
is_there (Some q) = true

-- UnknownId: the number isn't in the page's tree.
abbrev pub is_unknown : Page → Condition
is_unknown page before p after = is_kept p && not (is_there (page (number p)))

-- one of these places has this number
abbrev pub stands : ℕ → List Place → Bool
stands n ps = list_any (λ q. number q == n) ps

-- RepeatedId: the number is on another element, before or after it.
abbrev pub is_repeated : Condition
is_repeated before p after = is_kept p && (stands (number p) before || stands (number p) after)

abbrev pub has_parent : ℕ → Option Place → Bool
has_parent n None = false
has_parent n (Some q) = q.parent == n

-- a kept node with this kept parent and a greater number than this is among these places
abbrev pub greater_stands : ℕ → ℕ → List Place → Bool
greater_stands parent n ps = list_any (λ q. is_kept q && (q.parent == parent && nat_lt n (number q))) ps

-- Moved: the kept parent isn't the page's, or a greater number with the same kept parent comes before.
abbrev pub is_moved : Page → Condition
is_moved page before p after = is_kept p && (not (has_parent p.parent (page (number p))) || greater_stands p.parent (number p) before)
