-- Which edited children of a node stay in their turn: as many as can, so that the fewest count as moved.
use Rattle.std.specs.Prelude.{ℕ, suc, max, ◌&&◌, nat_lt, nat_le, Bool, List, [], ◌∷◌, if◌then◌else◌}
use Rattle.wt_tree.specs.Kinds.{showing}
use Rattle.wt_tree.specs.Tree.{Tree, Trees, none, more, label}
use Rattle.wt_checks.specs.Places.{Page}
use Rattle.wt_checks.specs.Unmarked.{is_compared}
use Rattle.wt_difference.specs.Difference.{stays_in}

-- Whether an edited child stays in the node with this number. Separators, marks and skips don't count.
abbrev pub may_stay : Page → ℕ → Tree → Bool
may_stay page holder u = is_compared (showing (label u).kind) && stays_in page holder u

-- It may stay in its turn after one with this number: its own is greater.
abbrev pub may_follow : Page → ℕ → ℕ → Tree → Bool
may_follow page holder n u = nat_lt n (label u).id && may_stay page holder u

-- The most of these children that can stay in their turn after one with this number: their numbers rise. The first of
-- them is one of these, or it isn't.
abbrev pub most_after : Page → ℕ → ℕ → Trees → ℕ
most_after page holder n none = 0
most_after page holder n (more u us) =
    if may_follow page holder n u then max (most_after page holder n us) (suc (most_after page holder (label u).id us)) else most_after page holder n us

-- After one with this number a child stays in its turn, where it may, unless more of those behind it could without it.
-- So of several choices with the most children it is the one that keeps the first, of these that which keeps the next,
-- and so on.
abbrev pub is_in_turn : Page → ℕ → ℕ → Tree → Trees → Bool
is_in_turn page holder n u us = may_follow page holder n u && nat_le (most_after page holder n us) (suc (most_after page holder (label u).id us))

-- of each of these children, from the first on after one with this number, whether it does
abbrev pub turns : Page → ℕ → ℕ → Trees → List Bool
turns page holder n none = []
turns page holder n (more u us) =
    is_in_turn page holder n u us ∷ turns page holder (if is_in_turn page holder n u us then (label u).id else n) us
