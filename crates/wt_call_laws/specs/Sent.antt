-- Nodes that are sent under the number of the node that they are in the page.
use Rattle.std.specs.Prelude.{◌≡◌, ◌≢◌, ℕ, true, Bool, Some, List, [], ◌∷◌}
use Rattle.wt_tree.specs.Kinds.{showing}
use Rattle.wt_tree.specs.Tree.{Tree, Trees, none, more, label}
use Rattle.wt_checks.specs.Places.{Page, Place}
use Rattle.wt_checks.specs.Unmarked.{is_compared}
use Rattle.wt_places.specs.Turns.{may_stay}

-- The second node is sent for the first, a node of the page: with its number, kind and attributes. It shows something, and
-- whatever else it has and holds is its own.
pub record IsSentFor (t v : Tree) : Type 0 where
  pub numbered : (label t).id ≢ 0
  pub number : (label v).id ≡ (label t).id
  pub kind : (label v).kind ≡ (label t).kind
  pub attrs : (label v).attrs ≡ (label t).attrs
  pub shows : is_compared (showing (label v).kind) ≡ true

-- Whatever is sent for the node at this place may stay in the node that holds it.
abbrev pub StaysThere : Page → Place → Type 0
StaysThere page q = (v : Tree) → IsSentFor q.node v → may_stay page q.parent v ≡ true

-- The page's node of its number is held by this one, and it was sent for that.
pub record IsOf (page : Page) (holder : ℕ) (v : Tree) : Type 0 where
  pub place : Place
  pub found : page (label v).id ≡ Some place
  pub held : place.parent ≡ holder
  pub sent : IsSentFor place.node v

-- of each of these nodes, whether it shows something
abbrev pub those_that_show : Trees → List Bool
those_that_show none = []
those_that_show (more u us) = is_compared (showing (label u).kind) ∷ those_that_show us
