-- What was changed has a place.
use Rattle.std.specs.Prelude.{◌≡◌, ◌≢◌, ◌<◌, ◌≤◌, ◌⊎◌, ℕ, true, Some, List, [], ◌∷◌, slice_get}
use Rattle.wt_tree.specs.Kinds.{showing}
use Rattle.wt_tree.specs.Opened.{opened, without_sections}
use Rattle.wt_tree.specs.Tiling.{end_of}
use Rattle.wt_tree.specs.Tree.{Tree, Trees, none, more, label, listed}
use Rattle.wt_checks.specs.BareSections.{HasBareSections}
use Rattle.wt_checks.specs.Kept.{children}
use Rattle.wt_checks.specs.Places.{Page, page_of}
use Rattle.wt_checks.specs.PutBack.{IsOneBody}
use Rattle.wt_checks.specs.Unmarked.{is_compared}
use Rattle.wt_difference.specs.Insides.{behind_inside, is_block_part}
use Rattle.wt_places.specs.declared.slot.Slot.{Slot}
use Rattle.wt_places.specs.Places.{gap_end, inside_end, inside_start, partner, slot, start_of}
use Rattle.wt_places.specs.Turns.{turns}
use Rattle.wt_call_laws.specs.Untouched.{IsWholePage}

-- it is one of these
abbrev pub IsAmong : Slot → List Slot → Type 0
IsAmong s [] = ⊥
IsAmong s (p ∷ ps) = (s ≡ p) ⊎ IsAmong s ps

-- the inside of a node of the page
abbrev pub inside_of : Tree → Slot
inside_of p = slot (inside_start (label p).ranges) (inside_end p)

-- the child of an edited body at this position, which stays in its turn
pub record StaysBlock (page : Page) (u : Tree) (i : ℕ) (v : Tree) : Type 0 where
  pub is : slice_get (listed (children u)) i ≡ Some v
  pub turn : slice_get (turns page 0 0 (children u)) i ≡ Some true

-- One of these places is for what comes at this position: behind the blocks that stay before it, and not past where those that stay
-- after it begin.
pub record HasPlaceAt (page : Page) (u : Tree) (i : ℕ) (ss : List Slot) : Type 0 where
  pub place : Slot
  pub is : IsAmong place ss
  pub behind : (j : ℕ) (w : Tree) → j < i → StaysBlock page u j w → end_of (label (partner page w)).ranges ≤ place.start
  pub before : (j : ℕ) (w : Tree) → i < j → StaysBlock page u j w → place.end ≤ gap_end (partner page w)

-- a node is one of these
abbrev pub IsThere : Tree → Trees → Type 0
IsThere x none = ⊥
IsThere x (more t ts) = (x ≡ t) ⊎ IsThere x ts

-- One of these places has all bytes of this node of the page.
pub record LiesInPlace (x : Tree) (ss : List Slot) : Type 0 where
  pub place : Slot
  pub is : IsAmong place ss
  pub from : place.start ≤ start_of (label x).ranges
  pub to : end_of (label x).ranges ≤ place.end

-- A block of the page that shows something, and of which no block of the edited body that stays has the number.
pub record IsGone (page edited x : Tree) : Type 0 where
  pub there : IsThere x (opened (children page))
  pub numbered : (label x).id ≢ 0
  pub shows : is_compared (showing (label x).kind) ≡ true
  pub gone : (i : ℕ) (v : Tree) → StaysBlock (page_of page) edited i v → (label v).id ≢ (label x).id

-- ---- at any depth

-- Of what comes after the inside of the edited node u, the child v at this position stays in its turn; t is the page's node.
pub record StaysChild (page : Page) (t u : Tree) (i : ℕ) (v : Tree) : Type 0 where
  pub is : slice_get (listed (behind_inside u)) i ≡ Some v
  pub turn : slice_get (turns page (label t).id 0 (behind_inside u)) i ≡ Some true

-- The way from the edited node u, one position after the other, leads to v, and each child on it stays in its turn and is a block, a list, an
-- item, a term or a part of a table. From t, the page's node, it leads to p.
abbrev pub LeadsTo : Page → Tree → Tree → List ℕ → Tree → Tree → Type 0
LeadsTo page t u [] p v = (t ≡ p) × (u ≡ v)
LeadsTo page t u (i ∷ way) p v =
    (w : Tree) × StaysChild page t u i w × (is_block_part (label w).kind ≡ true) × LeadsTo page (partner page w) w way p v

-- One of these places is for what comes at this position in the edited node u: behind the children that stay before it, and not past where
-- those that stay after it begin.
pub record HasPlaceIn (page : Page) (t u : Tree) (i : ℕ) (ss : List Slot) : Type 0 where
  pub place : Slot
  pub is : IsAmong place ss
  pub behind : (j : ℕ) (w : Tree) → j < i → StaysChild page t u j w → end_of (label (partner page w)).ranges ≤ place.start
  pub before : (j : ℕ) (w : Tree) → i < j → StaysChild page t u j w → place.end ≤ gap_end (partner page w)

-- ---- pages

-- a page that is one body, with its sections and without them
pub record IsSectionedPage (page : Tree) : Type 0 where
  pub whole : IsWholePage page
  pub sections : HasBareSections page
  pub opened_whole : IsWholePage (without_sections page)
  pub opened_body : IsOneBody (without_sections page)
