-- What an edit without marks leaves alone: the nodes of the page of which none of its places has a byte.
use Rattle.std.specs.Prelude.{◌≡◌, ◌≢◌, ◌≤◌, ◌⊎◌, ◌++◌, ◌||◌, ⊤, ℕ, Bool, true, Some, List, [], ◌∷◌, slice_get}
use Rattle.std.specs.List.{AllByRecursion}
use Rattle.wt_tree.specs.declared.kind.Kind.{Kind}
use Rattle.wt_tree.specs.declared.kind.Kind.TheVariants as kind
use Rattle.wt_tree.specs.Kinds.{is_leaf, showing}
use Rattle.wt_tree.specs.Tiling.{InPreorder, Tiled, end_of, ids_of_all}
use Rattle.wt_tree.specs.Tree.{Tree, tree, Trees, none, more, label, listed}
use Rattle.wt_checks.specs.Places.{Page, is_body}
use Rattle.wt_checks.specs.Unmarked.{is_compared}
use Rattle.wt_difference.specs.Insides.{behind_inside, held, is_block_part}
use Rattle.wt_difference.specs.Unedited.{GroupOr}
use Rattle.wt_places.specs.declared.slot.Slot.{Slot}
use Rattle.wt_places.specs.Places.{gap_end, inside_end, inside_stop, partner, start_of}
use Rattle.wt_places.specs.Turns.{turns}

-- ---- nodes that are left alone

-- it ends before the first of these bytes of the page, or begins after the last one
abbrev pub IsBeside : ℕ → ℕ → Slot → Type 0
IsBeside start end s = (s.end ≤ start) ⊎ (end ≤ s.start)

-- No place has a byte of this node of the page, or lies between two of them; of a cell, of what comes after its sign.
abbrev pub IsUntouched : List Slot → Tree → Type 0
IsUntouched ss t = AllByRecursion (IsBeside (gap_end t) (end_of (label t).ranges)) ss

-- ---- nodes that stay in their turn

-- the page has the second node behind the inside of the first
pub record LiesBehind (t p : Tree) : Type 0 where
  pub from : inside_end t ≤ start_of (label p).ranges
  pub to : end_of (label p).ranges ≤ inside_stop (label t).ranges

-- Of what comes after the inside of the edited node u, the child v at this position stays in its turn; the page's node is t.
pub record StaysInTurn (page : Page) (t u : Tree) (i : ℕ) (v : Tree) : Type 0 where
  pub is : slice_get (listed (behind_inside u)) i ≡ Some v
  pub turn : slice_get (turns page (label t).id 0 (behind_inside u)) i ≡ Some true
  pub behind : LiesBehind t (partner page v)

-- The way from the edited node u, one position after the other, leads to v, and each child on it stays in its turn. From t,
-- the page's node, it leads to p.
abbrev pub StaysAt : Page → Tree → Tree → List ℕ → Tree → Tree → Type 0
StaysAt page t u [] p v = (t ≡ p) × (u ≡ v)
StaysAt page t u (i ∷ way) p v = (w : Tree) × StaysInTurn page t u i w × StaysAt page (partner page w) w way p v

-- ---- pages

-- no leaf holds a node with a number
abbrev mutual
  pub LeavesAreBare : Tree → Type 0
  LeavesAreBare (tree l ts) = (is_leaf l.kind ≡ true → AllByRecursion (λ n. n ≡ 0) (ids_of_all ts)) × AllLeavesAreBare ts

  pub AllLeavesAreBare : Trees → Type 0
  AllLeavesAreBare none = ⊤
  AllLeavesAreBare (more t ts) = LeavesAreBare t × AllLeavesAreBare ts

-- a page whose ranges tile it and whose numbers count in preorder
pub record IsWholePage (t : Tree) : Type 0 where
  pub body : (label t).kind ≡ kind.Body
  pub tiled : Tiled t
  pub numbered : InPreorder t
  pub leaves : LeavesAreBare t

-- ---- nodes in which no text comes after the inside

-- each of them that shows something has a number
abbrev pub AreNumbered : Trees → Type 0
AreNumbered none = ⊤
AreNumbered (more t ts) = (is_compared (showing (label t).kind) ≡ true → (label t).id ≢ 0) × AreNumbered ts

-- the body, and the blocks, lists, items, rows and cells: the difference looks at what these hold, one by one
abbrev pub is_looked_into : Kind → Bool
is_looked_into k = is_block_part k || is_body k

-- In the node, and in the blocks and parts of blocks that it holds, no text comes after the inside: what comes there and shows
-- something has a number.
abbrev mutual
  pub IsNumberedBehind : Tree → Type 0
  IsNumberedBehind (tree l ts) = GroupOr (is_looked_into l.kind) (AreNumbered (held (tree l ts)) × AllAreNumberedBehind ts) ⊤

  pub AllAreNumberedBehind : Trees → Type 0
  AllAreNumberedBehind none = ⊤
  AllAreNumberedBehind (more t ts) = IsNumberedBehind t × AllAreNumberedBehind ts

-- ---- bytes

-- the new page has these bytes
pub record HasBytes (new bytes : List ℕ) : Type 0 where
  pub before : List ℕ
  pub after : List ℕ
  pub is : new ≡ before ++ (bytes ++ after)
