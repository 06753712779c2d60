-- The ranges of a tree tile it, and its numbers are in preorder.
use Rattle.std.specs.Prelude.{◌≡◌, ℕ, ◌+◌, ◌-◌, ◌≤◌, List, [], ◌∷◌, ◌++◌, length, Bool, true, false, if◌then◌else◌, Option, Some, None, All}
use Rattle.std.specs.List.{range_with_len}
use Rattle.wt_tree.specs.declared.kind.Kind.{Kind}
use Rattle.wt_tree.specs.declared.kind.Kind.TheVariants as kind
use Rattle.wt_tree.specs.declared.kind.Ranges.{Ranges}
use Rattle.wt_tree.specs.Kinds.{is_leaf, is_numbered}
use Rattle.wt_tree.specs.Tree.{Tree, tree, Trees, none, more, label}

-- a node begins at this place, or ends there
abbrev pub BeginsAt : ℕ → Option Ranges → Type 0
BeginsAt place None = ⊥
BeginsAt place (Some r) = r.start ≡ place

abbrev pub end_of : Option Ranges → ℕ
end_of None = 0
end_of (Some r) = r.end

-- A node with these ranges and this inside tiles: a leaf does not end before it begins; in any other
-- node the delimiters lie beside each other, and the inside goes from the end of the opening one to
-- the beginning of the closing one.
abbrev pub TiledBy : Bool → Option Ranges → (ℕ → ℕ → Type 0) → Type 0
TiledBy leaf None inside = ⊥
TiledBy true (Some r) inside = r.start ≤ r.end
TiledBy false (Some r) inside = (r.start + r.open_w + r.close_w ≤ r.end) × inside (r.start + r.open_w) (r.end - r.close_w)

-- Each node tiles, its children follow one another, the first from the beginning of its inside, and
-- the last ends where its inside ends.
abbrev mutual
  pub Tiled : Tree → Type 0
  Tiled (tree l ts) = TiledBy (is_leaf l.kind) l.ranges (λ from to. TiledFrom ts from to)

  pub TiledFrom : Trees → ℕ → ℕ → Type 0
  TiledFrom none from to = from ≡ to
  TiledFrom (more t ts) from to = BeginsAt from (label t).ranges × Tiled t × TiledFrom ts (end_of (label t).ranges) to

-- the body of a page covers all its bytes, and has no delimiters
abbrev pub Covers : ℕ → Tree → Type 0
Covers size t = (label t).ranges ≡ Some (record { start = 0; end = size; open_w = 0; close_w = 0 })

-- whether what is below a node of this kind has numbers: not inside a group
abbrev pub is_group : Kind → Bool
is_group kind.Group = true
is_group k = false

-- no node of the tree is a group
abbrev mutual
  pub HasNoGroup : Tree → Type 0
  HasNoGroup (tree l ts) = (is_group l.kind ≡ false) × NoneIsGroup ts

  pub NoneIsGroup : Trees → Type 0
  NoneIsGroup none = Unit {0}
  NoneIsGroup (more t ts) = HasNoGroup t × NoneIsGroup ts

-- The numbers of the nodes that have one, in preorder, and those of all other nodes.
abbrev mutual
  pub numbers : Tree → List ℕ
  numbers (tree l ts) = (if is_numbered l.kind then l.id ∷ [] else []) ++ (if is_group l.kind then [] else numbers_of_all ts)

  pub numbers_of_all : Trees → List ℕ
  numbers_of_all none = []
  numbers_of_all (more t ts) = numbers t ++ numbers_of_all ts

-- all numbers, in preorder
abbrev mutual
  pub ids : Tree → List ℕ
  ids (tree l ts) = l.id ∷ ids_of_all ts

  pub ids_of_all : Trees → List ℕ
  ids_of_all none = []
  ids_of_all (more t ts) = ids t ++ ids_of_all ts

abbrev mutual
  pub others : Tree → List ℕ
  others (tree l ts) = (if is_numbered l.kind then [] else l.id ∷ []) ++ (if is_group l.kind then ids_of_all ts else others_of_all ts)

  pub others_of_all : Trees → List ℕ
  others_of_all none = []
  others_of_all (more t ts) = others t ++ others_of_all ts

-- The numbers count from 1 in preorder, and all other nodes have the number 0.
pub record InPreorder (t : Tree) : Type 0 where
  pub counted : numbers t ≡ range_with_len 1 (length (numbers t))
  pub unnumbered : All (λ n. n ≡ 0) (others t)
