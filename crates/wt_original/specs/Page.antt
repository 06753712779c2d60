-- What is known of the page when a block's content is spelled.
use Rattle.std.specs.Prelude.{◌≡◌, ℕ, Bool, ◌||◌, Option, Some, None, List, [], if◌then◌else◌}
use Rattle.std.specs.Bool.{Decides}
use Rattle.wt_tree.specs.Tree.{Tree, tree, Trees, none, more, label}
use Rattle.wt_tree.specs.Tiling.{is_group}
use Rattle.wt_tree.specs.Plain.{plain}
use Rattle.wt_tree.specs.Source.{flat}
use Rattle.wt_original.specs.Kept.{Kept, kept_nodes, kept_with}

-- The kept nodes of a block, its source, and a test of two nodes.
pub record Page : Type 0 where
  pub kept : List Kept
  pub source : List ℕ
  pub same : Tree → Tree → Bool

-- the test says whether two nodes have one kind and one plain view
abbrev pub TellsSame : (Tree → Tree → Bool) → Type 0
TellsSame same = (t u : Tree) → Decides (same t u) (((label t).kind ≡ (label u).kind) × (plain t ≡ plain u))

abbrev pub page_of : (Tree → Tree → Bool) → Tree → Page
page_of same block = record { kept = kept_nodes block; source = flat block; same = same }

-- a new block has no kept nodes
abbrev pub no_page : (Tree → Tree → Bool) → Page
no_page same = record { kept = []; source = []; same = same }

-- the page's node, where there is one
abbrev pub node_or : Tree → Option Kept → Tree
node_or t None = t
node_or t (Some k) = k.node

-- A node of the edited tree, in which each group shows what the page's group with its number shows.
abbrev mutual
  pub restored : List Kept → Tree → Tree
  restored ks (tree l ts) = if is_group l.kind then node_or (tree l ts) (kept_with l.id ks) else tree l (restored_all ks ts)

  pub restored_all : List Kept → Trees → Trees
  restored_all ks none = none
  restored_all ks (more t ts) = more (restored ks t) (restored_all ks ts)

-- A kept node is unchanged where it is a group, or is of the same kind and has the same plain view.
abbrev pub is_unchanged : Page → Kept → Tree → Bool
is_unchanged p k t = is_group (label k.node).kind || p.same (restored p.kept t) k.node
