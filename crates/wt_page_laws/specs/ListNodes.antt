-- The nodes of lists in a tree, and how the signs of lines name them.
use Rattle.std.specs.Prelude.{◌≡◌, ◌⊎◌, ℕ, suc, ◌==◌, List, [], ◌∷◌, ◌++◌, if◌then◌else◌}
use Rattle.wt_span.specs.Characters as byte
use Rattle.wt_tree.specs.declared.kind.Kind.{Kind}
use Rattle.wt_tree.specs.declared.kind.Kind.TheVariants as kind
use Rattle.wt_blocks.specs.Starts.{Row}
use Rattle.wt_inline.specs.ItemTree.{ItemTree, inner, ItemTrees, nothing, further}
use Rattle.wt_page_laws.specs.Roles.{role, is_of_list}

-- ---- in a tree

-- Preorder: a list or an item with the number of lists and items round it, then all in it. What is on a line holds none.
abbrev mutual
  pub list_nodes : ℕ → ItemTree → List (ℕ × Kind)
  list_nodes d (inner h opening ts closing) = if is_of_list (role h.kind) then (d, h.kind) ∷ list_nodes_of_all (suc d) ts else []

  pub list_nodes_of_all : ℕ → ItemTrees → List (ℕ × Kind)
  list_nodes_of_all d nothing = []
  list_nodes_of_all d (further t ts) = list_nodes d t ++ list_nodes_of_all d ts

-- ---- by signs: `*` makes `ul` with `li`, `#` makes `ol` with `li`, `;` and `:` make `dl` with `dt` and `dd`

abbrev pub list_name : ℕ → Kind
list_name sign = if sign == byte.asterisk then kind.Ul else if sign == byte.hash then kind.Ol else kind.Dl

abbrev pub item_name : ℕ → Kind
item_name sign = if sign == byte.semicolon then kind.Dt else if sign == byte.colon then kind.Dd else kind.Li

abbrev pub name : Row → Kind
name r = if r.item then item_name r.sign else list_name r.sign

-- a node of this name, or a term with a definition after it
abbrev pub IsNamed : Row → List (ℕ × Kind) → List (ℕ × Kind) → Type 0
IsNamed r others ns =
    (ns ≡ (r.depth, name r) ∷ others) ⊎ ((name r ≡ kind.Dt) × (ns ≡ (r.depth, kind.Dt) ∷ (r.depth, kind.Dd) ∷ others))

-- the nodes of these lists and items, in their order
abbrev pub AreNamed : List Row → List (ℕ × Kind) → Type 0
AreNamed [] ns = ns ≡ []
AreNamed (r ∷ rs) ns = (others : List (ℕ × Kind)) × IsNamed r others ns × AreNamed rs others
