-- The children of a node that are cells, or skipped spaces.
use Rattle.std.specs.Prelude.{Bool, true, false, List, [], ◌∷◌, ◌++◌, if◌then◌else◌}
use Rattle.wt_tree.specs.declared.kind.Kind.{Kind}
use Rattle.wt_tree.specs.declared.kind.Kind.TheVariants as kind
use Rattle.wt_span.specs.Items.{Item}
use Rattle.wt_inline.specs.ItemTree.{ItemTree, inner, ItemTrees, nothing, further, tree_items}
use Rattle.wt_page_laws.specs.Roles.{role_of, head_of, is_cell, is_skipped}

-- what the function gives of each, in their order
abbrev pub of_each : {A : Type 0} → (ItemTree → List A) → ItemTrees → List A
of_each told nothing = []
of_each told (further t ts) = told t ++ of_each told ts

-- ---- cells by their kinds

abbrev pub cell_of : ItemTree → List Kind
cell_of t = if is_cell (role_of t) then (head_of t).kind ∷ [] else []

abbrev pub cells_among : ItemTrees → List Kind
cells_among ts = of_each cell_of ts

-- a caption; else the cells of a line that begins with `!` are `th`, and those of any other `td`
abbrev pub cell_name : Bool → Bool → Kind
cell_name true header = kind.Caption
cell_name false true = kind.Th
cell_name false false = kind.Td

-- ---- skipped spaces by their items

abbrev pub skipped_of : ItemTree → List (List Item)
skipped_of t = if is_skipped (role_of t) then tree_items t ∷ [] else []

abbrev pub skipped_among : ItemTrees → List (List Item)
skipped_among ts = of_each skipped_of ts

abbrev pub children_of : ItemTree → ItemTrees
children_of (inner h opening ts closing) = ts

abbrev pub opening_of : ItemTree → List Item
opening_of (inner h opening ts closing) = opening
