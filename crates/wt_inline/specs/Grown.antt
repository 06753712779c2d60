-- The children of a node while its parts are read: trees that are made, and the run of characters after them, which may go on.
use Rattle.std.specs.Prelude.{◌≡◌, ℕ, false, Option, Some, None, List, [], ◌∷◌, ◌++◌}
use Rattle.std.specs.List.{AllByRecursion}
use Rattle.std.specs.Option.{option_map}
use Rattle.wt_span.specs.Items.{Item, items, call_of_origin}
use Rattle.wt_inline.specs.declared.loose.Loose.{Loose}
use Rattle.wt_inline.specs.declared.run.Run.{Run}
use Rattle.wt_inline.specs.declared.children.Children.{Children}
use Rattle.wt_inline.specs.ItemTree.{ItemTree}
use Rattle.wt_inline.specs.View.{item_trees}
use Rattle.wt_inline.specs.Parts.{Part, one_leaf, part, parts, children}

pub record OpenRun : Type 0 where
  pub loose : Loose
  pub call : Option ℕ
  pub items : List Item

pub record Grown : Type 0 where
  pub trees : List ItemTree
  pub run : Option OpenRun

abbrev pub open_run : Run → OpenRun
open_run r = record { loose = r.loose; call = call_of_origin r.origin; items = items r.pieces }

abbrev pub open_parts : Option OpenRun → List Part
open_parts None = []
open_parts (Some r) = parts r.loose r.items

abbrev pub growth : Children → Grown
growth c = record { trees = item_trees c.trees; run = option_map open_run c.run }

-- the children where these parts come next
abbrev pub made : Grown → List Part → List ItemTree
made g ps = g.trees ++ children (open_parts g.run ++ ps)

-- the first with these parts after it is the second
abbrev pub Grows : Grown → List Part → Grown → Type 0
Grows g added h = (ps : List Part) → made h ps ≡ made g (added ++ ps)

-- none of the run makes one leaf with the first of these
abbrev pub IsStopped : Option OpenRun → List Part → Type 0
IsStopped None ps = Unit {0}
IsStopped (Some r) [] = Unit {0}
IsStopped (Some r) (p ∷ ps) = AllByRecursion (λ x. one_leaf (part r.loose x) p ≡ false) r.items

-- these trees are what is made where the run stops
abbrev pub Ends : Grown → List ItemTree → Type 0
Ends g ts = (ps : List Part) → IsStopped g.run ps → ts ++ children ps ≡ made g ps
