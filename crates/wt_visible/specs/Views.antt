-- What the code's own types stand for.
use Rattle.std.specs.Prelude.{◌≡◌, List, map}
use Rattle.wt_tree.specs.Plain.{Plain, Plains, text, element, face, plains_before, text_before, ended}
use Rattle.wt_tree.specs.Tree.{Trees}
use Rattle.wt_tree.specs.View.{views, label_of}
use Rattle.wt_checks.specs.View.{indexed}
use Rattle.wt_tree.specs.declared.node.Node.{out-Node}
use Rattle.wt_visible.specs.declared.children.Child.{Child}
use Rattle.wt_visible.specs.declared.children.Child.TheVariants as child
use Rattle.wt_visible.specs.declared.shown_node.ShownNode.{ShownNode}
use Rattle.wt_visible.specs.declared.children.ShownSoFar.{ShownSoFar}
use Rattle.wt_visible.specs.Children.{followed}
use Rattle.wt_visible.specs.Restored.{all_restored}

-- what a node that is shown as an element holds, where its groups are restored
abbrev pub held_view : ShownNode → Trees
held_view s = all_restored (indexed s.page.now) (views (out-Node s.node.now).children)

-- an element, and a child of a body, as it is shown
abbrev pub node_view : ShownNode → Plain
node_view s = element (face (label_of (out-Node s.node.now))) (plains_before (held_view s) ended)

abbrev pub child_view : Child → Plain
child_view (child.Element s) = node_view s
child_view (child.Text bs) = text bs.items

abbrev pub children_view : List Child → List Plain
children_view cs = map child_view cs

-- what the children so far are before what follows
abbrev pub so_far : ShownSoFar → Plains → Plains
so_far s rest = followed (children_view s.done.items) (text_before s.text.items rest)

-- what is added to them, by what it is before what follows
abbrev pub Adds : ShownSoFar → ShownSoFar → (Plains → Plains) → Type 0
Adds a b f = (rest : Plains) → so_far b rest ≡ so_far a (f rest)
