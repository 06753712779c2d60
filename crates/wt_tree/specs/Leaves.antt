-- Leaves that are texts and separators.
use Rattle.std.specs.Prelude.{ℕ, Option, None, List, []}
use Rattle.wt_tree.specs.declared.kind.Kind.{Kind}
use Rattle.wt_tree.specs.declared.kind.Kind.TheVariants as kind
use Rattle.wt_tree.specs.declared.kind.Mark.TheVariants as mark
use Rattle.wt_tree.specs.declared.kind.Ranges.{Ranges}
use Rattle.wt_tree.specs.Tree.{Label, Tree, tree, none}

-- a node with a source of its own and nothing else
abbrev pub leaf_label : Kind → Option Ranges → List ℕ → List ℕ → Label
leaf_label k r own shown =
    record { kind = k; id = 0; ranges = r; opening = []; closing = []; own = own; shown = shown; attrs = []; origin = None; mark = mark.Nothing; mw = None }

abbrev pub text_leaf : Option Ranges → List ℕ → Tree
text_leaf r own = tree (leaf_label kind.Text r own own) none

abbrev pub sep_leaf : Option Ranges → List ℕ → Tree
sep_leaf r own = tree (leaf_label kind.Sep r own []) none
