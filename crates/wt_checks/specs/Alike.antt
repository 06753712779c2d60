-- Whether two nodes have the same kind, attributes and data. The comparisons of kinds and data are the
-- derived ones; the law `comparisons` says of each that it decides whether the two are one.
use Rattle.std.specs.Prelude.{ℕ, ◌==◌, ◌&&◌, Bool, true, false, Option, List, [], ◌∷◌}
use Rattle.std.specs.Option.{option_eq}
use Rattle.std.specs.Str.{bytes_eq}
use Rattle.wt_tree.specs.declared.kind.Kind.{Kind}
use Rattle.wt_tree.specs.declared.kind.AttrName.{AttrName}
use Rattle.wt_tree.specs.declared.node.DataMw.{DataMw}
use Rattle.wt_tree.specs.contracts.kind.KindPartialEq.TheImpl.{eq-value as kind_eq}
use Rattle.wt_tree.specs.contracts.node.DataMwPartialEq.TheImpl.{eq-value as data_eq}
use Rattle.wt_tree.specs.Kinds.{order}

unfoldable pub same_kind : Kind → Kind → Bool
same_kind a b = kind_eq.it a b

-- attributes by their names and values; both lists are in the order of `AttrName`
abbrev pub same_attrs : List (AttrName × List ℕ) → List (AttrName × List ℕ) → Bool
same_attrs [] [] = true
same_attrs [] (b ∷ ys) = false
same_attrs (a ∷ xs) [] = false
same_attrs (a ∷ xs) (b ∷ ys) = (order a.0 == order b.0) && (bytes_eq a.1 b.1 && same_attrs xs ys)

-- `data-mw` as a value
unfoldable pub same_data : Option DataMw → Option DataMw → Bool
same_data a b = option_eq data_eq.it a b
