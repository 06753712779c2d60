-- A test of two nodes that can be computed: whether they are of one kind and have one plain view.
use Rattle.std.specs.Prelude.{ℕ, ◌==◌, ◌&&◌, Bool, true, false, List, map}
use Rattle.std.specs.Option.{option_eq}
use Rattle.std.specs.Cmp.Lexicographic.{pointwise}
use Rattle.wt_tree.specs.contracts.kind.KindPartialEq.TheImpl as kinds
use Rattle.wt_tree.specs.contracts.node.AttrPartialEq.TheImpl as attrs
use Rattle.wt_tree.specs.contracts.node.DataMwPartialEq.TheImpl as data_of
use Rattle.wt_tree.specs.declared.kind.AttrName.{AttrName}
use Rattle.wt_tree.specs.declared.node.Attr.{Attr}
use Rattle.wt_tree.specs.Plain.{Face}
use Rattle.wt_tree.specs.Stream.{Bracket, opens, closes, StreamToken, byte, bracket, signs}
use Rattle.wt_tree.specs.Tree.{Tree, label}

abbrev pub as_attr : AttrName × List ℕ → Attr
as_attr p = record { name = p.0; value = p.1 }

-- one kind, the same attributes and the same data
abbrev pub same_face : Face → Face → Bool
same_face f g =
    kinds.eq-value.it f.kind g.kind && (pointwise attrs.eq-value.it (map as_attr f.attrs) (map as_attr g.attrs) && option_eq data_of.eq-value.it f.mw g.mw)

abbrev pub same_bracket : Bracket → Bracket → Bool
same_bracket (opens f) (opens g) = same_face f g
same_bracket (opens f) closes = false
same_bracket closes (opens g) = false
same_bracket closes closes = true

abbrev pub same_sign : StreamToken → StreamToken → Bool
same_sign (byte a) (byte b) = a == b
same_sign (byte a) (bracket k) = false
same_sign (bracket j) (byte b) = false
same_sign (bracket j) (bracket k) = same_bracket j k

-- Plain views are compared as they are read from left to right.
unfoldable pub same_node : Tree → Tree → Bool
same_node t u = kinds.eq-value.it (label t).kind (label u).kind && pointwise same_sign (signs t) (signs u)
