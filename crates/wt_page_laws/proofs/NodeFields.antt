-- What a tree has of its node.
use Rattle.std.proofs.Common.{◌≡◌, ℕ, true, false, List, [], ◌++◌, None, map, ap, ◌∙◌, append_assoc}
use Rattle.wt_span.specs.declared.text.Text.{Text}
use Rattle.wt_tree.specs.Kinds.{is_leaf}
use Rattle.wt_tree.specs.Rare.{Rare, rare_none}
use Rattle.wt_tree.specs.Source.{flat, flat_of_all}
use Rattle.wt_tree.specs.Sourced.{Sourced, leaf_sourced, round_sourced}
use Rattle.wt_tree.specs.Tree.{Tree, label, listed}
use Rattle.wt_tree.specs.View.{view, views, texts_of, attrs_of}
use Rattle.wt_tree.specs.declared.node.Node.{Node, out-Node}
use Rattle.wt_tree.proofs.Views.{view_out, flat_leaf, flat_inner}
use Rattle.wt_page_laws.specs.Preorder.{children}
use Rattle.wt_page_laws.proofs.Rows.{lists_back}

pub children_of_node : (n : Node) → listed (children (view n)) ≡ map view (out-Node n).children
children_of_node n = ap (λ (t : Tree). listed (children t)) (view_out n) ∙ lists_back (map view (out-Node n).children)

pub kind_of_node : (n : Node) → (label (view n)).kind ≡ (out-Node n).kind
kind_of_node n = ap (λ (t : Tree). (label t).kind) (view_out n)

pub id_of_node : (n : Node) → (label (view n)).id ≡ (out-Node n).id
id_of_node n = ap (λ (t : Tree). (label t).id) (view_out n)

pub ranges_of_node : (n : Node) → (label (view n)).ranges ≡ (out-Node n).ranges
ranges_of_node n = ap (λ (t : Tree). (label t).ranges) (view_out n)

pub leaf_source : (n : Node) → (own : List Text) → (shown : List ℕ) → is_leaf (out-Node n).kind ≡ true → (out-Node n).source ≡ leaf_sourced own shown → flat (view n) ≡ texts_of own
leaf_source n own shown h e = flat_leaf n h ∙ ap (λ (s : Sourced). texts_of s.own) e

pub round_source : (n : Node) → (opening closing : List Text) → is_leaf (out-Node n).kind ≡ false → (out-Node n).source ≡ round_sourced opening closing
    → flat (view n) ≡ texts_of opening ++ (flat_of_all (views (out-Node n).children) ++ texts_of closing)
round_source n opening closing h e =
    flat_inner n h ∙ append_assoc (texts_of (out-Node n).source.opening) (flat_of_all (views (out-Node n).children)) (texts_of (out-Node n).source.closing)
    ∙ ap (λ (s : Sourced). texts_of s.opening ++ (flat_of_all (views (out-Node n).children) ++ texts_of s.closing)) e

pub no_attributes : (n : Node) → (out-Node n).more ≡ rare_none → (label (view n)).attrs ≡ []
no_attributes n e = ap (λ (t : Tree). (label t).attrs) (view_out n) ∙ ap (λ (m : Rare). attrs_of m.attrs) e

pub no_mark : (n : Node) → (out-Node n).more ≡ rare_none → (label (view n)).mark ≡ rare_none.mark
no_mark n e = ap (λ (t : Tree). (label t).mark) (view_out n) ∙ ap (λ (m : Rare). m.mark) e

pub no_data : (n : Node) → (out-Node n).more ≡ rare_none → (label (view n)).mw ≡ None
no_data n e = ap (λ (t : Tree). (label t).mw) (view_out n) ∙ ap (λ (m : Rare). m.mw) e
