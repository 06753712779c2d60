-- The source of a node that is no leaf, behind a text.
use Rattle.std.proofs.Common.{◌≡◌, ◌++◌, ℕ, false, List, ap, sym, ◌∙◌, append_assoc}
use Rattle.std.specs.List.{flat_map}
use Rattle.wt_span.specs.declared.text.Text.{Text}
use Rattle.wt_tree.specs.Kinds.{is_leaf}
use Rattle.wt_tree.specs.Source.{flat, flat_of_all}
use Rattle.wt_tree.specs.View.{texts_of, view, views}
use Rattle.wt_tree.specs.declared.node.Node.{Node, out-Node}
use Rattle.wt_tree.proofs.Views.{flat_inner, flat_views}

pub source_behind : (text : List ℕ) (n : Node) (opening closing : List Text) (held : List Node) → opening ≡ (out-Node n).source.opening → held ≡ (out-Node n).children
    → closing ≡ (out-Node n).source.closing → is_leaf (out-Node n).kind ≡ false
    → ((text ++ texts_of opening) ++ flat_map (λ m. flat (view m)) held) ++ texts_of closing ≡ text ++ flat (view n)
source_behind text n opening closing held o h c e =
    let inside = flat_map (λ m. flat (view m)) held in
    ap (λ s. s ++ texts_of closing) (append_assoc text (texts_of opening) inside)
    ∙ append_assoc text (texts_of opening ++ inside) (texts_of closing)
    ∙ ap (λ s. text ++ ((texts_of opening ++ s) ++ texts_of closing)) (sym (flat_views held))
    ∙ ap (λ os. text ++ ((texts_of os ++ flat_of_all (views held)) ++ texts_of closing)) o
    ∙ ap (λ ms. text ++ ((texts_of (out-Node n).source.opening ++ flat_of_all (views ms)) ++ texts_of closing)) h
    ∙ ap (λ cs. text ++ ((texts_of (out-Node n).source.opening ++ flat_of_all (views (out-Node n).children)) ++ texts_of cs)) c
    ∙ ap (λ s. text ++ s) (sym (flat_inner n e))
