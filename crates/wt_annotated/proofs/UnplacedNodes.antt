-- Nodes of groups, as they are made.
use Rattle.std.proofs.Common.{◌≡◌, ℕ, Bool, true, false, List, [], ◌∷◌, ◌++◌, None, map, refl, sym, ap, ◌∙◌, length, arith, append-nil}
use Rattle.wt_tree.specs.Kinds.{is_leaf}
use Rattle.wt_tree.specs.Tree.{Tree, tree, Trees, none, more, trees}
use Rattle.wt_tree.specs.View.{texts_of, view, views}
use Rattle.wt_tree.specs.declared.node.Node.{Node}
use Rattle.wt_span.specs.declared.form.Piece.{Piece}
use Rattle.wt_span.specs.declared.text.Text.{Text}
use Rattle.wt_span.specs.Items.{Item, items, sources}
use Rattle.wt_inline.specs.ItemTree.{Head, inner, ItemTrees, forest, tree_items}
use Rattle.wt_inline.specs.View.{head_of, item_tree, item_trees}
use Rattle.wt_inline.specs.declared.tree.PieceTree.{PieceTree, out-PieceTree}
use Rattle.wt_annotated.specs.Labels.{label_at}
use Rattle.wt_annotated.specs.WithoutCalls.{inside_by}
use Rattle.wt_annotated.specs.declared.node.Sources.{Sources}
use Rattle.wt_annotated.specs.Annotated.{no_place, unplaced, all_unplaced}
use Rattle.wt_annotated.specs.Nodes.{node_label}
use Rattle.wt_annotated.proofs.HeldPieces.{item_tree_out}

leaf_by : (is : Bool) (h : Head) (o own c : List Item) (us : Trees) → is ≡ true
    → tree (no_place (label_at 0 0 is h o own c)) (inside_by is us) ≡ tree (node_label h None [] [] (sources own)) none
unfolding label_at
leaf_by true h o own c us e = refl
leaf_by false h o own c us e = cc

inner_by : (is : Bool) (h : Head) (o own c : List Item) (us : Trees) → is ≡ false
    → tree (no_place (label_at 0 0 is h o own c)) (inside_by is us) ≡ tree (node_label h None (sources o) (sources c) []) us
unfolding label_at
inner_by true h o own c us e = cc
inner_by false h o own c us e = refl

abbrev made : Head → Sources → List Node → Tree
made h s ns = tree (node_label h None (texts_of s.opening) (texts_of s.closing) (texts_of s.own)) (views ns)

pub leaf_unplaced : (n : PieceTree) (u : Tree) (s : Sources) (own : List Text) (ps qs : List Piece) (ns : List Node)
    → is_leaf (out-PieceTree n).head.kind ≡ true
    → u ≡ tree (node_label (head_of (out-PieceTree n).head) None (texts_of s.opening) (texts_of s.closing) (texts_of s.own)) (views ns)
    → s ≡ record { opening = []; closing = []; own = own } → ns ≡ []
    → texts_of own ≡ sources (items qs) → qs ≡ ps → items ps ≡ tree_items (item_tree n) → u ≡ unplaced (item_tree n)
leaf_unplaced n u s own ps qs ns e f g m t i h =
    let k : Head = head_of (out-PieceTree n).head in
    let o : List Item = items (out-PieceTree n).opening in
    let c : List Item = items (out-PieceTree n).closing in
    let ts : ItemTrees = forest (item_trees (out-PieceTree n).children) in
    let w : texts_of own ≡ sources (tree_items (inner k o ts c)) = t ∙ ap (λ xs. sources (items xs)) i ∙ ap sources (h ∙ ap tree_items (item_tree_out n)) in
    f
    ∙ ap (λ (x : Sources). made k x ns) g
    ∙ ap (λ (x : List Node). tree (node_label k None [] [] (texts_of own)) (views x)) m
    ∙ ap (λ (x : List ℕ). tree (node_label k None [] [] x) none) w
    ∙ sym (leaf_by (is_leaf k.kind) k o (tree_items (inner k o ts c)) c (all_unplaced ts) e)
    ∙ sym (ap unplaced (item_tree_out n))

pub inner_unplaced : (n : PieceTree) (u : Tree) (us : Trees) (os cs : List Piece) → is_leaf (out-PieceTree n).head.kind ≡ false
    → u ≡ tree (node_label (head_of (out-PieceTree n).head) None (sources (items os)) (sources (items cs)) []) us → os ≡ (out-PieceTree n).opening
    → cs ≡ (out-PieceTree n).closing → us ≡ all_unplaced (forest (item_trees (out-PieceTree n).children)) → u ≡ unplaced (item_tree n)
inner_unplaced n u us os cs e f p q m =
    let k : Head = head_of (out-PieceTree n).head in
    let o : List Item = items (out-PieceTree n).opening in
    let c : List Item = items (out-PieceTree n).closing in
    let ts : ItemTrees = forest (item_trees (out-PieceTree n).children) in
    f
    ∙ ap (λ (x : List Piece). tree (node_label k None (sources (items x)) (sources (items cs)) []) us) p
    ∙ ap (λ (x : List Piece). tree (node_label k None (sources o) (sources (items x)) []) us) q
    ∙ ap (tree (node_label k None (sources o) (sources c) [])) m
    ∙ sym (inner_by (is_leaf k.kind) k o (tree_items (inner k o ts c)) c (all_unplaced ts) e)
    ∙ sym (ap unplaced (item_tree_out n))

-- the nodes of a list
unplaced_list : (ns : List PieceTree) → all_unplaced (forest (item_trees ns)) ≡ trees (map (λ n. unplaced (item_tree n)) ns)
unplaced_list [] = refl
unplaced_list (n ∷ ns) = ap (more (unplaced (item_tree n))) (unplaced_list ns)

none_left : (rs : List PieceTree) → length rs ≡ 0 → rs ≡ []
none_left [] e = refl
none_left (r ∷ rs) e = absurd (omega (arith, e))

pub all_unplaced_done : (ms : List Node) (rs ys bs : List PieceTree)
    → map view ms ++ map (λ n. unplaced (item_tree n)) rs ≡ map (λ n. unplaced (item_tree n)) ys → length rs ≡ 0 → ys ≡ bs
    → views ms ≡ all_unplaced (forest (item_trees bs))
all_unplaced_done ms rs ys bs h z e =
    ap trees (sym (append-nil (map view ms)) ∙ ap (λ xs. map view ms ++ map (λ n. unplaced (item_tree n)) xs) (sym (none_left rs z)) ∙ h)
    ∙ sym (unplaced_list ys) ∙ ap (λ xs. all_unplaced (forest (item_trees xs))) e
