-- Nodes that are kept.
use Rattle.std.proofs.Common.{◌≡◌, ℕ, ◌+◌, ◌-◌, Bool, true, false, Option, Some, List, [], ◌++◌, length, refl, sym, ap, ◌∙◌, arith, length-append}
use Rattle.wt_tree.specs.declared.kind.Ranges.{Ranges}
use Rattle.wt_tree.specs.declared.node.Node.{Node}
use Rattle.wt_tree.specs.Kinds.{is_leaf}
use Rattle.wt_tree.specs.Tree.{Tree, tree, Trees, none, trees}
use Rattle.wt_tree.specs.View.{texts_of, views}
use Rattle.wt_span.specs.declared.form.Piece.{Piece}
use Rattle.wt_span.specs.declared.text.Text.{Text}
use Rattle.wt_span.specs.Items.{Item, items}
use Rattle.wt_span.specs.Origins.{OuterCall}
use Rattle.wt_inline.specs.ItemTree.{Head, ItemTree, inner, ItemTrees, forest, tree_items, held_by_all}
use Rattle.wt_inline.specs.View.{head_of, item_tree, item_trees}
use Rattle.wt_inline.specs.declared.tree.PieceTree.{PieceTree, out-PieceTree}
use Rattle.wt_annotated.specs.Labels.{leaf_open}
use Rattle.wt_annotated.specs.WithoutCalls.{inside_by}
use Rattle.wt_runs.specs.declared.child.Child.{Child}
use Rattle.wt_ranges.specs.declared.kept.Frame.{Frame}
use Rattle.wt_annotated.specs.declared.node.Sources.{Sources}
use Rattle.wt_annotated.specs.declared.tree_walk.TreeProgress.{TreeProgress}
use Rattle.wt_annotated.specs.Annotated.{kept_label}
use Rattle.wt_runs.specs.Children.{near_of, children_at}
use Rattle.wt_annotated.specs.GroupData.{group_data}
use Rattle.wt_ranges.specs.Kept.{frame_ranges, IsFrame}
use Rattle.wt_annotated.specs.Nodes.{node_label}
use Rattle.wt_annotated.specs.Seams.{first_of, last_of, text_from}
use Rattle.wt_annotated.specs.TreeWalk.{opened, filled, HasLasts, HasWidths}
use Rattle.wt_annotated.specs.Walked.{near_runs, walked}
use Rattle.wt_annotated.proofs.HeldPieces.{item_tree_out}
use Rattle.wt_annotated.proofs.Seams.{text_append_from}

-- ---- leaves

abbrev leaf_label : Head → ℕ → List ℕ → Tree
leaf_label h at source = tree (node_label h (Some (record { start = at; end = at + length source; open_w = leaf_open h.kind (length source); close_w = 0 }))
    [] [] source) none

leaf_by : (is : Bool) (h : Head) (at : ℕ) (source opening closing : List ℕ) (us : Trees) → is ≡ true
    → tree (kept_label is h at source opening closing) (inside_by is us) ≡ leaf_label h at source
leaf_by true h at source opening closing us e = refl
leaf_by false h at source opening closing us e = cc

pub leaf_kept : (calls : List OuterCall) (c : Child) (u : Tree) (s : Sources) (own : List Text) (ps qs : List Piece) (ns : List Node) (r : Ranges) (w : ℕ)
    → is_leaf (out-PieceTree c.tree).head.kind ≡ true
    → u ≡ tree (node_label (head_of (out-PieceTree c.tree).head) (Some r) (texts_of s.opening) (texts_of s.closing) (texts_of s.own)) (views ns)
    → s ≡ record { opening = []; closing = []; own = own } → ns ≡ []
    → texts_of own ≡ text_from calls c.before (items qs) → items qs ≡ items ps → items ps ≡ tree_items (item_tree c.tree)
    → w ≡ length (text_from calls c.before (tree_items (item_tree c.tree)))
    → r ≡ record { start = c.byte; end = c.byte + w; open_w = leaf_open (out-PieceTree c.tree).head.kind w; close_w = 0 } → u ≡ (near_of calls c).whole
leaf_kept calls c u s own ps qs ns r w e f g m t i h x y =
    let n : PieceTree = c.tree in
    let k : Head = head_of (out-PieceTree n).head in
    let o : List Item = items (out-PieceTree n).opening in
    let d : List Item = items (out-PieceTree n).closing in
    let ts : ItemTrees = forest (item_trees (out-PieceTree n).children) in
    let all : tree_items (item_tree n) ≡ tree_items (inner k o ts d) = ap tree_items (item_tree_out n) in
    let source : List ℕ = text_from calls c.before (tree_items (inner k o ts d)) in
    let own_is : texts_of own ≡ source = t ∙ ap (text_from calls c.before) (i ∙ h ∙ all) in
    let w_is : w ≡ length source = x ∙ ap (λ xs. length (text_from calls c.before xs)) all in
    f
    ∙ ap (λ (v : Sources). tree (node_label k (Some r) (texts_of v.opening) (texts_of v.closing) (texts_of v.own)) (views ns)) g
    ∙ ap (λ (v : List Node). tree (node_label k (Some r) [] [] (texts_of own)) (views v)) m
    ∙ ap (λ (v : List ℕ). tree (node_label k (Some r) [] [] v) none) own_is
    ∙ ap (λ (v : Ranges). tree (node_label k (Some v) [] [] source) none) y
    ∙ ap (λ (v : ℕ). tree (node_label k (Some (record { start = c.byte; end = c.byte + v; open_w = leaf_open k.kind v; close_w = 0 })) [] [] source) none)
    w_is
    ∙ sym (leaf_by (is_leaf k.kind) k c.byte source (text_from calls c.before o) (text_from calls (last_of (last_of c.before o) (held_by_all ts)) d)
    (trees (near_runs calls (group_data calls)
    (children_at calls (last_of c.before o) (c.byte + length (text_from calls c.before o)) (first_of d c.after)
    (item_trees (out-PieceTree n).children)))) e)
    ∙ sym (ap (walked calls (group_data calls) c.before c.byte c.after) (item_tree_out n))

-- ---- other nodes

-- a frame by a walk through the node
pub frame_is : (calls : List OuterCall) (c : Child) (w : TreeProgress) (r : Ranges) (s : Sources) (a : Option ℕ) → HasLasts c.before c.tree w
    → HasWidths calls c.before c.tree w
    → r ≡ record { start = c.byte; end = c.byte + w.closed.width; open_w = w.opened.width; close_w = w.closed.width - w.filled.width }
    → texts_of s.opening ≡ text_from calls c.before (items (out-PieceTree c.tree).opening)
    → texts_of s.closing ≡ text_from calls w.filled.last (items (out-PieceTree c.tree).closing) → texts_of s.own ≡ []
    → a ≡ first_of (items (out-PieceTree c.tree).closing) c.after
    → IsFrame calls c (record { ranges = r; sources = s; before = w.opened.last; byte = c.byte + w.opened.width; after = a })
frame_is calls c w r s a h g e opening closing own after =
    let is : ℕ → ℕ → ℕ → Ranges = λ x y z. record { start = c.byte; end = c.byte + x; open_w = y; close_w = z } in
    let front : ℕ = length (text_from calls c.before (items (out-PieceTree c.tree).opening)) in
    let whole : ℕ = length (text_from calls c.before (tree_items (item_tree c.tree))) in
    let back : w.closed.width - w.filled.width ≡ length (text_from calls (filled c.before c.tree) (items (out-PieceTree c.tree).closing)) =
    omega (arith, g.closing) in
    record {
      ranges =
          e
          ∙ ap (λ (n : ℕ). is n w.opened.width (w.closed.width - w.filled.width)) g.whole
          ∙ ap (λ (n : ℕ). is whole n (w.closed.width - w.filled.width)) g.opening
          ∙ ap (λ (n : ℕ). is whole front n) back;
      opening = opening;
      closing = closing ∙ ap (λ (o : Option ℕ). text_from calls o (items (out-PieceTree c.tree).closing)) h.filled;
      own = own;
      before = h.opened;
      byte = ap (λ (n : ℕ). c.byte + n) g.opening;
      after = after;
    }

inner_by : (is : Bool) (h : Head) (at : ℕ) (source opening closing : List ℕ) (us : Trees) → is ≡ false
    → tree (kept_label is h at source opening closing) (inside_by is us)
    ≡ tree (node_label h (Some (record { start = at; end = at + length source; open_w = length opening; close_w = length closing })) opening closing [])
    us
inner_by true h at source opening closing us e = cc
inner_by false h at source opening closing us e = refl

pub inner_kept : (calls : List OuterCall) (c : Child) (f : Frame) (vs : Trees) (u : Tree) → is_leaf (out-PieceTree c.tree).head.kind ≡ false
    → IsFrame calls c f
    → u ≡ tree (node_label (head_of (out-PieceTree c.tree).head) (Some f.ranges) (texts_of f.sources.opening) (texts_of f.sources.closing)
    (texts_of f.sources.own)) vs
    → vs ≡ trees (near_runs calls (group_data calls) (children_at calls f.before f.byte f.after (item_trees (out-PieceTree c.tree).children)))
    → u ≡ (near_of calls c).whole
inner_kept calls c f vs u e g h v =
    let n : PieceTree = c.tree in
    let k : Head = head_of (out-PieceTree n).head in
    let o : List Item = items (out-PieceTree n).opening in
    let d : List Item = items (out-PieceTree n).closing in
    let ts : ItemTrees = forest (item_trees (out-PieceTree n).children) in
    let front : List ℕ = text_from calls c.before o in
    let back : List ℕ = text_from calls (filled c.before n) d in
    let us : Option ℕ → ℕ → Option ℕ
    → Trees = λ b at a. trees (near_runs calls (group_data calls) (children_at calls b at a (item_trees (out-PieceTree n).children))) in
    let inside : vs ≡ us (opened c.before n) (c.byte + length front) (first_of d c.after) = v ∙ ap (λ b. us b f.byte f.after) g.before
    ∙ ap (λ at. us (opened c.before n) at f.after) g.byte ∙ ap (λ a. us (opened c.before n) (c.byte + length front) a) g.after in
    let source : List ℕ = text_from calls c.before (tree_items (inner k o ts d)) in
    let r : frame_ranges calls c ≡ record { start = c.byte; end = c.byte + length source; open_w = length front; close_w = length back } =
    ap (λ (x : ItemTree). record {
      start = c.byte;
      end = c.byte + length
          (text_from calls c.before (tree_items x));
      open_w = length front;
      close_w = length back;
    })
    (item_tree_out n) in
    h
    ∙ ap (λ (x : Ranges). tree (node_label k (Some x) (texts_of f.sources.opening) (texts_of f.sources.closing) (texts_of f.sources.own)) vs)
    (g.ranges ∙ r)
    ∙ ap (λ (x : List ℕ). tree (node_label k (Some (record { start = c.byte; end = c.byte + length source; open_w = length front; close_w = length back })) x
    (texts_of f.sources.closing) (texts_of f.sources.own)) vs) g.opening
    ∙ ap (λ (x : List ℕ). tree (node_label k (Some (record { start = c.byte; end = c.byte + length source; open_w = length front; close_w = length back }))
    front x (texts_of f.sources.own)) vs) g.closing
    ∙ ap (λ (x : List ℕ). tree (node_label k (Some (record { start = c.byte; end = c.byte + length source; open_w = length front; close_w = length back }))
    front back x) vs) g.own
    ∙ ap (tree (node_label k (Some (record { start = c.byte; end = c.byte + length source; open_w = length front; close_w = length back })) front back []))
    inside
    ∙ sym (inner_by (is_leaf k.kind) k c.byte source front back (us (opened c.before n) (c.byte + length front) (first_of d c.after)) e)
    ∙ sym (ap (walked calls (group_data calls) c.before c.byte c.after) (item_tree_out n))

-- ---- widths

-- the opening, the inside and the closing of a tree take no more bytes than all of it
pub parts_fit : (calls : List OuterCall) (o : Option ℕ) (n : PieceTree) → length (text_from calls o (items (out-PieceTree n).opening))
    + (length (text_from calls (opened o n) (held_by_all (forest (item_trees (out-PieceTree n).children))))
    + length (text_from calls (filled o n) (items (out-PieceTree n).closing))) ≡ length (text_from calls o (tree_items (item_tree n)))
parts_fit calls o n =
    let a : List Item = items (out-PieceTree n).opening in
    let i : List Item = held_by_all (forest (item_trees (out-PieceTree n).children)) in
    let d : List Item = items (out-PieceTree n).closing in
    let e : text_from calls o (tree_items (item_tree n))
    ≡ text_from calls o a ++ (text_from calls (last_of o a) i ++ text_from calls (last_of (last_of o a) i) d) =
    ap (λ t. text_from calls o (tree_items t)) (item_tree_out n) ∙ text_append_from calls o a (i ++ d)
    ∙ ap (λ bs. text_from calls o a ++ bs) (text_append_from calls (last_of o a) i d) in
    omega (
      arith,
      ap length e,
      length-append (text_from calls o a) (text_from calls (last_of o a) i ++ text_from calls (last_of (last_of o a) i) d),
      length-append (text_from calls (last_of o a) i) (text_from calls (last_of (last_of o a) i) d),
    )
