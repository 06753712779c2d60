use Rattle.std.proofs.Common.{◌≡◌, ℕ, zero, suc, ◌+◌, ◌<◌, ◌≤◌, List, [], ◌∷◌, length, drop, get_or, sym, ap, ◌∙◌, arith}
use Rattle.std.proofs.lemmas.List.{drop_all}
use Rattle.wt_inline.specs.ItemTree.{forest, tree_items}
use Rattle.wt_inline.specs.View.{item_tree, item_trees}
use Rattle.wt_inline.specs.declared.tree.PieceTree.{PieceTree, out-PieceTree}
use Rattle.wt_annotated.specs.Pieces.{outer_calls}
use Rattle.wt_annotated.specs.Progress.{past}
use Rattle.wt_annotated.proofs.HeldPieces.{item_tree_out}
use Rattle.wt_annotated.proofs.Progresses.{closing_room, inside_room, opening_room, past_fits, past_more, past_none, tree_read}
use Rattle.wt_annotated.proofs.TreeWalks.{nodes_in, nodes_in_all, held_in_all, held_turn}
use Rattle.wt_annotated.proofs.tree_walk.+walking.Goals as goal

-- the children of a tree have fewer nodes
fewer_inside : (n : PieceTree) (ns : List PieceTree) → ns ≡ (out-PieceTree n).children
    → 1 + nodes_in_all (forest (item_trees ns)) < nodes_in (item_tree n)
fewer_inside n ns e =
    omega (arith, ap nodes_in (item_tree_out n), ap (λ (ms : List PieceTree). nodes_in_all (forest (item_trees ms))) e)

-- one of several trees has no more nodes than all
one_of_all : (ns : List PieceTree) (i : ℕ) (child : PieceTree) → i < length ns → child ≡ get_or ns i child
    → nodes_in (item_tree child) ≤ nodes_in_all (forest (item_trees ns))
one_of_all [] i child l e = absurd (omega (arith, l))
one_of_all (n ∷ ns) zero child l e = omega (arith, ap (λ (m : PieceTree). nodes_in (item_tree m)) e)
one_of_all (n ∷ ns) (suc i) child l e = omega (arith, one_of_all ns i child (omega (arith, l)) e)

pub past_tree-past_pieces-opened-requires : goal.past_tree-past_pieces-opened-requires
past_tree-past_pieces-opened-requires t c =
    opening_room (outer_calls c.args.calls.now) c.args.from c.args.tree.now c.as_slice.result.now c.as_slice.ensures c.requires

pub past_tree-past_trees-filled-requires : goal.past_tree-past_trees-filled-requires
past_tree-past_trees-filled-requires t c = (
  omega (arith, fewer_inside c.args.tree.now c.as_slice-2.result.now c.as_slice-2.ensures),
  inside_room (outer_calls c.args.calls.now) c.args.from c.past_pieces-opened.result c.args.tree.now c.as_slice.result.now c.as_slice-2.result.now
      c.as_slice.ensures c.as_slice-2.ensures c.past_pieces-opened.ensures c.requires,
)

pub past_tree-past_pieces-requires : goal.past_tree-past_pieces-requires
past_tree-past_pieces-requires t c =
    closing_room (outer_calls c.args.calls.now) c.args.from c.past_pieces-opened.result c.past_trees-filled.result c.args.tree.now c.as_slice.result.now
    c.as_slice-3.result.now c.as_slice-2.result.now c.as_slice.ensures c.as_slice-2.ensures c.as_slice-3.ensures c.past_pieces-opened.ensures
    c.past_trees-filled.ensures c.requires

pub past_tree-returns : goal.past_tree-returns
past_tree-returns t c =
    tree_read (outer_calls c.args.calls.now) c.args.from c.past_pieces-opened.result c.past_trees-filled.result c.past_pieces.result c.args.tree.now
    c.as_slice.result.now c.as_slice-3.result.now c.as_slice-2.result.now c.as_slice.ensures c.as_slice-2.ensures c.as_slice-3.ensures
    c.past_pieces-opened.ensures c.past_trees-filled.ensures c.past_pieces.ensures

pub past_trees-past_tree-at-requires : goal.past_trees-past_tree-at-requires
past_trees-past_tree-at-requires t c =
    let ns = c.args.trees.now in
    let i = c.loop-tree.tree-index in
    let n = c.tree-item.result in (
      omega (arith, one_of_all ns i n c.loop-tree-test.true c.tree-item.is),
      past_fits (outer_calls c.args.calls.now) c.loop-tree.at c.args.from (held_in_all (drop i ns)) (tree_items (item_tree n))
          (held_in_all (drop (i + 1) ns)) (held_in_all ns) (held_turn ns i n c.loop-tree-test.true c.tree-item.is) c.loop-tree.invariant c.requires,
    )

pub past_trees-loop-tree-preserved : goal.past_trees-loop-tree-preserved
past_trees-loop-tree-preserved t c =
    let ns = c.args.trees.now in
    let i = c.loop-tree.tree-index in
    let n = c.tree-item.result in
    past_more (outer_calls c.args.calls.now) c.loop-tree.at c.args.from c.past_tree-at.result (held_in_all (drop i ns)) (tree_items (item_tree n))
    (held_in_all (drop (i + 1) ns)) (held_in_all ns) (held_turn ns i n c.loop-tree-test.true c.tree-item.is) c.loop-tree.invariant c.past_tree-at.ensures

pub past_trees-returns : goal.past_trees-returns
past_trees-returns t c =
    let ns = c.args.trees.now in
    let calls = outer_calls c.args.calls.now in
    sym (past_none calls c.loop-tree.at)
    ∙ ap (λ ms. past calls c.loop-tree.at (held_in_all ms)) (sym (drop_all c.loop-tree.tree-index ns c.loop-tree-test.false))
    ∙ c.loop-tree.invariant
