-- Widths of pieces, and what a leaf of pieces holds.
use Rattle.std.proofs.Common.{◌≡◌, ℕ, ◌+◌, ◌^◌, ◌<◌, ◌≤◌, List, ◌++◌, length, take, drop, get_or, sym, ap, ◌∙◌, arith}
use Rattle.std.proofs.lemmas.List.{take_more, take-append-drop}
use Rattle.wt_span.specs.declared.form.Piece.{Piece}
use Rattle.wt_span.specs.Slice.{bytes_of}
use Rattle.wt_span.specs.Items.{items_of, items}
use Rattle.wt_inline.specs.declared.tree.PieceTree.{PieceTree, out-PieceTree}
use Rattle.wt_inline.specs.ItemTree.{ItemTree, forest, tree_items, held_by_all}
use Rattle.wt_inline.specs.View.{item_tree, item_trees}
use Rattle.wt_annotated.specs.Labels.{width}
use Rattle.wt_annotated.proofs.HeldPieces.{item_tree_out, sources_piece}
use Rattle.wt_annotated.proofs.PieceWalks.{items_append, items_more}
use Rattle.wt_annotated.proofs.Widths.{width_append}

-- one more piece of several
pub width_step : (ps : List Piece) (at w n : ℕ) (p : Piece) → at < length ps → p ≡ get_or ps at p → w ≡ width (items (take at ps))
    → n ≡ length (bytes_of p.text) → w + n ≡ width (items (take (at + 1) ps))
width_step ps at w n p l i e f =
    let more : width (items (take (at + 1) ps)) ≡ width (items (take at ps)) + width (items_of (get_or ps at p)) =
    ap (λ qs. width (items qs)) (take_more ps at p l) ∙ ap width (items_more (take at ps) (get_or ps at p))
    ∙ width_append (items (take at ps)) (items_of (get_or ps at p)) in
    let one : width (items_of (get_or ps at p)) ≡ length (bytes_of p.text) = ap (λ q. width (items_of q)) (sym i) ∙ ap length (sources_piece p) in
    omega (arith, more, one, e, f)

-- so many pieces are no wider than all
pub width_front : (ps : List Piece) (n : ℕ) → width (items (take n ps)) ≤ width (items ps)
width_front ps n =
    let e : width (items (take n ps)) + width (items (drop n ps)) ≡ width (items ps) =
    sym (width_append (items (take n ps)) (items (drop n ps))) ∙ ap width (sym (items_append (take n ps) (drop n ps)))
    ∙ ap (λ qs. width (items qs)) (take-append-drop n ps) in
    omega (arith, e)

pub own_held : (n : PieceTree) (own : List Piece)
    → items own ≡ items (out-PieceTree n).opening
    ++ (held_by_all (forest (item_trees (out-PieceTree n).children)) ++ items (out-PieceTree n).closing)
    → items own ≡ tree_items (item_tree n)
own_held n own e = e ∙ sym (ap tree_items (item_tree_out n))

pub own_fits : (at w : ℕ) (own rs : List Piece) (t : ItemTree) → items own ≡ tree_items t → rs ≡ own → w ≡ width (items rs)
    → at + width (tree_items t) < 2 ^ 32 → at + w < 2 ^ 32
own_fits at w own rs t e i f h =
    let same : w ≡ width (tree_items t) = f ∙ ap (λ ps. width (items ps)) i ∙ ap width e in
    omega (arith, same, h)
