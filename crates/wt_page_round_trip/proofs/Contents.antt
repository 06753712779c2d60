-- Items and cells: a line with what stands behind it, or blocks alone.
use Rattle.std.proofs.Common.{◌≡◌, ℕ, suc, ◌<◌, false, List, [], ◌∷◌, ◌++◌, take, drop, sym, subst, arith}
use Rattle.std.specs.List.{AllByRecursion}
use Rattle.wt_span.specs.Items.{Item}
use Rattle.wt_tree.specs.declared.kind.AttrName.{AttrName}
use Rattle.wt_tree.specs.declared.kind.Kind.{Kind}
use Rattle.wt_tree.specs.declared.row.Texts.TheVariants.{Bordered}
use Rattle.wt_tree.specs.Kinds.{texts_of_kind}
use Rattle.wt_inline.specs.ItemTree.{plain, forest}
use Rattle.wt_inline.specs.Parts.{Part, children}
use Rattle.wt_context.specs.Line.{line_parts}
use Rattle.wt_annotated.specs.Annotated.{all_unplaced}
use Rattle.wt_page.specs.Stretches.{Stretch, block, stretches_parts, front_len, past_front, block_len, before_end, tree_block, node_of, opened_by, enclosed}
use Rattle.wt_page_round_trip.proofs.InlineNodes.{with_attrs}
use Rattle.wt_page_round_trip.proofs.OfPage.{ArePageItems}
use Rattle.wt_page_round_trip.proofs.PageLines.{all_both, all_taken, all_dropped}
use Rattle.wt_page_round_trip.proofs.PageNodes.{parts_both, children_nodes}
use Rattle.wt_page_round_trip.proofs.Parts.{IsShownPart, children_shown}
use Rattle.wt_page_round_trip.proofs.ShownNodes.{IsOrdered}
use Rattle.wt_page_round_trip.proofs.WrittenParts.{FitsIn, no_parts}
use Rattle.wt_page_round_trip.proofs.Inline.{IsInlineParent}
use Rattle.wt_page_round_trip.proofs.ContextParts.{line_fits}
use Rattle.wt_page_round_trip.proofs.Separated.{goes_first, IsNodeIn, IsPartIn, TakesSeparators, separated_parts, separated_shown}
use Rattle.wt_page_round_trip.proofs.Boxes.{IsInside, IsRound, IsBox, box_written}
use Rattle.wt_page_round_trip.proofs.Stretched.{StandsIn, IsPlaced, ArePlaced, placed_parts, block_first, gaps_behind, enclosed_placed}
use Rattle.wt_page_round_trip.proofs.Bordered.{IsLinePart, line_ordered}
use Rattle.wt_page_round_trip.proofs.Unbroken.{line_is}

-- an item, a cell or a caption
pub record IsBordered (q : Kind) : Type 0 where
  pub round : IsRound q
  pub texts : texts_of_kind q ≡ Bordered
  pub takes : TakesSeparators q
  pub parent : IsInlineParent q
  pub block : goes_first q ≡ false

-- ---- what stands in them

-- parts that fit on a line, and others behind it
both_inside : (k : ℕ) (q : Kind) → IsBordered q → (ps qs : List Part) → FitsIn k ps → AllByRecursion IsLinePart ps
    → AllByRecursion (IsPartIn k q) qs → IsInside k q (forest (children (ps ++ qs)))
both_inside k q b ps qs f l a =
    let parts = parts_both [] ps qs f.parts (separated_parts k q qs a) in
    let shown : AllByRecursion (IsShownPart k q) (ps ++ qs) =
    all_both (IsShownPart k q) ps qs (f.shown k q (omega arith) b.parent) (separated_shown k q b.takes qs a) in (
      children_nodes (ps ++ qs) parts,
      subst (λ x. IsOrdered x (all_unplaced (forest (children (ps ++ qs))))) (sym b.texts) (line_ordered k q ps qs l a),
      children_shown k q (ps ++ qs) parts shown,
    )

pub line_inside : (k : ℕ) (q : Kind) → IsBordered q → k < 142 → (xs : List Item) → ArePageItems xs → (qs : List Part)
    → AllByRecursion (IsPartIn k q) qs → IsInside k q (forest (children (line_parts xs ++ qs)))
line_inside k q b small xs h qs a = both_inside k q b (line_parts xs) qs (line_fits k small xs h) (line_is xs h.page) a

-- blocks alone
blocks_inside : (k : ℕ) (q : Kind) → IsBordered q → (qs : List Part) → AllByRecursion (IsPartIn k q) qs → IsInside k q (forest (children qs))
blocks_inside k q b qs a = both_inside k q b [] qs (no_parts k) tt a

-- ---- nodes

pub line_opened : (k : ℕ) (parent q : Kind) → IsBordered q → (attrs : List (AttrName × List ℕ)) (opening : List Item) → IsBox q attrs opening []
    → (xs : List Item) → ArePageItems xs → (ss : List Stretch) → ArePlaced (suc k) q ss → k < 141 → StandsIn parent q
    → ArePlaced k parent (opened_by (with_attrs q attrs) opening (block (line_parts xs) ∷ ss))
line_opened k parent q b attrs opening x xs h ss a small s =
    let front : List Stretch = before_end ss in
    let placed : ArePlaced (suc k) q front = all_taken (IsPlaced (suc k) q) (block_len ss) ss a in
    let inside : IsInside (suc k) q (forest (children (line_parts xs ++ stretches_parts front))) =
    line_inside (suc k) q b (omega (arith, small)) xs h (stretches_parts front) (placed_parts (suc k) q (omega (arith, small)) front placed) in
    let n : IsNodeIn k parent (node_of (with_attrs q attrs) opening (block (line_parts xs) ∷ front) []) = (
      box_written k parent q b.round attrs opening [] x (forest (children (line_parts xs ++ stretches_parts front))) (omega (arith, small)) s inside,
      b.block,
    ) in
    subst (λ m. ArePlaced k parent (tree_block (node_of (with_attrs q attrs) opening (take m (block (line_parts xs) ∷ ss)) []) ∷ drop m
    (block (line_parts xs) ∷ ss)))
    (sym (block_first (line_parts xs) ss)) (n, gaps_behind k (suc k) parent q ss a)

-- an item that begins with a list
pub blocks_enclosed : (k : ℕ) (parent q : Kind) → IsBordered q → IsBox q [] [] [] → (ss : List Stretch) → ArePlaced (suc k) q ss → k < 199
    → StandsIn parent q → ArePlaced k parent (enclosed (plain q) ss)
blocks_enclosed k parent q b x ss a small s =
    let behind : ArePlaced (suc k) q (past_front ss) = all_dropped (IsPlaced (suc k) q) (front_len ss) ss a in
    let front : List Stretch = before_end (past_front ss) in
    let placed : ArePlaced (suc k) q front = all_taken (IsPlaced (suc k) q) (block_len (past_front ss)) (past_front ss) behind in
    let inside : IsInside (suc k) q (forest (children (stretches_parts front))) =
    blocks_inside (suc k) q b (stretches_parts front) (placed_parts (suc k) q (omega (arith, small)) front placed) in
    enclosed_placed k (suc k) parent q (plain q) ss
    (box_written k parent q b.round [] [] [] x (forest (children (stretches_parts front))) small s inside, b.block) a
