use Rattle.std.proofs.Common.{◌≡◌, ◌-◌, List, length, map, ap, sym, subst, arith}
use Rattle.std.specs.Prelude.{All}
use Rattle.std.specs.Vec.Iter.{into_iter_items}
use Rattle.std.proofs.lemmas.Result.{IfOk-weaker}
use Rattle.std.proofs.lemmas.List.Elements.{All-tail}
use Rattle.wt_tiles.specs.declared.tile.Tile.{Tile}
use Rattle.wt_tiles.specs.Cutting.{tile_of}
use Rattle.wt_span.specs.Items.{items}
use Rattle.wt_inline.specs.declared.loose.Loose.TheVariants.{Text}
use Rattle.wt_inline.specs.Parts.{Part, parts}
use Rattle.wt_inline.specs.View.{item_tree}
use Rattle.wt_inline.specs.Grown.{growth, Grows}
use Rattle.wt_context.specs.Line.{within}
use Rattle.wt_context.specs.TileParts.{shape_of, IsCutTile}
use Rattle.wt_context.specs.Tokens.{segments_of}
use Rattle.wt_context.proofs.NestedTrees.{nested_made}
use Rattle.wt_context.proofs.TileCuts.{tiles_cut}
use Rattle.wt_context.proofs.ContextReads.{context_read, tiles_step}
use Rattle.wt_context.proofs.FewSegments.{few_segments}
use Rattle.wt_context.proofs.InertItems.{none_within, inert_within}
use Rattle.wt_context.proofs.reading.+reading.Goals as goal
use Rattle.wt_context.proofs.reading.+reading.Goals.{with_context-then-levels-eq0-via-then-levels-eq0, with_context-then-levels-eq0-via-else-levels-eq0+then-are_inert}

pub nested-returns : goal.nested-returns
nested-returns t c =
    let ps = c.in_ok-parts.parts in
    let xs = items c.args.tile.now.pieces in
    IfOk-weaker c.nested_tree.result _ _
    (λ tree f. nested_made c.args.kind (item_tree tree) (shape_of c.args.tile.now) xs (items ps.opening) (items ps.inside) (items ps.closing)
    (items ps.trail) (items c.as_slice.result.now) (λ ys. within c.args.levels c.args.context ys)
    (growth c.new.result) (growth c.in_ok-children.children) c.in_ok-parts.ensures.opening c.in_ok-parts.ensures.inside c.in_ok-parts.ensures.closing
    c.in_ok-parts.ensures.trail (ap items c.as_slice.ensures) c.new.ensures c.in_ok-children.ensures f)
    c.nested_tree.ensures

pub tokens_of-loop-tile-preserved : goal.tokens_of-loop-tile-preserved
tokens_of-loop-tile-preserved t c =
    let before = into_iter_items c.loop-tile.tile-iterator in
    let rest = into_iter_items c.next.new.self in
    let steps = c.in-Some.ensures.steps.0 in
    record {
      cut = All-tail IsCutTile c.in-Some.tile rest (subst (λ (ts : List Tile). All IsCutTile ts) steps c.loop-tile.invariant.cut);
      made = tiles_step (within c.args.levels) c.args.context before rest c.in-Some.tile (segments_of c.loop-tile.tokens)
          (segments_of c.in_ok-tokens.tokens) _ steps c.in_ok-tokens.ensures c.loop-tile.invariant.made;
    }

pub with_context-tokens_of-requires : goal.with_context-tokens_of-requires
with_context-tokens_of-requires t c =
    let some = c.if-levels-eq0.false in (
      omega (arith, some),
      (
        tiles_cut c.args.context (items c.args.pieces.now) c.in_ok-tiles.tiles c.in_ok-tiles.ensures.value c.in_ok-tiles.ensures.joined
            c.in_ok-tiles.ensures.sound c.requires.few,
        omega
            (arith, some, c.requires.room),
      ),
    )

pub with_context-with_styles-requires : goal.with_context-with_styles-requires
with_context-with_styles-requires t c =
    let few = few_segments (within (c.args.levels - 1)) c.args.context (items c.args.pieces.now) (map tile_of c.in_ok-tiles.tiles)
    c.in_ok-tiles.ensures.value in
    omega (arith, ap length c.in_ok-tokens.ensures, few, c.requires.few)

pub with_context-returns-then-levels-eq0 : goal.with_context-returns-then-levels-eq0
with_context-returns-then-levels-eq0 t c =
    let n = c.args.levels in
    let xs = items c.args.pieces.now in
    let is : within n c.args.context xs ≡ parts Text xs = elim c.then-levels-eq0.branch [
      | with_context-then-levels-eq0-via-then-levels-eq0 w ↦ none_within n c.args.context xs (omega (arith, w.if-levels-eq0.true))
      | with_context-then-levels-eq0-via-else-levels-eq0+then-are_inert w ↦ inert_within n c.args.context xs (w.are_inert.ensures w.if-are_inert.true)
    ] in
    IfOk-weaker c.with_line.result _ _ (λ d a. subst (λ (ps : List Part). Grows (growth c.args.children) ps (growth d)) (sym is) a) c.with_line.ensures

pub with_context-returns : goal.with_context-returns
with_context-returns t c =
    let some = c.if-levels-eq0.false in
    let xs = items c.args.pieces.now in
    let g = growth c.args.children in
    let is = context_read c.args.levels c.args.context xs c.in_ok-tiles.tiles (segments_of c.in_ok-tokens.tokens)
    (omega (arith, some)) c.in_ok-tiles.ensures.value c.in_ok-tokens.ensures in
    IfOk-weaker c.with_styles.result _ _ (λ d a. subst (λ (ps : List Part). Grows g ps (growth d)) is a) c.with_styles.ensures
