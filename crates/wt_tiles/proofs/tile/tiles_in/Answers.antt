use Rattle.std.proofs.Common.{◌<◌, List, length, map, sym, ap, ◌∙◌, arith, subst}
use Rattle.std.specs.List.{All}
use Rattle.std.proofs.lemmas.Result.{IfOk-weaker}
use Rattle.wt_span.specs.Items.{items}
use Rattle.wt_tiles.specs.declared.shape.Shape.{Shape}
use Rattle.wt_tiles.specs.Glyphs.{glyph_of}
use Rattle.wt_tiles.specs.Tiles.{shapes, parts, size}
use Rattle.wt_tiles.specs.Cutting.{AreCuts}
use Rattle.wt_tiles.proofs.Joining.{cuts_are, sizes_are, tiles_are, items_are}
use Rattle.wt_tiles.proofs.tile.tiles_in.Goals as goal

pub cut-requires-clause-cuts : goal.cut-requires-clause-cuts
cut-requires-clause-cuts c =
    let gs = map glyph_of (items c.args.pieces.now) in
    let is = c.as_slice-2.ensures ∙ c.in_ok-shapes.ensures ∙ ap (shapes c.args.context) (c.as_slice.ensures ∙ c.in_ok-glyphs.ensures) in
    let P : List Shape → Type 0 = λ ws. AreCuts ws gs in
    subst P (sym is) (cuts_are c.args.context gs)

pub cut-requires-clause-sizes : goal.cut-requires-clause-sizes
cut-requires-clause-sizes c =
    let long : length c.as_slice.result.now < 18446744073709551616 = omega arith in
    let is = c.as_slice-2.ensures ∙ c.in_ok-shapes.ensures in
    let P : List Shape → Type 0 = λ ws. All (λ w. size w < 18446744073709551616) ws in
    subst P (sym is) (sizes_are c.args.context c.as_slice.result.now 18446744073709551616 long)

pub returns-clause-value : goal.returns-clause-value
returns-clause-value c =
    let xs = items c.args.pieces.now in
    let is = c.as_slice-2.ensures ∙ c.in_ok-shapes.ensures ∙ ap (shapes c.args.context) (c.as_slice.ensures ∙ c.in_ok-glyphs.ensures) in
    IfOk-weaker c.cut.result _ _ (λ ts e. e ∙ ap (λ ws. parts ws xs) is ∙ sym (tiles_are c.args.context xs)) c.cut.ensures.value

pub returns-clause-joined : goal.returns-clause-joined
returns-clause-joined c =
    let xs = items c.args.pieces.now in
    let is = c.as_slice-2.ensures ∙ c.in_ok-shapes.ensures ∙ ap (shapes c.args.context) (c.as_slice.ensures ∙ c.in_ok-glyphs.ensures) in
    IfOk-weaker c.cut.result _ _ (λ ts e. items_are c.args.context xs ts
    (e ∙ ap (λ ws. parts ws xs) is ∙ sym (tiles_are c.args.context xs))) c.cut.ensures.value
