use Rattle.std.proofs.Common.{◌≡◌, ◌++◌, ℕ, List, OnOk, map, ap, ◌∙◌, subst}
use Rattle.wt_span.specs.Items.{sign, items}
use Rattle.wt_lines.specs.Signs.{left}
use Rattle.wt_tables.specs.Views.{numbers}
use Rattle.wt_tiles.specs.Cutting.{tile_of}
use Rattle.wt_page.specs.Lists.{seen_signs}
use Rattle.wt_build.specs.SeenSigns.{seen_by}
use Rattle.wt_build.proofs.Colons.{tile_signs}
use Rattle.wt_build.proofs.colon.push_tile.Goals as goal

pub returns : goal.returns
returns c =
    let tile = c.args.tile.now in
    let b = c.is_bare.result in
    let is : seen_by b (left c.of.result) ≡ seen_signs (tile_of tile) =
    ap (seen_by b) (c.of.ensures ∙ ap (λ ps. map sign (items ps)) c.as_slice.ensures) ∙ tile_signs (tile_of tile).0 (items tile.pieces) b c.is_bare.ensures in
    subst (λ (ns : List ℕ). OnOk c.push_signs.result (numbers c.push_signs.new.out ≡ numbers c.args.out.now ++ ns)) is c.push_signs.ensures
