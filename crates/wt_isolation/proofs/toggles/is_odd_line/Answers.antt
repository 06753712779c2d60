use Rattle.std.proofs.Common.{◌<◌, ◌∙◌, List, length, sym, arith, subst}
use Rattle.std.specs.List.{All}
use Rattle.wt_tiles.specs.declared.shape.Shape.{Shape}
use Rattle.wt_tiles.specs.Tiles.{size}
use Rattle.wt_tiles.proofs.Joining.{sizes_are}
use Rattle.wt_isolation.proofs.toggles.is_odd_line.Goals as goal

pub runs_of-requires : goal.runs_of-requires
runs_of-requires c =
    let long : length c.args.line.now < 18446744073709551616 = omega arith in
    let is = c.as_slice.ensures ∙ c.in_ok-tiles.ensures in
    let P : List Shape → Type 0 = λ ws. All (λ w. size w < 18446744073709551616) ws in
    subst P (sym is) (sizes_are c.line.result c.args.line.now 18446744073709551616 long)
