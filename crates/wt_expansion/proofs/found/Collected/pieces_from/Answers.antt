use Rattle.std.proofs.Common.{◌≡◌, ap, arith, drop, length, min, ◌∙◌}
use Rattle.wt_expansion.proofs.FoundLaws.{drop_most}
use Rattle.wt_expansion.proofs.found.Collected.pieces_from.Goals as goal

pub returns : goal.returns
returns c =
    let xs = c.args.self.now.pieces.items in
    let a = c.args.self.now.pieces.ok in
    let x = c.len.ensures in
    let y = c.min.ensures in
    let z : c.min.result ≡ min c.args.from (length xs) = omega (arith, a, x, y) in
    c.rest_of.ensures ∙ ap (drop c.min.result) c.as_slice.ensures.value ∙ drop_most c.args.from c.min.result xs z
