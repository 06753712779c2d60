use Rattle.std.proofs.Common.{◌≡◌, refl, length, subst, arith}
use Rattle.wt_span.specs.Slice.{bytes_of}
use Rattle.wt_span.specs.Items.{items}
use Rattle.wt_expansion.specs.Calls.{outer_of}
use Rattle.wt_expansion.specs.Made.{AppendsCall, kept}
use Rattle.wt_expansion.proofs.FoundLaws.{outer_adds, outer_same}
use Rattle.wt_expansion.proofs.found.Collected.push_outer.Goals as goal

pub returns : goal.returns
returns c = λ some.
    let a = c.args.self.now.outer.ok in
    let x = c.len.ensures in
    let y = c.min-number.ensures in
    let z : c.min-number.result ≡ kept (length c.args.self.now.outer.items) = omega (arith, a, x, y) in
    outer_adds c.args.self.now _ _ (outer_of c.args.source c.args.call c.args.href) (items c.args.given.now) _
    (subst (λ n. AppendsCall n (bytes_of c.args.source) (items c.args.given.now) c.args.self.now.pieces.items c.push_given.new.pieces.items) z
    c.in_ok-push_given.ensures)
    c.in_ok-push.ensures.items refl (outer_same c.args.source c.args.call c.args.href _ _ c.in_ok-part_ranges.ensures c.in_ok-name_ends.ensures) refl some
