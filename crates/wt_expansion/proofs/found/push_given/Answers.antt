use Rattle.std.proofs.Common.{refl, arith}
use Rattle.wt_span.specs.Slice.{bytes_of}
use Rattle.wt_span.specs.declared.form.ItemForm.TheVariants as form
use Rattle.wt_span.specs.declared.origin.Origin.TheVariants as origin
use Rattle.wt_expansion.proofs.FoundLaws.{call_some, call_empty}
use Rattle.wt_expansion.proofs.found.push_given.Goals as goal

pub returns-then-len-before : goal.returns-then-len-before
returns-then-len-before c =
    let a = c.push_called.new.pieces.ok in
    let b = c.args.pieces.now.ok in
    let x = c.len.ensures in
    let y = c.len-before.ensures in
    call_some c.args.number (bytes_of c.args.source) c.args.given.now c.args.pieces.now.items c.push_called.new.pieces.items
    (λ e. c.if-len-before.true (omega (arith, e, a, b, x, y))) c.in_ok-push_called.ensures

pub returns : goal.returns
returns c =
    let a = c.push_called.new.pieces.ok in
    let b = c.args.pieces.now.ok in
    let x = c.len.ensures in
    let y = c.len-before.ensures in
    let z = c.if-len-before.false in
    call_empty c.args.number (bytes_of c.args.source) c.args.given.now c.args.pieces.now.items c.push_called.new.pieces.items c.push.new.self.items
    (record { text = c.args.source; form = form.EmptyCall; origin = origin.Call c.args.number }) (omega (arith, a, b, x, y, z)) c.in_ok-push_called.ensures
    refl refl refl c.in_ok-push.ensures.items
