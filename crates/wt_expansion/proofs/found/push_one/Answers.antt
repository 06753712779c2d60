use Rattle.std.proofs.Common.{refl}
use Rattle.wt_span.specs.declared.origin.Origin.TheVariants as origin
use Rattle.wt_expansion.proofs.FoundLaws.{appends_one}
use Rattle.wt_expansion.proofs.found.push_one.Goals as goal

pub returns : goal.returns
returns c =
    appends_one c.args.number c.args.pieces.now.items c.push.new.self.items c.args.piece.now
    (record { text = c.args.piece.now.text; form = c.args.piece.now.form; origin = origin.Call c.args.number }) (c.is_empty.ensures.some c.if-is_empty.false)
    refl refl refl c.in_ok-push.ensures.items
