use Rattle.wt_splice.specs.Views.{change_view}
use Rattle.wt_places.proofs.Rewriting.{lies_at}
use Rattle.wt_places.proofs.testing.lies_at.Goals as goal

pub returns-then-at-places : goal.returns-then-at-places
returns-then-at-places c = λ e.
    lies_at c.args.places.now c.args.at _ (change_view c.args.change.now) c.if-at-places.true (c.lies_in.ensures e)
