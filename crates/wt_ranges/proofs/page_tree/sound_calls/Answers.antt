use Rattle.std.proofs.Common.{List, sym, subst}
use Rattle.std.specs.Prelude.{All}
use Rattle.wt_span.specs.Origins.{OuterCall, IsSoundCall}
use Rattle.wt_ranges.proofs.page_tree.sound_calls.Goals as goal

pub returns : goal.returns
returns c = record {
  calls = c.outer.ensures;
  sound = subst (λ (cs : List OuterCall). All IsSoundCall cs) (sym c.outer.ensures) c.pieces-held.ensures.sound.sound_calls;
}
