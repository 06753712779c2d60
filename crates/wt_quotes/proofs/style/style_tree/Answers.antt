use Rattle.std.proofs.Common.{◌∙◌}
use Rattle.std.proofs.lemmas.List.Elements.{All-same}
use Rattle.wt_quotes.specs.Toggles.{toggles_of, IsOfRun, Switches}
use Rattle.wt_quotes.proofs.Exchange.{toggles_are_runs, toggles_switch}
use Rattle.wt_quotes.proofs.style.style_tree.Goals as goal

pub turns-requires-clause-runs : goal.turns-requires-clause-runs
turns-requires-clause-runs c = All-same (IsOfRun c.args.chunks.now) c.deref.result.now (toggles_of c.args.chunks.now)
    (c.deref.ensures.value ∙ c.in_ok-toggles.ensures) (toggles_are_runs c.args.chunks.now)

pub turns-requires-clause-switches : goal.turns-requires-clause-switches
turns-requires-clause-switches c = All-same Switches c.deref.result.now (toggles_of c.args.chunks.now)
    (c.deref.ensures.value ∙ c.in_ok-toggles.ensures) (toggles_switch c.args.chunks.now)
