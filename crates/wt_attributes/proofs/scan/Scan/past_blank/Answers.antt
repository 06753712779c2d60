use Rattle.std.proofs.Common.{true, sym, ap, ◌∙◌}
use Rattle.wt_attributes.specs.Attributes.{readings}
use Rattle.wt_attributes.proofs.Readings.{blank_some, blank_none}
use Rattle.wt_attributes.proofs.scan.Scan.past_blank.Goals as goal
use Rattle.wt_attributes.proofs.scan.Scan.past_blank.Goals.{in-Some, in-None}

pub returns-clause-value : goal.returns-clause-value
returns-clause-value c =
    let bs = c.args.self.rest.now in
    elim c.match-split_ended.branch [
      | in-Some w ↦ ap (λ r. readings true 0 r.now) w.rest-is ∙ blank_some bs _ _ (sym w.in-Some.ensures)
      | in-None w ↦ ap (λ r. readings true 0 r.now) w.rest-is ∙ blank_none bs (sym w.in-None.ensures)
    ]
