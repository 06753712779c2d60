use Rattle.std.proofs.Common.{Some, None, arith, sym, ap, ◌∙◌, ◌++◌, ◌∷◌, []}
use Rattle.std.proofs.lemmas.Grind.{common_steps}
use Rattle.wt_quotes.proofs.toggle.toggles_by_length.Goals as goal
use Rattle.wt_quotes.proofs.toggle.toggles_by_length.Goals.{in-Some+in_ok-push, in_default}
use Rattle.wt_quotes.specs.Toggles.{toggle_at}
use Rattle.wt_span.proofs.Places.{filter_map-range_more}

pub loop-at-preserved : goal.loop-at-preserved
loop-at-preserved c = elim c.match-toggle_at.branch [
  | in-Some+in_ok-push w ↦
      let more = filter_map-range_more (toggle_at c.args.chunks.now) c.loop-at.at (Some w.in-Some.toggle) (sym w.in-Some.ensures.value) in
      record {
        value = ap (λ v. v.items) w.toggles-is ∙ w.in_ok-push.ensures.items
            ∙ ap (λ xs. xs ++ w.in-Some.toggle ∷ []) c.loop-at.invariant.value ∙ sym more;
        room = grind (arith, common_steps);
      }
  | in_default w ↦
      let more = filter_map-range_more (toggle_at c.args.chunks.now) c.loop-at.at None (sym w.in_default.ensures.value) in
      record { value = grind (arith, common_steps); room = grind (arith, common_steps) }
]
