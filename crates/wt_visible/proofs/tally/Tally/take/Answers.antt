use Rattle.std.proofs.Common.{arith, ap, sym, Some, ◌+◌, ◌-◌, ◌∙◌}
use Rattle.std.proofs.lemmas.Map.Text.{btree_map_updates_str}
use Rattle.std.specs.BTreeMap.{get_by}
use Rattle.std.specs.Cmp.Lexicographic.{slice_cmp}
use Rattle.std.specs.Option.{unwrap_or}
use Rattle.std.specs.Ordering.{nat_cmp}
use Rattle.wt_visible.specs.Tally.{times}
use Rattle.wt_visible.proofs.Tallies.{taken, only}
use Rattle.wt_visible.proofs.tally.Tally.take.Goals as goal

pub returns-clause-taken : goal.returns-clause-taken
returns-clause-taken c = λ e other.
    taken (λ text. get_by (λ key. slice_cmp nat_cmp text key.now) c.args.self.now.counts) c.args.text.now c.count-count.result c.count-count.ensures
    (omega (arith, c.if-count-eq0.false)) other
    ∙ ap (λ o. unwrap_or o 0 + times other (only c.args.text.now))
    (sym (btree_map_updates_str c.args.text.now c.args.self.now.counts c.insert.new.self (Some (c.count-count.result - 1)) c.in_ok-insert.ensures.updates other))
