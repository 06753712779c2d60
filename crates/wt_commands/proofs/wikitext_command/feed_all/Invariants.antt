use Rattle.std.proofs.Common.{◌≡◌, ◌-◌, ◌≤◌}
use Rattle.wt_html_in.specs.Feeding.{taken_of}
use Rattle.wt_commands.specs.Inputs.{FedSoFar}
use Rattle.wt_commands.proofs.wikitext_command.feed_all.Given as goal

abbrev pub invariant-pieces : goal.invariant-pieces
invariant-pieces g l = record {
  most : l.taken ≤ 67108864;
  room : taken_of l.reader ≤ l.taken;
  fed : FedSoFar l.reader (g.S.Source.left l.fn.input) (g.S.Source.left l.input) l.taken;
  kept : g.S.Source.fault_count l.input ≡ g.S.Source.fault_count l.fn.input;
}

abbrev pub decreases-pieces : goal.decreases-pieces
decreases-pieces g l = 67108864 - l.taken
