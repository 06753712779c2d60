use Rattle.std.proofs.Common.{Some, ◌+◌, ◌∙◌}
use Rattle.std.proofs.lemmas.Map.Text.{btree_map_updates_str}
use Rattle.std.specs.BTreeMap.{get_by}
use Rattle.std.specs.Cmp.Lexicographic.{slice_cmp}
use Rattle.std.specs.Option.{unwrap_or}
use Rattle.std.specs.Ordering.{nat_cmp}
use Rattle.std.proofs.Common.{ap}
use Rattle.wt_visible.proofs.Tallies.{put}
use Rattle.wt_visible.proofs.tally.Tally.add.Goals as goal

pub returns : goal.returns
returns c = λ other.
    ap (λ o. unwrap_or o 0)
    (btree_map_updates_str c.args.text.now c.args.self.now.counts c.insert.new.self (Some (c.count-count.result + 1)) c.in_ok-insert.ensures.updates other)
    ∙ put (λ text. get_by (λ key. slice_cmp nat_cmp text key.now) c.args.self.now.counts) c.args.text.now c.count-count.result c.count-count.ensures other
