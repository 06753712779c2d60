use Rattle.std.proofs.Common.{Some}
use Rattle.std.specs.Prelude.{string_bytes}
use Rattle.std.specs.BTreeMap.{get_by_text}
use Rattle.std.proofs.lemmas.Map.Text.{btree_map_updates_text}
use Rattle.wt_values.proofs.ValueFrames.{value_put}
use Rattle.wt_values.proofs.values.Values.put.Goals as goal

pub returns-in-Ok : goal.returns-in-Ok
returns-in-Ok c =
    λ frame h name.
    value_put name (string_bytes c.args.name) c.args.value frame (get_by_text c.args.self.now.named name) (get_by_text c.insert.new.self name)
    (btree_map_updates_text (string_bytes c.args.name) c.args.self.now.named c.insert.new.self (Some c.args.value) c.in-Ok.ensures.updates name) (h name)
