use Rattle.std.proofs.Common.{◌∙◌, sym, ap, ℕ, List, Bor, map, string_bytes, String, Global}
use Rattle.std.specs.List.{list_all}
use Rattle.wt_datamw.specs.SyncRead.{is_among}
use Rattle.wt_datamw.proofs.Shapes.{keys_pass}
use Rattle.wt_datamw.proofs.parse.has_only_keys.Goals as goal

pub loop-key-init : goal.loop-key-init
loop-key-init c =
    let p = is_among (map (λ (name : Bor (List ℕ)). name.now) c.args.names.now) in
    record {
      can = tt;
      finite = tt;
      left =
          keys_pass p c.args.members.now.entries
          ∙ ap (λ (ks : List (String Global)). list_all (λ k. p (string_bytes k)) ks)
          (sym (c.into_iter-key-iterator.ensures.into_iter_gives ∙ c.keys-key-items.ensures.rest));
    }
