use Rattle.std.proofs.Common.{◌≡◌, ℕ, List, Bor, map, string_bytes}
use Rattle.std.specs.List.{list_all}
use Rattle.serde_json.specs.View.{members_view}
use Rattle.wt_datamw.specs.SyncRead.{only_keys, is_among}
use Rattle.wt_datamw.proofs.parse.has_only_keys.Given as goal

-- the keys that are left decide
abbrev pub invariant-loop-key : goal.invariant-loop-key
invariant-loop-key l = record {
  can : (goal.iterator-loop-key).can_next l.key-iterator;
  finite : (goal.iterator-loop-key).is_finite l.key-iterator;
  left : only_keys (is_among (map (λ (name : Bor (List ℕ)). name.now) l.names)) (members_view l.members.entries)
      ≡ list_all (λ k. is_among (map (λ (name : Bor (List ℕ)). name.now) l.names) (string_bytes k)) l.key-iterator;
}
