-- Reading what was written to `data-parsoid` gives the value back.
use Rattle.std.proofs.Common.{◌≡◌, ◌<◌, ◌^◌, ℕ, List, [], ◌∷◌, Option, Some, None, codes}
use Rattle.std.specs.Prelude.{Ok}
use Rattle.std.proofs.lemmas.Bool.Decides.{Decides-ltb}
use Rattle.serde_json.specs.Data.{object, no_members}
use Rattle.wt_tree.specs.declared.kind.Ranges.{Ranges}
use Rattle.wt_datamw.specs.declared.sync.Sync.{Sync}
use Rattle.wt_datamw.specs.Sync.{put_dsr, put_text, put_source, sync_members, sync_data}
use Rattle.wt_datamw.specs.SyncRead.{small, ranges_of, is_sync_shape, sync_of_data, IsSmall}

small_is : (n : ℕ) → n < 2 ^ 32 → small (Some n) ≡ Some n
small_is n h = rw ((Decides-ltb n (2 ^ 32)).1 h)

ranges_is : (r : Ranges) → r.start < 2 ^ 32 → r.end < 2 ^ 32 → r.open_w < 2 ^ 32 → r.close_w < 2 ^ 32
    → ranges_of (small (Some r.start)) (small (Some r.end)) (small (Some r.open_w)) (small (Some r.close_w)) ≡ Some r
ranges_is r a b c d = rw (small_is r.start a, small_is r.end b, small_is r.open_w c, small_is r.close_w d)

parts_back : (r : Ranges) (o c : List ℕ) (src : Option (List ℕ)) → ranges_of (small (Some r.start)) (small (Some r.end))
    (small (Some r.open_w)) (small (Some r.close_w)) ≡ Some r
    → sync_of_data (object (put_source src (put_text (codes "o") o (put_dsr r (put_text (codes "c") c no_members)))))
    ≡ Ok (record { dsr = r; opening = o; closing = c; src = src })
unfolding sync_of_data is_sync_shape
parts_back r [] [] None e = rw e
parts_back r [] [] (Some s) e = rw e
parts_back r [] (c ∷ cs) None e = rw e
parts_back r [] (c ∷ cs) (Some s) e = rw e
parts_back r (o ∷ os) [] None e = rw e
parts_back r (o ∷ os) [] (Some s) e = rw e
parts_back r (o ∷ os) (c ∷ cs) None e = rw e
parts_back r (o ∷ os) (c ∷ cs) (Some s) e = rw e

pub reads_small : (s : Sync) → IsSmall s → sync_of_data (sync_data s) ≡ Ok s
unfolding sync_members
reads_small s h = parts_back s.dsr s.opening s.closing s.src (ranges_is s.dsr h.0 h.1 h.2 h.3)
