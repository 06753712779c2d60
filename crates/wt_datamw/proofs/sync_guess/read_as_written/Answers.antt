use Rattle.std.proofs.Common.{sym, ap, ◌∙◌, ◌++◌}
use Rattle.wt_datamw.specs.Sync.{sync_text}
use Rattle.wt_datamw.specs.SyncRead.{sync_told}
use Rattle.wt_datamw.proofs.Same.{not_other}
use Rattle.wt_datamw.proofs.SyncTold.{sync_read}
use Rattle.wt_datamw.proofs.sync_guess.read_as_written.Goals as goal

pub returns : goal.returns
returns c =
    let same = not_other c.as_slice.result.now c.as_bytes.result.now (sym c.if-ne.false ∙ c.ne.ensures) in
    let again = c.in_ok-push_sync.ensures ∙ ap (λ xs. xs ++ sync_text c.in-Some.sync) c.in_ok-again.ensures.items in
    ap sync_told (sym c.as_bytes.ensures.value ∙ sym same ∙ c.as_slice.ensures.value ∙ again) ∙ sync_read c.in-Some.sync c.places_of-places.ensures
