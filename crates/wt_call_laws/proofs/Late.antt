-- Which refusal is told.
use Rattle.std.proofs.Common.{◌≡◌, ◌⊎◌, inl, inr, Err, refl}
use Rattle.wt_selser.specs.declared.refusal.EditRefusal.{EditRefusal}
use Rattle.wt_selser.specs.declared.refusal.EditRefusal.TheVariants as of_edit
use Rattle.wt_unmarked_edit.specs.Found.{IsOfNewPage, late_refusal, refusal_of_fault}
use Rattle.wt_new_page.specs.declared.asked.Fault.{Fault}
use Rattle.wt_edit.specs.declared.selser_refusal.SelserRefusal.{SelserRefusal}
use Rattle.wt_edit.specs.declared.selser_refusal.SelserRefusal.TheVariants as refusal
use Rattle.wt_commands.specs.Refusals.{refusal_of_edit, refusal_of_selser, status_of}
use Rattle.wt_commands.specs.declared.status.Status.TheVariants as status

pub one_of_two : (e : EditRefusal) → (first : Fault) → (late_refusal (Err e) first ≡ refusal_of_fault first)
    ⊎ (refusal_of_selser (late_refusal (Err e) first) ≡ refusal_of_edit e)
one_of_two (of_edit.Check c) first = inl refl
one_of_two (of_edit.BadContent n why) first = inr refl
one_of_two (of_edit.Tangled n) first = inl refl
one_of_two of_edit.NewPageTooLong first = inr refl
one_of_two of_edit.NoMemory first = inr refl

pub of_edits : (r : SelserRefusal) → IsOfNewPage r → status_of (refusal_of_selser r) ≡ status.EditRefused
of_edits (refusal.BadContent n why) h = refl
of_edits refusal.NewPageTooLong h = refl
of_edits refusal.NewExpansion h = refl
of_edits (refusal.Unspelled k) h = refl
of_edits r h = absurd h
