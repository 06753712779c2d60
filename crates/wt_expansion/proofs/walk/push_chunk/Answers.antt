use Rattle.std.proofs.Common.{◌∷◌, [], ℕ, Err, List, None, Ok, ap, arith, subst, sym, ◌∙◌}
use Rattle.std.specs.Prelude.{OnOk, Result, slice_range}
use Rattle.wt_span.specs.declared.form.ItemForm.{ItemForm}
use Rattle.wt_span.specs.declared.form.Mode.TheVariants as mode
use Rattle.wt_span.specs.Items.{items_by}
use Rattle.wt_expand.specs.PageCalls.{own}
use Rattle.wt_expand.specs.PageItems.{form_of}
use Rattle.wt_template_stack.specs.Readers.{CanBeCut}
use Rattle.wt_template_stack.proofs.Cuts.{cut_here}
use Rattle.wt_expansion.specs.Walks.{Adds}
use Rattle.wt_expansion.proofs.walk.push_chunk.Goals as goal

if_ok : {A E P Q : Type 0} → (r : Result A E) → (P → Q) → OnOk r P → OnOk r Q
if_ok (Ok x) f h = f h
if_ok (Err e) f h = tt

pub returns : goal.returns
returns c =
    let old = c.args.found.now in
    let new = c.push_slice.new.found in
    let at = c.args.reader.cursor.at in
    let to = c.args.to in
    if_ok c.push_slice.result (λ adds page p s reading cut low.
    let here = reading.at.at_is in
    let bytes = c.slice-text.ensures.bytes (cut_here mode.Page page c.args.reader p s to reading cut) ∙ ap (λ (xs : List ℕ). slice_range xs at to) reading.read.text_is ∙ ap (λ q. slice_range page q to) here in
    let form = c.form_of.ensures ∙ ap (form_of c.args.kind) (c.as_str.ensures ∙ bytes) in
    subst (λ (f : ItemForm). Adds old new p (own (items_by f None (slice_range page p to)) ∷ []) to) form
    (subst (λ q. Adds old new q (own (items_by c.form_of.result None (slice_range page q to)) ∷ []) to) here
    (adds page p s reading (subst (λ q. CanBeCut page q to) (sym here) cut) (omega (arith, here, low))))) c.push_slice.ensures
