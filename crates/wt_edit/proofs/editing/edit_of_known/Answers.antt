use Rattle.std.proofs.Common.{◌≡◌, ◌≤◌, List, length, ap, ◌∙◌, refl, rules, subst, sym, inl}
use Rattle.std.specs.Prelude.{IsErrAnd, Ok, Err}
use Rattle.wt_tree.specs.Tree.{label}
use Rattle.wt_tree.specs.View.{view}
use Rattle.wt_span.specs.declared.limits.TheConstants.{PAGE_BYTES}
use Rattle.wt_expand.specs.Work.{Entry, fetches, firsts_after}
use Rattle.wt_selser.specs.Borders.{page_text}
use Rattle.wt_selser.specs.Edits.{edit_answer, AnswersEdit}
use Rattle.wt_slices.specs.Borders.{HasBorders}
use Rattle.wt_visible.specs.SameNodes.{same_node}
use Rattle.wt_visible.proofs.SameTells.{tells_same}
use Rattle.wt_transclusion.proofs.AskedLaws.{first_some}
use Rattle.wt_edit.specs.Asked.{new_work, followed_by, AsksErr}
use Rattle.wt_edit.specs.Edits.{refusal_of_splice}
use Rattle.wt_edit.proofs.AskedLaws.{asked_memory, asked_same, made_work, unmade_names}
use Rattle.wt_edit.proofs.EditLaws.{made_is, made_page, made_refused, made_short, spliced_as, unspliced, unspliced_counted, unspliced_page}
use Rattle.wt_edit.proofs.editing.edit_of_known.Goals as goal

pub edit-requires-clause-body : goal.edit-requires-clause-body
edit-requires-clause-body g c =
    ap (λ t. (label t).kind) (ap view c.body-tree.ensures.body) ∙ c.requires.body

pub edit-requires-clause-places : goal.edit-requires-clause-places
edit-requires-clause-places g c =
    let t = view c.args.revision.annotated.now.tree.body in
    let is_tree : view c.body-tree.result.now ≡ t = ap view c.body-tree.ensures.body in
    subst (HasBorders c.args.revision.page.now) (sym is_tree) c.requires.places

pub edit-requires-clause-text : goal.edit-requires-clause-text
edit-requires-clause-text g c = ap page_text c.items-items.ensures ∙ c.requires.text

pub check_meaning-requires-clause-room : goal.check_meaning-requires-clause-room
check_meaning-requires-clause-room g c =
    let page = c.args.revision.page.now in
    let edited = view c.args.revision.edited.now in
    let items = c.args.revision.annotated.now.items in
    let t = view c.args.revision.annotated.now.tree.body in
    let is_tree : view c.body-tree.result.now ≡ t = ap view c.body-tree.ensures.body in
    let new = c.in_ok-changed.changed in
    let answer : edit_answer same_node items page t edited ≡ Ok new =
    spliced_as items _ page t (view c.body-tree.result.now) edited (Ok new) c.items-items.ensures is_tree (c.in_ok-changed.ensures same_node tells_same) in
    subst (λ bs. length bs ≤ PAGE_BYTES) (sym (c.in_ok-text.ensures ∙ c.as_str.ensures)) (made_short items page t edited new answer)

pub returns-in_err-changed-clause-answered : goal.returns-in_err-changed-clause-answered
returns-in_err-changed-clause-answered g c = λ pages met told free.
    let page = c.args.revision.page.now in
    let edited = view c.args.revision.edited.now in
    let items = c.args.revision.annotated.now.items in
    let t = view c.args.revision.annotated.now.tree.body in
    let is_tree : view c.body-tree.result.now ≡ t = ap view c.body-tree.ensures.body in
    let refused = c.in_err-changed.field-0.0 in
    let answers : AnswersEdit (edit_answer same_node items page t edited) (Err refused) =
    spliced_as items _ page t (view c.body-tree.result.now) edited (Err refused) c.items-items.ensures is_tree (c.in_err-changed.ensures same_node tells_same) in
    unspliced pages t edited (edit_answer same_node items page t edited) refused c.from_residual.result answers c.from_residual.ensures.1

pub returns-in_err-changed-clause-asked : goal.returns-in_err-changed-clause-asked
returns-in_err-changed-clause-asked g c = λ pages met told free.
    let page = c.args.revision.page.now in
    let edited = view c.args.revision.edited.now in
    let items = c.args.revision.annotated.now.items in
    let t = view c.args.revision.annotated.now.tree.body in
    let is_tree : view c.body-tree.result.now ≡ t = ap view c.body-tree.ensures.body in
    let refused = c.in_err-changed.field-0.0 in
    let answers : AnswersEdit (edit_answer same_node items page t edited) (Err refused) =
    spliced_as items _ page t (view c.body-tree.result.now) edited (Err refused) c.items-items.ensures is_tree (c.in_err-changed.ensures same_node tells_same) in
    unmade_names met pages (edit_answer same_node items page t edited) (g.F.Folder.answered c.args.folder.now) c.from_residual.result refused
    c.from_residual.ensures.1 answers

pub returns-in_err-changed-clause-new_page : goal.returns-in_err-changed-clause-new_page
returns-in_err-changed-clause-new_page g c = λ new made.
    let page = c.args.revision.page.now in
    let edited = view c.args.revision.edited.now in
    let items = c.args.revision.annotated.now.items in
    let t = view c.args.revision.annotated.now.tree.body in
    let is_tree : view c.body-tree.result.now ≡ t = ap view c.body-tree.ensures.body in
    let refused = c.in_err-changed.field-0.0 in
    let answers : AnswersEdit (edit_answer same_node items page t edited) (Err refused) =
    spliced_as items _ page t (view c.body-tree.result.now) edited (Err refused) c.items-items.ensures is_tree (c.in_err-changed.ensures same_node tells_same) in
    let is : c.from_residual.result ≡ Err (refusal_of_splice refused) = search rules in
    unspliced_page (edit_answer same_node items page t edited) refused c.from_residual.result new (g.F.Folder.answered c.args.folder.now)
    answers is made

pub returns-in_err-text-clause-new_page : goal.returns-in_err-text-clause-new_page
returns-in_err-text-clause-new_page g c = λ bytes made.
    let page = c.args.revision.page.now in
    let edited = view c.args.revision.edited.now in
    let items = c.args.revision.annotated.now.items in
    let t = view c.args.revision.annotated.now.tree.body in
    let is_tree : view c.body-tree.result.now ≡ t = ap view c.body-tree.ensures.body in
    let new = c.in_ok-changed.changed in
    let answer : edit_answer same_node items page t edited ≡ Ok new =
    spliced_as items _ page t (view c.body-tree.result.now) edited (Ok new) c.items-items.ensures is_tree (c.in_ok-changed.ensures same_node tells_same) in
    inl (made_page (edit_answer same_node items page t edited) new c.as_str.result.now bytes answer c.as_str.ensures c.as_str.utf8
    (made_short items page t edited new answer) made)

pub returns-in_err-check_meaning-clause-new_page : goal.returns-in_err-check_meaning-clause-new_page
returns-in_err-check_meaning-clause-new_page g c = λ bytes made.
    let page = c.args.revision.page.now in
    let edited = view c.args.revision.edited.now in
    let items = c.args.revision.annotated.now.items in
    let t = view c.args.revision.annotated.now.tree.body in
    let is_tree : view c.body-tree.result.now ≡ t = ap view c.body-tree.ensures.body in
    let new = c.in_ok-changed.changed in
    let answer : edit_answer same_node items page t edited ≡ Ok new =
    spliced_as items _ page t (view c.body-tree.result.now) edited (Ok new) c.items-items.ensures is_tree (c.in_ok-changed.ensures same_node tells_same) in
    inl (made_page (edit_answer same_node items page t edited) new c.as_str.result.now bytes answer c.as_str.ensures c.as_str.utf8
    (made_short items page t edited new answer) made)

pub returns-clause-new_page : goal.returns-clause-new_page
returns-clause-new_page g c = λ bytes made.
    let page = c.args.revision.page.now in
    let edited = view c.args.revision.edited.now in
    let items = c.args.revision.annotated.now.items in
    let t = view c.args.revision.annotated.now.tree.body in
    let is_tree : view c.body-tree.result.now ≡ t = ap view c.body-tree.ensures.body in
    let new = c.in_ok-changed.changed in
    let answer : edit_answer same_node items page t edited ≡ Ok new =
    spliced_as items _ page t (view c.body-tree.result.now) edited (Ok new) c.items-items.ensures is_tree (c.in_ok-changed.ensures same_node tells_same) in
    inl (made_page (edit_answer same_node items page t edited) new c.as_str.result.now bytes answer c.as_str.ensures c.as_str.utf8
    (made_short items page t edited new answer) made)

pub returns-clause-page : goal.returns-clause-page
returns-clause-page g c =
    let page = c.args.revision.page.now in
    let edited = view c.args.revision.edited.now in
    let items = c.args.revision.annotated.now.items in
    let t = view c.args.revision.annotated.now.tree.body in
    let is_tree : view c.body-tree.result.now ≡ t = ap view c.body-tree.ensures.body in
    let new = c.in_ok-changed.changed in
    let answer : edit_answer same_node items page t edited ≡ Ok new =
    spliced_as items _ page t (view c.body-tree.result.now) edited (Ok new) c.items-items.ensures is_tree (c.in_ok-changed.ensures same_node tells_same) in
    made_page (edit_answer same_node items page t edited) new c.as_str.result.now new answer c.as_str.ensures c.as_str.utf8
    (made_short items page t edited new answer) answer

pub returns-in_err-text-clause-asked : goal.returns-in_err-text-clause-asked
returns-in_err-text-clause-asked g c = λ pages met told free.
    let page = c.args.revision.page.now in
    let edited = view c.args.revision.edited.now in
    let items = c.args.revision.annotated.now.items in
    let t = view c.args.revision.annotated.now.tree.body in
    let is_tree : view c.body-tree.result.now ≡ t = ap view c.body-tree.ensures.body in
    let before = g.F.Folder.answered c.args.folder.now in
    let names = firsts_after met (fetches (new_work pages (edit_answer same_node items page t edited))) in
    asked_memory names before before c.from_residual-in_err-text.result c.from_residual-in_err-text.ensures.1 (first_some before names)

pub returns-in_err-check_meaning-clause-answered : goal.returns-in_err-check_meaning-clause-answered
returns-in_err-check_meaning-clause-answered g c = λ pages met told free.
    let page = c.args.revision.page.now in
    let edited = view c.args.revision.edited.now in
    let items = c.args.revision.annotated.now.items in
    let t = view c.args.revision.annotated.now.tree.body in
    let is_tree : view c.body-tree.result.now ≡ t = ap view c.body-tree.ensures.body in
    let new = c.in_ok-changed.changed in
    let answer : edit_answer same_node items page t edited ≡ Ok new =
    spliced_as items _ page t (view c.body-tree.result.now) edited (Ok new) c.items-items.ensures is_tree (c.in_ok-changed.ensures same_node tells_same) in
    let refused = c.in_err-check_meaning.field-0.0 in
    let handed : c.from_residual-in_err-check_meaning.result ≡ Err refused = search rules in
    made_refused pages t edited (edit_answer same_node items page t edited) new c.in_ok-text.text.now refused
    c.from_residual-in_err-check_meaning.result answer (c.in_ok-text.ensures ∙ c.as_str.ensures)
    (c.in_err-check_meaning.ensures.refused pages met told free) (subst (λ x. IsErrAnd x (λ r. r ≡ refused)) (sym handed) refl)

pub returns-clause-answered : goal.returns-clause-answered
returns-clause-answered g c = λ pages met told free.
    let page = c.args.revision.page.now in
    let edited = view c.args.revision.edited.now in
    let items = c.args.revision.annotated.now.items in
    let t = view c.args.revision.annotated.now.tree.body in
    let is_tree : view c.body-tree.result.now ≡ t = ap view c.body-tree.ensures.body in
    let new = c.in_ok-changed.changed in
    let answer : edit_answer same_node items page t edited ≡ Ok new =
    spliced_as items _ page t (view c.body-tree.result.now) edited (Ok new) c.items-items.ensures is_tree (c.in_ok-changed.ensures same_node tells_same) in
    made_is pages t edited (edit_answer same_node items page t edited) new c.in_ok-text.text.now answer (c.in_ok-text.ensures ∙ c.as_str.ensures)
    (c.in_ok-check_meaning.ensures.meant pages met told free)

pub returns-in_err-check_meaning-clause-asked : goal.returns-in_err-check_meaning-clause-asked
returns-in_err-check_meaning-clause-asked g c = λ pages met told free.
    let page = c.args.revision.page.now in
    let edited = view c.args.revision.edited.now in
    let items = c.args.revision.annotated.now.items in
    let t = view c.args.revision.annotated.now.tree.body in
    let is_tree : view c.body-tree.result.now ≡ t = ap view c.body-tree.ensures.body in
    let new = c.in_ok-changed.changed in
    let answer : edit_answer same_node items page t edited ≡ Ok new =
    spliced_as items _ page t (view c.body-tree.result.now) edited (Ok new) c.items-items.ensures is_tree (c.in_ok-changed.ensures same_node tells_same) in
    let d = g.F.Folder in
    let refused = c.in_err-check_meaning.field-0.0 in
    let handed : c.from_residual-in_err-check_meaning.result ≡ Err refused = search rules in
    let before = d.answered c.args.folder.now in
    let after = d.answered c.check_meaning.new.folder in
    let asked = c.in_err-check_meaning.ensures.asked pages met told free in
    asked_same (firsts_after met (fetches (new_work pages (edit_answer same_node items page t edited)))) before after
    c.from_residual-in_err-check_meaning.result refused (subst (λ x. IsErrAnd x (λ r. r ≡ refused)) (sym handed) refl)
    (subst (λ (es : List Entry). AsksErr refused (firsts_after met (fetches es)) before after)
    (made_work pages (edit_answer same_node items page t edited) new c.in_ok-text.text.now answer (c.in_ok-text.ensures ∙ c.as_str.ensures)) asked)

pub returns-clause-asked : goal.returns-clause-asked
returns-clause-asked g c = λ pages met told free.
    let page = c.args.revision.page.now in
    let edited = view c.args.revision.edited.now in
    let items = c.args.revision.annotated.now.items in
    let t = view c.args.revision.annotated.now.tree.body in
    let is_tree : view c.body-tree.result.now ≡ t = ap view c.body-tree.ensures.body in
    let new = c.in_ok-changed.changed in
    let answer : edit_answer same_node items page t edited ≡ Ok new =
    spliced_as items _ page t (view c.body-tree.result.now) edited (Ok new) c.items-items.ensures is_tree (c.in_ok-changed.ensures same_node tells_same) in
    let d = g.F.Folder in
    let before = d.answered c.args.folder.now in
    let after = d.answered c.check_meaning.new.folder in
    subst (λ (es : List Entry). after ≡ followed_by before (firsts_after met (fetches es)))
    (made_work pages (edit_answer same_node items page t edited) new c.in_ok-text.text.now answer (c.in_ok-text.ensures ∙ c.as_str.ensures))
    (c.in_ok-check_meaning.ensures.asked pages met told free)

pub returns-in_err-changed-clause-count : goal.returns-in_err-changed-clause-count
returns-in_err-changed-clause-count g c =
    unspliced_counted (g.F.Folder.fault_count c.args.folder.now) c.in_err-changed.field-0.0 c.from_residual.result
    c.from_residual.ensures.1
