use Rattle.std.proofs.Common.{List, ℕ, ap, sym, ◌∙◌, subst}
use Rattle.std.specs.Str.{IsCharBoundary}
use Rattle.std.proofs.lemmas.Str.{IsCharBoundary-start}
use Rattle.wt_tree.specs.View.{view}
use Rattle.wt_checks.specs.Places.{page_of}
use Rattle.wt_checks.specs.View.{indexed}
use Rattle.wt_slices.specs.BodySlices.{slices}
use Rattle.wt_slices.specs.Changes.{Pair, marked}
use Rattle.wt_selser.specs.Edits.{AnswersEdit, if_short, pairs_answer, refused_pairs}
use Rattle.wt_splice.specs.Splice.{AreAtBorders, Change, spliced}
use Rattle.wt_splice.specs.Views.{changes_view}
use Rattle.wt_slices.specs.Views.{pairs_of}
use Rattle.wt_slices.proofs.Borders.{slices_said}
use Rattle.wt_visible.specs.SameNodes.{same_node}
use Rattle.wt_visible.proofs.SameTells.{tells_same}
use Rattle.wt_selser.specs.Borders.{HaveOldBorders}
use Rattle.wt_selser.proofs.GroupBorders.{marked_borders}
use Rattle.wt_selser.proofs.Answering.{pairs_known, pairs_refused, pairs_stand, refused_by}
use Rattle.wt_selser.proofs.editing.checked_edit.Goals as goal

pub slices-requires : goal.slices-requires
slices-requires c = c.requires.index

pub refused_pairs-requires : goal.refused_pairs-requires
refused_pairs-requires c =
    let page = c.args.page.now in
    let t = view c.args.tree.now in
    let u = view c.args.edited.now in
    let pairs = ap pairs_of c.as_slice.ensures.value ∙ pairs_known (page_of t) (indexed c.args.index.now) u (pairs_of c.in_ok-pairs.pairs.items)
    c.requires.index c.in_ok-pairs.ensures in
    subst (λ (bs : List ℕ). HaveOldBorders bs (pairs_of c.as_slice.result.now)) (sym c.requires.text)
    (subst (λ (ps : List Pair). HaveOldBorders page ps) (sym pairs) (marked_borders page t u c.requires.places))

pub new_page-requires : goal.new_page-requires
new_page-requires c =
    let page = c.args.page.now in
    let t = view c.args.tree.now in
    let u = view c.args.edited.now in
    let changed = ap changes_view c.as_slice-2.ensures.value ∙ c.in_ok-changes.ensures same_node tells_same in
    subst (AreAtBorders page) (sym changed)
    (slices_said (λ p. IsCharBoundary page p) same_node t u (IsCharBoundary-start page c.utf8.page) c.requires.places)

pub returns-in-Some : goal.returns-in-Some
returns-in-Some c = λ same tells.
    let page = c.args.page.now in
    let t = view c.args.tree.now in
    let u = view c.args.edited.now in
    let pairs = ap pairs_of c.as_slice.ensures.value ∙ pairs_known (page_of t) (indexed c.args.index.now) u (pairs_of c.in_ok-pairs.pairs.items) c.requires.index
    c.in_ok-pairs.ensures in
    refused_by (pairs_answer same c.args.items.now page (marked t u) (slices same t u)) c.in-Some.refusal
    (pairs_refused (refused_pairs same c.args.items.now page (marked t u)) c.in_ok-refused.refused (if_short (spliced page (slices same t u))) c.in-Some.refusal
    (c.in_ok-refused.ensures same tells ∙ ap (λ (bs : List ℕ). refused_pairs same c.args.items.now bs (pairs_of c.as_slice.result.now)) c.as_bytes.ensures.value
    ∙ ap (λ (ps : List Pair). refused_pairs same c.args.items.now page ps) pairs) c.in-Some.is)

pub returns : goal.returns
returns c = λ same tells.
    let page = c.args.page.now in
    let t = view c.args.tree.now in
    let u = view c.args.edited.now in
    let pairs = ap pairs_of c.as_slice.ensures.value ∙ pairs_known (page_of t) (indexed c.args.index.now) u (pairs_of c.in_ok-pairs.pairs.items) c.requires.index
    c.in_ok-pairs.ensures in
    let changed = ap changes_view c.as_slice-2.ensures.value ∙ c.in_ok-changes.ensures same tells in
    pairs_stand (refused_pairs same c.args.items.now page (marked t u)) c.in_ok-refused.refused (if_short (spliced page (slices same t u))) c.new_page.result
    (c.in_ok-refused.ensures same tells ∙ ap (λ (bs : List ℕ). refused_pairs same c.args.items.now bs (pairs_of c.as_slice.result.now)) c.as_bytes.ensures.value
    ∙ ap (λ (ps : List Pair). refused_pairs same c.args.items.now page ps) pairs) c.in_default.is
    (subst (λ (cs : List Change). AnswersEdit (if_short (spliced page cs)) c.new_page.result) changed c.new_page.ensures)
