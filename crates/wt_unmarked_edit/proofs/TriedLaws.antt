-- From a new page that is read back to what is found.
use Rattle.std.proofs.Common.{◌≡◌, ◌≤◌, ◌<◌, ℕ, List, length, Bool, true, false, refl, sym, ap, ◌∙◌, subst, inl, inr, arith}
use Rattle.std.specs.Prelude.{Option, Some, None, IfOk, IsErrAnd, Result, Ok, Err}
use Rattle.wt_checks.specs.Checked.{nodes_checked}
use Rattle.wt_checks.specs.declared.refusal.TreeRefusal.{TreeRefusal}
use Rattle.wt_difference.specs.Difference.{are_none, difference}
use Rattle.wt_difference.specs.Remarked.{remarked}
use Rattle.wt_expand.specs.Work.{Pages}
use Rattle.wt_expansion.specs.Known.{HoldsPages}
use Rattle.wt_template_stack.specs.declared.expansion.Expansion.{Expansion}
use Rattle.wt_page_round_trip.specs.PageTree.{page_tree}
use Rattle.wt_places.specs.Rewritten.{IsRewritten}
use Rattle.wt_selser.specs.declared.refusal.EditRefusal.{EditRefusal as SpliceRefusal}
use Rattle.wt_selser.specs.declared.refusal.EditRefusal.TheVariants as of_splice
use Rattle.wt_selser.specs.Edits.{edit_answer, AnswersEdit}
use Rattle.wt_visible.specs.KeptMarks.{KeepsMarks}
use Rattle.wt_visible.specs.SameNodes.{same_node}
use Rattle.wt_span.specs.Origins.{Expanded}
use Rattle.wt_span.specs.declared.limits.TheConstants.{PAGE_BYTES}
use Rattle.wt_transclusion.specs.Answers.{IsRefused, IsCountedErr as IsCountedExpansion}
use Rattle.wt_transclusion.specs.declared.refusal.ExpandRefusal.{ExpandRefusal}
use Rattle.wt_transclusion.specs.declared.refusal.ExpandRefusal.TheVariants as of_expansion
use Rattle.wt_tree.specs.Tree.{Tree}
use Rattle.wt_tree.specs.View.{view}
use Rattle.wt_edit.specs.declared.known.KnownPage.{KnownPage}
use Rattle.wt_edit.specs.declared.refusal.EditRefusal.{EditRefusal}
use Rattle.wt_edit.specs.declared.refusal.EditRefusal.TheVariants as of_edit
use Rattle.wt_edit.specs.Edits.{IsPage, Refuses, new_answer, refusal_of_new, refusal_of_page}
use Rattle.wt_edit.proofs.EditLaws.{meant, new_refused}
use Rattle.wt_new_page.specs.declared.asked.Tried.{Tried}
use Rattle.wt_new_page.specs.declared.asked.Tried.TheVariants as tried
use Rattle.wt_new_page.specs.declared.asked.Fault.{Fault}
use Rattle.wt_new_page.specs.declared.asked.Fault.TheVariants as fault
use Rattle.wt_new_page.specs.declared.asked.ReadBack.{ReadBack}
use Rattle.wt_new_page.specs.declared.asked.ReadBack.TheVariants as back
use Rattle.wt_edit.specs.declared.selser_refusal.SelserRefusal.{SelserRefusal}
use Rattle.wt_edit.specs.declared.selser_refusal.SelserRefusal.TheVariants as refusal
use Rattle.wt_new_page.specs.declared.beside.Beside.{Beside}
use Rattle.wt_unmarked_edit.specs.Counts.{IsCounted, IsCountedErr, IsCountedRead, IsOfFolder}
use Rattle.wt_unmarked_edit.specs.Found.{AnswersUnmarked, FailsAs, FindsNew, FindsNone, FirstFails, IsFaultOf, IsFirst, IsNewPage, IsNoNewPage, IsOfNewPage, PageMustDo, ReadsBack, UnlessChecked, late_refusal, refusal_of_fault}
use Rattle.wt_new_page.specs.NewPages.{ComparedAs, MarkedAs}
use Rattle.wt_new_page.specs.Besides.{IsBeside}
use Rattle.wt_unmarked_edit.specs.Tried.{device_fault, FirstFailed, HoldsRead, HoldsTried, KnowsOf, ReadAs, TriedFirst, TriedMarks, TriedPage, TriedProposal}

-- ---- a new page that is read back

-- what has a fault doesn't read back
pub unread : (pages : Pages) (t u : Tree) (new : List ℕ) (why : Fault) → IsFaultOf pages t u new why → ¬ ReadsBack pages t u new
unread pages t u new fault.TooLong h b = let within = b.page.within in omega (arith, h, within)
unread pages t u new fault.Expansion h b = let e = sym h.1.refused ∙ b.shows in cc
unread pages t u new (fault.Block k) h b = let e = sym h.refused ∙ b.shows in cc

pub read_as : (pages : Pages) (t u : Tree) (new : List ℕ) (found : KnownPage) (b : ReadBack) → IsPage new → refusal_of_page pages new ≡ None
    → view found.annotated.tree.body ≡ page_tree pages new → KnowsOf pages found.expansion → ComparedAs found t u b → ReadAs pages t u new b
read_as pages t u new found (back.Shows shown) its unrefused is knows c = (
  record { page = its; shows = meant pages t u (view found.annotated.tree.body) new None unrefused is c.1 },
  subst (λ (f : KnownPage). view f.annotated.tree.body ≡ page_tree pages new) (sym c.0) is,
  subst (λ (f : KnownPage). KnowsOf pages f.expansion) (sym c.0) knows,
)
read_as pages t u new found (back.Fails why x) its unrefused is knows c = (
  subst (KnowsOf pages) (sym c.0) knows,
  subst (IsFaultOf pages t u new) (sym c.1.1.0)
      (record { page = its; refused = meant pages t u (view found.annotated.tree.body) new (Some c.1.0) unrefused is c.1.1.1 }),
)

pub holds_read : (found : KnownPage) (t u : Tree) (b : ReadBack) → HoldsPages found.expansion → ComparedAs found t u b → HoldsRead b
holds_read found t u (back.Shows shown) h c = subst (λ (f : KnownPage). HoldsPages f.expansion) (sym c.0) h
holds_read found t u (back.Fails why x) h c = subst HoldsPages (sym c.0) h

-- ---- an expansion that is refused

-- no device failed: the new page's expansion is refused
pub unread_fault : (pages : Pages) (t u : Tree) (new : List ℕ) (e : ExpandRefusal) → IsPage new → device_fault e ≡ None
    → IsRefused (refusal_of_page pages new) e → IsFaultOf pages t u new fault.Expansion
unread_fault pages t u new e its none is = by e none (new_refused pages t u new e (refusal_of_new e) refl is)
  where
    by : (e : ExpandRefusal) → device_fault e ≡ None → Refuses (refusal_of_new e) (new_answer pages t u new)
        → IsFaultOf pages t u new fault.Expansion
    by (of_expansion.BracesTooDeep title place) n r = (of_expansion.BracesTooDeep title place, record { page = its; refused = r })
    by of_expansion.TooLarge n r = (of_expansion.TooLarge, record { page = its; refused = r })
    by of_expansion.FolderFault n r = absurd cc
    by (of_expansion.TemplateNotUtf8 title place) n r = (of_expansion.TemplateNotUtf8 title place, record { page = its; refused = r })
    by (of_expansion.TemplateTooLong title) n r = (of_expansion.TemplateTooLong title, record { page = its; refused = r })
    by of_expansion.NoMemory n r = absurd cc

pub uncounted : (before after : ℕ) (e : ExpandRefusal) → device_fault e ≡ None → IsCountedExpansion before after e → after ≡ before
uncounted before after (of_expansion.BracesTooDeep title place) n h = h
uncounted before after of_expansion.TooLarge n h = h
uncounted before after of_expansion.FolderFault n h = absurd cc
uncounted before after (of_expansion.TemplateNotUtf8 title place) n h = h
uncounted before after (of_expansion.TemplateTooLong title) n h = h
uncounted before after of_expansion.NoMemory n h = h

pub fault_counted : (before after : ℕ) (e : ExpandRefusal) (r : SelserRefusal) → device_fault e ≡ Some r → IsCountedExpansion before after e
    → IsOfFolder before after r
fault_counted before after (of_expansion.BracesTooDeep title place) r n h = absurd cc
fault_counted before after of_expansion.TooLarge r n h = absurd cc
fault_counted before after of_expansion.FolderFault r n h = let same : refusal.FolderFault ≡ r = cc in subst (IsOfFolder before after) same h
fault_counted before after (of_expansion.TemplateNotUtf8 title place) r n h = absurd cc
fault_counted before after (of_expansion.TemplateTooLong title) r n h = absurd cc
fault_counted before after of_expansion.NoMemory r n h = let same : refusal.NoMemory ≡ r = cc in subst (IsOfFolder before after) same h

-- ---- the folder's count

-- where the folder failed, or memory ran out
of_folder : (before after : ℕ) (r : SelserRefusal) → IsOfFolder before after r → IsCountedErr before after r
of_folder before after (refusal.Check c) h = absurd h
of_folder before after (refusal.BadContent n why) h = absurd h
of_folder before after refusal.NewPageTooLong h = absurd h
of_folder before after refusal.NewExpansion h = absurd h
of_folder before after (refusal.Unspelled k) h = absurd h
of_folder before after refusal.FolderFault h = h
of_folder before after refusal.NoMemory h = h

pub fault_of_edit : {T : Type 0} (before after : ℕ) (result : Result T SelserRefusal) (r : SelserRefusal) → result ≡ Err r → IsOfFolder before after r
    → IsCounted before after result
fault_of_edit before after result r is h = subst (IsCounted before after) (sym is) (of_folder before after r h)

-- a page was read, and then the rest was done
pub counted_then : {T : Type 0} (before mid after : ℕ) (result : Result T SelserRefusal) → mid ≡ before → IsCounted mid after result
    → IsCounted before after result
counted_then before mid after result same h = subst (λ n. IsCounted n after result) same h

-- no page was read since
pub counted_late : (before after : ℕ) (e : SpliceRefusal) (f : Fault) (r : SelserRefusal) → r ≡ late_refusal (Err e) f
    → after ≡ before → IsCountedErr before after r
counted_late before after e f r is same = subst (IsCountedErr before after) (sym is) (by e)
  where
    by_fault : (f : Fault) → IsCountedErr before after (refusal_of_fault f)
    by_fault fault.TooLong = same
    by_fault fault.Expansion = same
    by_fault (fault.Block k) = same

    by : (e : SpliceRefusal) → IsCountedErr before after (late_refusal (Err e) f)
    by (of_splice.Check c) = by_fault f
    by (of_splice.BadContent n why) = same
    by (of_splice.Tangled n) = by_fault f
    by of_splice.NewPageTooLong = same
    by of_splice.NoMemory = same

pub counted_fault : (before after : ℕ) (f : Fault) (r : SelserRefusal) → r ≡ refusal_of_fault f → after ≡ before → IsCountedErr before after r
counted_fault before after f r is same = subst (IsCountedErr before after) (sym is) (by f)
  where
    by : (f : Fault) → IsCountedErr before after (refusal_of_fault f)
    by fault.TooLong = same
    by fault.Expansion = same
    by (fault.Block k) = same

-- ---- a page that was tried

pub page_stands : (pages : Pages) (t u : Tree) (new text : List ℕ) (b : ReadBack) (found : KnownPage) → b ≡ back.Shows found → text ≡ new
    → ReadAs pages t u text b → ReadsBack pages t u new
page_stands pages t u new text b found is same h = subst (ReadsBack pages t u) same (subst (ReadAs pages t u text) is h).0

pub page_fails : (pages : Pages) (t u : Tree) (new text : List ℕ) (b : ReadBack) (why : Fault) (x : Expansion) → b ≡ back.Fails why x → text ≡ new
    → ReadAs pages t u text b → KnowsOf pages x × IsFaultOf pages t u new why
page_fails pages t u new text b why x is same h =
    let r : ReadAs pages t u text (back.Fails why x) = subst (ReadAs pages t u text) is h in
    (r.0, subst (λ bs. IsFaultOf pages t u bs why) same r.1)

pub marks_unread : (pages : Pages) (t u : Tree) (new text : List ℕ) (b : ReadBack) (why : Fault) (x : Expansion) → b ≡ back.Fails why x → text ≡ new
    → ReadAs pages t u text b → TriedMarks pages t u new (tried.Fails why x)
marks_unread pages t u new text b why x is same h =
    let p = page_fails pages t u new text b why x is same h in (p.0, inl p.1)

-- where it reads back, it is asked for its marks
pub marks_tried : (pages : Pages) (t u : Tree) (new text : List ℕ) (b : ReadBack) (found : KnownPage) (r : Tried) → b ≡ back.Shows found → text ≡ new
    → ReadAs pages t u text b → MarkedAs found t u new r → TriedMarks pages t u new r
marks_tried pages t u new text b found (tried.Stands given) is same h m =
    let s : ReadAs pages t u text (back.Shows found) = subst (ReadAs pages t u text) is h in
    (m.0, subst (ReadsBack pages t u) same s.0, subst (λ (v : Tree). KeepsMarks v t u) (s.1 ∙ ap (page_tree pages) same) m.1)
marks_tried pages t u new text b found (tried.Fails why x) is same h m =
    let s : ReadAs pages t u text (back.Shows found) = subst (ReadAs pages t u text) is h in
    let lost : ¬ KeepsMarks (page_tree pages new) t u = subst (λ (v : Tree). ¬ KeepsMarks v t u) (s.1 ∙ ap (page_tree pages) same) m.2 in
    (subst (KnowsOf pages) (sym m.0) s.2, inr (lost, m.1))

pub marks_hold : (t u : Tree) (new : List ℕ) (b : ReadBack) (found : KnownPage) (r : Tried) → b ≡ back.Shows found → HoldsRead b
    → MarkedAs found t u new r → HoldsTried r
marks_hold t u new b found (tried.Stands given) is h m = tt
marks_hold t u new b found (tried.Fails why x) is h m =
    let s : HoldsRead (back.Shows found) = subst HoldsRead is h in subst HoldsPages (sym m.0) s

pub proposal_tried : (pages : Pages) (page : List ℕ) (t u : Tree) (new : List ℕ) (r : Result Tried SelserRefusal) → IsRewritten page t u new
    → IfOk r (TriedMarks pages t u new) → IfOk r (TriedProposal pages page t u)
proposal_tried pages page t u new (Ok (tried.Stands given)) w h = (
  record {
    rewritten = subst (IsRewritten page t u) (sym h.0) w;
    keeps = subst (λ bs. KeepsMarks (page_tree pages bs) t u) (sym h.0) h.2;
  },
  subst (ReadsBack pages t u) (sym h.0) h.1,
)
proposal_tried pages page t u new (Ok (tried.Fails why x)) w h = (h.0, record { first = Some new; made = w; fails = h.1 })
proposal_tried pages page t u new (Err e) w h = tt

-- ---- the first new page

not_same : (pages : Pages) (page : List ℕ) (t u : Tree) (same : Bool) → same ≡ false → ¬ PageMustDo pages page t u same
not_same pages page t u same none m = let e : false ≡ true = sym none ∙ m.0 in cc

pub first_same : (pages : Pages) (items : Expanded) (page : List ℕ) (t u : Tree) (same : Bool) (new : List ℕ) (r : Result Tried SelserRefusal) → same ≡ true
    → new ≡ page → IfOk r (TriedPage pages t u new) → IfOk r (TriedFirst pages items page t u same)
first_same pages items page t u same new (Ok (tried.Stands given)) all is h = record {
  made = inr (inl (all, h.0 ∙ is));
  back = subst (ReadsBack pages t u) (sym h.0) h.1;
  itself = λ m. h.0 ∙ is;
}
first_same pages items page t u same new (Ok (tried.Fails why x)) all is h =
    let made : IsFirst page t u same (Some new) = subst (λ b. IsFirst page t u b (Some new)) (sym all) is in (
      h.0,
      (
        λ m. unread pages t u new why h.1 (subst (ReadsBack pages t u) (sym is) m.1),
        record { first = Some new; made = made; fails = inl h.1 },
      ),
    )
first_same pages items page t u same new (Err e) all is h = tt

pub first_proposed : (pages : Pages) (items : Expanded) (page : List ℕ) (t u : Tree) (same : Bool) (r : Result Tried SelserRefusal) → same ≡ false
    → IfOk r (TriedProposal pages page t u) → IfOk r (TriedFirst pages items page t u same)
first_proposed pages items page t u same (Ok (tried.Stands new)) none h = record {
  made = inl h.0;
  back = h.1;
  itself = λ m. absurd (not_same pages page t u same none m);
}
first_proposed pages items page t u same (Ok (tried.Fails why x)) none h =
    (h.0, (not_same pages page t u same none, subst (λ b. FirstFails pages page t u b why) (sym none) h.1))
first_proposed pages items page t u same (Err e) none h = tt

-- ---- what is found

-- a fault of the folder, or want of memory
finds_fault : (pages : Pages) (items : Expanded) (page : List ℕ) (t u : Tree) (same : Bool) (before after : ℕ) (r : SelserRefusal)
    → IsOfFolder before after r → FindsNone pages items page t u same r
finds_fault pages items page t u same before after (refusal.Check c) h = h
finds_fault pages items page t u same before after (refusal.BadContent n why) h = absurd h
finds_fault pages items page t u same before after refusal.NewPageTooLong h = absurd h
finds_fault pages items page t u same before after refusal.NewExpansion h = absurd h
finds_fault pages items page t u same before after (refusal.Unspelled k) h = absurd h
finds_fault pages items page t u same before after refusal.FolderFault h = tt
finds_fault pages items page t u same before after refusal.NoMemory h = tt

pub fault_found : (pages : Pages) (items : Expanded) (page : List ℕ) (t u : Tree) (same : Bool) (before after : ℕ) (result : Result (List ℕ) SelserRefusal)
    (r : SelserRefusal) → result ≡ Err r → IsOfFolder before after r → FindsNew pages items page t u same result
fault_found pages items page t u same before after result r is h =
    subst (FindsNew pages items page t u same) (sym is) (finds_fault pages items page t u same before after r h)

-- no new page
none_found : (pages : Pages) (items : Expanded) (page : List ℕ) (t u : Tree) (same : Bool) (r : SelserRefusal) → IsNoNewPage pages items page t u same r
    → FindsNone pages items page t u same r
none_found pages items page t u same (refusal.Check c) h = h.late
none_found pages items page t u same (refusal.BadContent n why) h = h
none_found pages items page t u same refusal.NewPageTooLong h = h
none_found pages items page t u same refusal.NewExpansion h = h
none_found pages items page t u same (refusal.Unspelled k) h = h
none_found pages items page t u same refusal.FolderFault h = tt
none_found pages items page t u same refusal.NoMemory h = tt

late_fault : (f : Fault) → IsOfNewPage (refusal_of_fault f)
late_fault fault.TooLong = tt
late_fault fault.Expansion = tt
late_fault (fault.Block k) = tt

finds_none : (pages : Pages) (items : Expanded) (page : List ℕ) (t u : Tree) (same : Bool) (r : SelserRefusal) (f : Fault) → IsOfNewPage r
    → r ≡ late_refusal (edit_answer same_node items page t u) f
    → ((new : List ℕ) → edit_answer same_node items page t u ≡ Ok new → ¬ ReadsBack pages t u new)
    → FirstFailed pages page t u same f → FindsNone pages items page t u same r
finds_none pages items page t u same r f late is unedited first = none_found pages items page t u same r (record {
  late = late;
  fault = f;
  first = first.1;
  is = is;
  unedited = unedited;
  itself = first.0;
})

-- `edit` is refused
edit_refuses : (pages : Pages) (t u : Tree) (answer : Result (List ℕ) SpliceRefusal) (e : SpliceRefusal) (new : List ℕ) → answer ≡ Err e
    → answer ≡ Ok new → ¬ ReadsBack pages t u new
edit_refuses pages t u answer e new is made b = let x = sym is ∙ made in cc

pub finds_refused : (pages : Pages) (items : Expanded) (page : List ℕ) (t u : Tree) (same : Bool) (r : SelserRefusal) (e : SpliceRefusal) (f : Fault)
    → r ≡ late_refusal (Err e) f → AnswersEdit (edit_answer same_node items page t u) (Err e) → FirstFailed pages page t u same f
    → FindsNone pages items page t u same r
finds_refused pages items page t u same r (of_splice.Check c) f is h first =
    finds_none pages items page t u same r f (subst IsOfNewPage (sym is) (late_fault f)) (is ∙ sym (ap (λ a. late_refusal a f) h))
    (λ new. edit_refuses pages t u (edit_answer same_node items page t u) (of_splice.Check c) new h) first
finds_refused pages items page t u same r (of_splice.BadContent n why) f is h first =
    finds_none pages items page t u same r f (subst IsOfNewPage (sym is) tt) (is ∙ sym (ap (λ a. late_refusal a f) h))
    (λ new. edit_refuses pages t u (edit_answer same_node items page t u) (of_splice.BadContent n why) new h) first
finds_refused pages items page t u same r (of_splice.Tangled n) f is h first =
    finds_none pages items page t u same r f (subst IsOfNewPage (sym is) (late_fault f)) (is ∙ sym (ap (λ a. late_refusal a f) h))
    (λ new. edit_refuses pages t u (edit_answer same_node items page t u) (of_splice.Tangled n) new h) first
finds_refused pages items page t u same r of_splice.NewPageTooLong f is h first =
    finds_none pages items page t u same r f (subst IsOfNewPage (sym is) tt) (is ∙ sym (ap (λ a. late_refusal a f) h))
    (λ new. edit_refuses pages t u (edit_answer same_node items page t u) of_splice.NewPageTooLong new h) first
finds_refused pages items page t u same r of_splice.NoMemory f is h first =
    subst (FindsNone pages items page t u same) (sym is) tt

-- what `edit` makes, as it is read back
pub edit_stands : (pages : Pages) (items : Expanded) (page : List ℕ) (t u : Tree) (same : Bool) (new given : List ℕ) (r : Tried) → r ≡ tried.Stands given
    → edit_answer same_node items page t u ≡ Ok new → TriedPage pages t u new r → ¬ PageMustDo pages page t u same
    → IsNewPage pages items page t u same given
edit_stands pages items page t u same new given r is answer h n =
    let s : TriedPage pages t u new (tried.Stands given) = subst (TriedPage pages t u new) is h in
    record {
      made = inr (inr (answer ∙ ap Ok (sym s.0)));
      back = subst (ReadsBack pages t u) (sym s.0) s.1;
      itself = λ m. absurd (n m);
    }

-- it is no other page than the one that doesn't read back
edit_unread : (pages : Pages) (t u : Tree) (answer : Result (List ℕ) SpliceRefusal) (new given : List ℕ) → answer ≡ Ok new → ¬ ReadsBack pages t u new
    → answer ≡ Ok given → ¬ ReadsBack pages t u given
edit_unread pages t u answer new given is fails made b =
    let same : given ≡ new = let e = sym made ∙ is in cc in fails (subst (ReadsBack pages t u) same b)

pub edit_fails : (pages : Pages) (items : Expanded) (page : List ℕ) (t u : Tree) (same : Bool) (new : List ℕ) (r : Tried) (why first : Fault) (x : Expansion)
    (refused : SelserRefusal) → r ≡ tried.Fails why x → refused ≡ refusal_of_fault first → edit_answer same_node items page t u ≡ Ok new
    → TriedPage pages t u new r → FirstFailed pages page t u same first → FindsNone pages items page t u same refused
edit_fails pages items page t u same new r why first x refused is is_fault answer h failed =
    let s : TriedPage pages t u new (tried.Fails why x) = subst (TriedPage pages t u new) is h in
    finds_none pages items page t u same refused first (subst IsOfNewPage (sym is_fault) (late_fault first))
    (is_fault ∙ sym (ap (λ a. late_refusal a first) answer))
    (λ given. edit_unread pages t u (edit_answer same_node items page t u) new given answer (unread pages t u new why s.1)) failed

-- a proposal, as it is read back
pub proposal_stands : (pages : Pages) (items : Expanded) (page : List ℕ) (t u : Tree) (same : Bool) (given : List ℕ) (r : Tried) → r ≡ tried.Stands given
    → TriedProposal pages page t u r → ¬ PageMustDo pages page t u same → IsNewPage pages items page t u same given
proposal_stands pages items page t u same given r is h n =
    let s : TriedProposal pages page t u (tried.Stands given) = subst (TriedProposal pages page t u) is h in
    record { made = inl s.0; back = s.1; itself = λ m. absurd (n m) }

-- what is known after a proposal that isn't the answer is of this folder
pub failed_knows : (pages : Pages) (page : List ℕ) (t u : Tree) (r : Tried) (why : Fault) (x : Expansion) → r ≡ tried.Fails why x
    → TriedProposal pages page t u r → KnowsOf pages x
failed_knows pages page t u r why x is h =
    let s : TriedProposal pages page t u (tried.Fails why x) = subst (TriedProposal pages page t u) is h in s.0

-- ---- the answer

-- memory ran out
pub memory_answers : (pages : Pages) (items : Expanded) (page : List ℕ) (t edited : Tree) (result : Result (List ℕ) SelserRefusal)
    → IsErrAnd result (λ r. r ≡ refusal.NoMemory) → AnswersUnmarked pages items page t edited result
memory_answers pages items page t edited (Ok new) is = absurd is
memory_answers pages items page t edited (Err r) is =
    subst (λ (x : SelserRefusal). AnswersUnmarked pages items page t edited (Err x)) (sym is) (by (nodes_checked t (remarked t edited)))
  where
    by : (o : Option TreeRefusal) → UnlessChecked o
        (FindsNew pages items page t (remarked t edited) (are_none (difference t edited)) (Err refusal.NoMemory)) (Err refusal.NoMemory)
    by None = tt
    by (Some c) = tt

-- none of the nodes is refused
taken_answers : (o : Option TreeRefusal) (F : Type 0) (result : Result (List ℕ) SelserRefusal) → o ≡ None → F → UnlessChecked o F result
taken_answers o F result none f = subst (λ x. UnlessChecked x F result) (sym none) f

-- one is
refused_answers : (o : Option TreeRefusal) (F : Type 0) (c : TreeRefusal) → o ≡ Some c → UnlessChecked o F (Err (refusal.Check c))
refused_answers o F c some = subst (λ x. UnlessChecked x F (Err (refusal.Check c))) (sym some) refl

pub beside_answers : (pages : Pages) (items : Expanded) (page : List ℕ) (t v edited : Tree) (c : Beside) (result : Result (List ℕ) SelserRefusal) → v ≡ t
    → IsBeside v edited c → c.refused ≡ None → FindsNew pages items page v (view c.edited) c.same result
    → AnswersUnmarked pages items page t edited result
beside_answers pages items page t v edited c result is h none f =
    subst (λ (x : Tree). AnswersUnmarked pages items page x edited result) is
    (taken_answers (nodes_checked v (remarked v edited))
    (FindsNew pages items page v (remarked v edited) (are_none (difference v edited)) result) result (sym h.refused ∙ none)
    (subst (λ b. FindsNew pages items page v (remarked v edited) b result) h.same
    (subst (λ (u : Tree). FindsNew pages items page v u c.same result) h.marked f)))

pub beside_refused : (pages : Pages) (items : Expanded) (page : List ℕ) (t v edited : Tree) (c : Beside) (check : TreeRefusal) → v ≡ t
    → IsBeside v edited c → c.refused ≡ Some check → AnswersUnmarked pages items page t edited (Err (refusal.Check check))
beside_refused pages items page t v edited c check is h some =
    subst (λ (x : Tree). AnswersUnmarked pages items page x edited (Err (refusal.Check check))) is
    (refused_answers (nodes_checked v (remarked v edited))
    (FindsNew pages items page v (remarked v edited) (are_none (difference v edited)) (Err (refusal.Check check))) check (sym h.refused ∙ some))
