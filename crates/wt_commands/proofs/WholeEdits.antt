-- From what the edit of a page answers, as one call, to the answer of the program.
use Rattle.std.proofs.Common.{◌≡◌, ℕ, List, refl, sym, ap, ◌∙◌, subst, inl, inr}
use Rattle.std.specs.Prelude.{◌⊎◌, Option, Some, None, IfErr, IsErrAnd, Result, Ok, Err}
use Rattle.wt_devices.specs.Device.{Rose}
use Rattle.wt_tree.specs.Tree.{Tree}
use Rattle.wt_utf8.proofs.PlaceLaws.{no_place}
use Rattle.wt_expand.specs.Work.{Entry, Pages, Refused, fetches, firsts_after}
use Rattle.wt_transclusion.specs.Asked.{AreFirst}
use Rattle.wt_transclusion.proofs.AskedLaws.{first_some}
use Rattle.wt_page_round_trip.specs.PageTree.{page_tree}
use Rattle.wt_visible.specs.Children.{shown_children, differing}
use Rattle.wt_visible.specs.Restored.{restored_from}
use Rattle.wt_selser.specs.declared.refusal.EditRefusal.{EditRefusal}
use Rattle.wt_selser.specs.declared.refusal.EditRefusal.TheVariants as of_edit
use Rattle.wt_edit.specs.declared.refusal.EditRefusal.{EditRefusal as WholeRefusal}
use Rattle.wt_edit.specs.declared.refusal.EditRefusal.TheVariants as of_whole
use Rattle.wt_edit.specs.Asked.{AsksErr, RanOutFirst, new_work as new_work_of}
use Rattle.wt_edit.specs.Edits.{IsCountedErr, IsPage, Refuses as RefusesEdit, answer_by, expanded_by as expanded_edit, new_answer as new_edit, refusal_of_splice, shown_by}
use Rattle.wt_commands.specs.declared.output.Output.{Output}
use Rattle.wt_commands.specs.declared.refusal.Refusal.{Refusal}
use Rattle.wt_commands.specs.Answers.{Answer, done, refused, refusal_of_page, unspelled_by, new_by, new_expanded, new_answer, edit_by}
use Rattle.wt_commands.specs.Asked.{work_done, title_work, new_work, followed_by, AsksAs, AsksNames}
use Rattle.wt_commands.specs.Causes.{Answered, Refuses, IsKept, IsOfEdit}
use Rattle.wt_commands.specs.Refusals.{refusal_of_edit, refusal_of_whole, status_of}
use Rattle.wt_commands.proofs.AskedLaws.{new_text}
use Rattle.wt_commands.proofs.PageLaws.{page_text}

-- ---- the answer

-- what the edit answers, as the program names it
abbrev pub answer_as : Result (List ℕ) WholeRefusal → Answer
answer_as (Ok new) = done new
answer_as (Err e) = refused (refusal_of_whole e)

as_new_by : (new : List ℕ) (k : Option ℕ) (o : Option Refused) → new_by (unspelled_by new k) o ≡ answer_as (expanded_edit (shown_by new k) o)
as_new_by new None None = refl
as_new_by new (Some k) None = refl
as_new_by new None (Some r) = refl
as_new_by new (Some k) (Some r) = refl

pub as_new : (pages : Pages) (t edited : Tree) (new : List ℕ) → IsPage new → new_answer pages t edited new ≡ answer_as (new_edit pages t edited new)
as_new pages t edited new h =
    page_text new h.within (no_place new h.text) (new_expanded pages t edited)
    ∙ as_new_by new (differing 1 (shown_children (page_tree pages new)) (shown_children (restored_from t edited))) (refusal_of_page pages new)

as_refused : (answer : Result (List ℕ) WholeRefusal) (e : WholeRefusal) → RefusesEdit e answer → Refuses (refusal_of_whole e) (answer_as answer)
as_refused answer (of_whole.Check c) h = ap answer_as h
as_refused answer (of_whole.BadContent n why) h = ap answer_as h
as_refused answer (of_whole.Tangled n) h = ap answer_as h
as_refused answer of_whole.NewPageTooLong h = ap answer_as h
as_refused answer (of_whole.NewExpansion e) h = ap answer_as h
as_refused answer (of_whole.Unspelled k) h = ap answer_as h
as_refused answer of_whole.FolderFault h = tt
as_refused answer of_whole.NoMemory h = tt

-- what the splice refuses the edit refuses
as_spliced : (e : EditRefusal) → refused (refusal_of_whole (refusal_of_splice e)) ≡ refused (refusal_of_edit e)
as_spliced (of_edit.Check c) = refl
as_spliced (of_edit.BadContent n why) = refl
as_spliced (of_edit.Tangled n) = refl
as_spliced of_edit.NewPageTooLong = refl
as_spliced of_edit.NoMemory = refl

-- a refusal of the edit
edit_refuses : (pages : Pages) (t edited : Tree) (answer : Result (List ℕ) EditRefusal) (before after : Option (List (List ℕ)))
    (result : Result (List ℕ) WholeRefusal) (e : WholeRefusal) → result ≡ Err e
    → ((new : List ℕ) → answer ≡ Ok new → IsPage new ⊎ RanOutFirst before after result)
    → RefusesEdit e (answer_by pages t edited answer) → Refuses (refusal_of_whole e) (edit_by pages t edited answer)
edit_refuses pages t edited (Err x) before after result e is page h =
    subst (Refuses (refusal_of_whole e)) (as_spliced x) (as_refused (Err (refusal_of_splice x)) e h)
edit_refuses pages t edited (Ok new) before after result e is page h = by (page new refl)
  where
    by : IsPage new ⊎ RanOutFirst before after result → Refuses (refusal_of_whole e) (new_answer pages t edited new)
    by (inl its) = subst (Refuses (refusal_of_whole e)) (sym (as_new pages t edited new its)) (as_refused (new_edit pages t edited new) e h)
    by (inr out) =
        let same : e ≡ of_whole.NoMemory = let f = sym is ∙ out.0 in cc in
        subst (λ (x : WholeRefusal). Refuses (refusal_of_whole x) (new_answer pages t edited new)) (sym same) tt

pub edit_refused_from : (pages : Pages) (t edited : Tree) (answer : Result (List ℕ) EditRefusal) (before after : Option (List (List ℕ)))
    (found : Result (List ℕ) WholeRefusal) (e : WholeRefusal) (result : Result Output Refusal) → found ≡ Err e
    → ((new : List ℕ) → answer ≡ Ok new → IsPage new ⊎ RanOutFirst before after found) → RefusesEdit e (answer_by pages t edited answer)
    → IsErrAnd result (λ r. r ≡ refusal_of_whole e) → Answered (edit_by pages t edited answer) result
edit_refused_from pages t edited answer before after found e (Ok output) is page h err = absurd err
edit_refused_from pages t edited answer before after found e (Err r) is page h err =
    subst (λ x. Refuses x (edit_by pages t edited answer)) (sym err) (edit_refuses pages t edited answer before after found e is page h)

-- its new page
pub edit_answers : (pages : Pages) (t edited : Tree) (answer : Result (List ℕ) EditRefusal) (new : List ℕ) → IsPage new
    → answer_by pages t edited answer ≡ Ok new → edit_by pages t edited answer ≡ done new
edit_answers pages t edited (Err x) new its e = cc
edit_answers pages t edited (Ok bytes) new its e =
    let same = new_is new bytes (differing 1 (shown_children (page_tree pages bytes)) (shown_children (restored_from t edited))) (refusal_of_page pages bytes) e in
    as_new pages t edited bytes (subst IsPage (sym same) its) ∙ ap answer_as e
  where
    new_is : (new bytes : List ℕ) (k : Option ℕ) (o : Option Refused) → expanded_edit (shown_by bytes k) o ≡ Ok new → bytes ≡ new
    new_is new bytes None None e = cc
    new_is new bytes (Some k) None e = cc
    new_is new bytes None (Some r) e = cc
    new_is new bytes (Some k) (Some r) e = cc

counted_edit : (before after : ℕ) (e : WholeRefusal) → IsCountedErr before after e → IsOfEdit ⊥ (Rose before after) (refusal_of_whole e)
counted_edit before after (of_whole.Check c) h = tt
counted_edit before after (of_whole.BadContent n why) h = tt
counted_edit before after (of_whole.Tangled n) h = tt
counted_edit before after of_whole.NewPageTooLong h = tt
counted_edit before after (of_whole.NewExpansion e) h = tt
counted_edit before after (of_whole.Unspelled k) h = tt
counted_edit before after of_whole.FolderFault h = h
counted_edit before after of_whole.NoMemory h = tt

pub edit_counted : (before after : ℕ) (e : WholeRefusal) (result : Result Output Refusal) → IsErrAnd result (λ r. r ≡ refusal_of_whole e)
    → IsCountedErr before after e → IfErr result (IsOfEdit ⊥ (Rose before after))
edit_counted before after e (Ok output) err h = absurd err
edit_counted before after e (Err r) err h = subst (IsOfEdit ⊥ (Rose before after)) (sym err) (counted_edit before after e h)

abbrev refused_as : Refusal → Result Output Refusal
refused_as r = Err r

kept_edit : (before after : ℕ) (e : WholeRefusal) → IsCountedErr before after e → IsKept (refused_as (refusal_of_whole e)) before after
kept_edit before after (of_whole.Check c) h = λ _. h
kept_edit before after (of_whole.BadContent n why) h = λ _. h
kept_edit before after (of_whole.Tangled n) h = λ _. h
kept_edit before after of_whole.NewPageTooLong h = λ _. h
kept_edit before after (of_whole.NewExpansion e) h = λ _. h
kept_edit before after (of_whole.Unspelled k) h = λ _. h
kept_edit before after of_whole.FolderFault h = λ a. absurd a
kept_edit before after of_whole.NoMemory h = λ a. absurd a

pub edit_kept : (before after : ℕ) (e : WholeRefusal) (result : Result Output Refusal) → IsErrAnd result (λ r. r ≡ refusal_of_whole e)
    → IsCountedErr before after e → IsKept result before after
edit_kept before after e (Ok output) err h = absurd err
edit_kept before after e (Err r) err h = subst (λ x. IsKept (refused_as x) before after) (sym err) (kept_edit before after e h)

-- ---- names

-- the edit asks for the names of the new page's work as a command does
edit_asks : (e : WholeRefusal) (names : List (List ℕ)) (before after : Option (List (List ℕ))) → AsksErr e names before after
    → AsksAs (status_of (refusal_of_whole e)) names before after
edit_asks (of_whole.Check c) names before after h = h
edit_asks (of_whole.BadContent n why) names before after h = h
edit_asks (of_whole.Tangled n) names before after h = h
edit_asks of_whole.NewPageTooLong names before after h = h
edit_asks (of_whole.NewExpansion e) names before after h = h
edit_asks (of_whole.Unspelled k) names before after h = h
edit_asks of_whole.FolderFault names before after h = h
edit_asks of_whole.NoMemory names before after h = h

same_work : (pages : Pages) (new : List ℕ) → IsPage new → work_done pages new ≡ title_work (Some new) (work_done pages)
same_work pages new h = sym (new_text new (work_done pages) (page_text new h.within (no_place new h.text)))

pub edit_refused_names : (met : List (List ℕ)) (pages : Pages) (answer : Result (List ℕ) EditRefusal) (before after : Option (List (List ℕ)))
    (result : Result (List ℕ) WholeRefusal) (e : WholeRefusal) → result ≡ Err e
    → ((new : List ℕ) → answer ≡ Ok new → IsPage new ⊎ RanOutFirst before after result)
    → AsksErr e (firsts_after met (fetches (new_work_of pages answer))) before after
    → AsksAs (status_of (refusal_of_whole e)) (firsts_after met (fetches (new_work pages answer))) before after
edit_refused_names met pages (Err x) before after result e is page h =
    edit_asks e (firsts_after met (fetches (new_work pages (Err x)))) before after h
edit_refused_names met pages (Ok new) before after result e is page h = by (page new refl)
  where
    names : List (List ℕ)
    names = firsts_after met (fetches (title_work (Some new) (work_done pages)))

    by : IsPage new ⊎ RanOutFirst before after result → AsksAs (status_of (refusal_of_whole e)) names before after
    by (inl its) =
        edit_asks e names before after
        (subst (λ (es : List Entry). AsksErr e (firsts_after met (fetches es)) before after) (same_work pages new its) h)
    by (inr out) =
        let same : e ≡ of_whole.NoMemory = let f = sym is ∙ out.0 in cc in
        subst (λ (x : WholeRefusal). AsksAs (status_of (refusal_of_whole x)) names before after) (sym same)
        (subst (λ x. AreFirst x (followed_by before names)) (sym out.1) (first_some before names))

pub edit_refused_asked : {T : Type 0} (met : List (List ℕ)) (pages : Pages) (answer : Result (List ℕ) EditRefusal)
    (before after : Option (List (List ℕ))) (found : Result (List ℕ) WholeRefusal) (e : WholeRefusal) (result : Result T Refusal) → found ≡ Err e
    → ((new : List ℕ) → answer ≡ Ok new → IsPage new ⊎ RanOutFirst before after found)
    → AsksErr e (firsts_after met (fetches (new_work_of pages answer))) before after
    → IsErrAnd result (λ r. r ≡ refusal_of_whole e) → AsksNames (firsts_after met (fetches (new_work pages answer))) before after result
edit_refused_asked met pages answer before after found e (Ok value) is page h err = absurd err
edit_refused_asked met pages answer before after found e (Err r) is page h err =
    subst (λ (x : Refusal). AsksAs (status_of x) (firsts_after met (fetches (new_work pages answer))) before after) (sym err)
    (edit_refused_names met pages answer before after found e is page h)

pub edit_done_names : (met : List (List ℕ)) (pages : Pages) (answer : Result (List ℕ) EditRefusal) (before after : Option (List (List ℕ)))
    (found : Result (List ℕ) WholeRefusal) (new : List ℕ) → found ≡ Ok new
    → ((bytes : List ℕ) → answer ≡ Ok bytes → IsPage bytes ⊎ RanOutFirst before after found)
    → after ≡ followed_by before (firsts_after met (fetches (new_work_of pages answer)))
    → after ≡ followed_by before (firsts_after met (fetches (new_work pages answer)))
edit_done_names met pages (Err x) before after found new is page h = h
edit_done_names met pages (Ok bytes) before after found new is page h = by (page bytes refl)
  where
    by : IsPage bytes ⊎ RanOutFirst before after found
        → after ≡ followed_by before (firsts_after met (fetches (title_work (Some bytes) (work_done pages))))
    by (inl its) = h ∙ ap (λ es. followed_by before (firsts_after met (fetches es))) (same_work pages bytes its)
    by (inr out) = let f = sym is ∙ out.0 in cc
