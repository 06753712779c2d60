-- What an edit asks its folder for.
use Rattle.std.proofs.Common.{◌≡◌, ℕ, List, [], refl, sym, ap, ◌∙◌, subst, append-nil}
use Rattle.std.specs.Prelude.{Option, Some, None, IsErrAnd, Result, Ok, Err}
use Rattle.wt_expand.specs.Expansion.{page_work}
use Rattle.wt_expand.specs.Work.{Pages, Entry, fetches, first_refusal, firsts_after, refusal_from}
use Rattle.wt_expand.proofs.FrontLaws.{work_allowed}
use Rattle.wt_transclusion.specs.declared.refusal.ExpandRefusal.{ExpandRefusal}
use Rattle.wt_transclusion.specs.declared.refusal.ExpandRefusal.TheVariants as of_expansion
use Rattle.wt_transclusion.specs.Asked.{AreFirst}
use Rattle.wt_transclusion.specs.Stops.{Stops}
use Rattle.wt_transclusion.proofs.AskedLaws.{first_all, first_some}
use Rattle.wt_transclusion.proofs.StopLaws.{stops_fetching, stops_told, stops_within}
use Rattle.wt_template_stack.specs.declared.expansion.Expansion.{Expansion}
use Rattle.wt_expansion.specs.Known.{KnowsMore}
use Rattle.wt_selser.specs.declared.refusal.EditRefusal.{EditRefusal as SpliceRefusal}
use Rattle.wt_selser.specs.declared.refusal.EditRefusal.TheVariants as of_splice
use Rattle.wt_selser.specs.Edits.{AnswersEdit}
use Rattle.wt_edit.specs.declared.refusal.EditRefusal.{EditRefusal}
use Rattle.wt_edit.specs.declared.refusal.EditRefusal.TheVariants as refusal
use Rattle.wt_edit.specs.Asked.{work_done, new_work, followed_by, AsksErr, AsksNames}
use Rattle.wt_edit.specs.Edits.{refusal_of_new, refusal_of_page, refusal_of_splice}

pub names_end : (a : Option (List (List ℕ))) → followed_by a [] ≡ a
names_end None = refl
names_end (Some ns) = ap Some (append-nil ns)

pub work_whole : (pages : Pages) (page : List ℕ) → refusal_of_page pages page ≡ None → work_done pages page ≡ page_work pages page
work_whole pages page e = work_allowed pages page (page_work pages page) e

refusal_is : (pages : Pages) (page : List ℕ) (es : List Entry) → first_refusal pages page es ≡ refusal_from pages page 0 es
unfolding first_refusal
refusal_is pages page es = refl

-- memory ran out behind all of a page's work
pub stops_behind : (pages : Pages) (page : List ℕ) (met : List (List ℕ)) (before after : Option (List (List ℕ))) (x : Expansion)
    → refusal_of_page pages page ≡ None → KnowsMore pages met (page_work pages page) x before after
    → Stops pages page 0 met (page_work pages page) before after of_expansion.NoMemory
stops_behind pages page met before after x e k = record {
  done = page_work pages page;
  left = [];
  front = record {
    whole = sym (append-nil (page_work pages page));
    allowed = sym (refusal_is pages page (page_work pages page)) ∙ e;
  };
  cause = tt;
  told = k.told_is;
}

-- ---- a new page

-- its expansion stopped
new_asks : (pages : Pages) (page : List ℕ) (met : List (List ℕ)) (before after : Option (List (List ℕ))) (e : ExpandRefusal)
    → Stops pages page 0 met (page_work pages page) before after e
    → AsksErr (refusal_of_new e) (firsts_after met (fetches (work_done pages page))) before after
new_asks pages page met before after (of_expansion.BracesTooDeep title place) s =
    stops_told pages page met (page_work pages page) before after (of_expansion.BracesTooDeep title place) s tt
new_asks pages page met before after of_expansion.TooLarge s =
    stops_told pages page met (page_work pages page) before after of_expansion.TooLarge s tt
new_asks pages page met before after of_expansion.FolderFault s = stops_fetching pages page met (page_work pages page) before after s
new_asks pages page met before after (of_expansion.TemplateNotUtf8 title place) s =
    stops_told pages page met (page_work pages page) before after (of_expansion.TemplateNotUtf8 title place) s tt
new_asks pages page met before after (of_expansion.TemplateTooLong title) s =
    stops_told pages page met (page_work pages page) before after (of_expansion.TemplateTooLong title) s tt
new_asks pages page met before after of_expansion.NoMemory s =
    stops_within pages page met (page_work pages page) before after of_expansion.NoMemory s

pub new_stopped : (met : List (List ℕ)) (pages : Pages) (new : List ℕ) (before after : Option (List (List ℕ))) (e : ExpandRefusal) (r : EditRefusal)
    → r ≡ refusal_of_new e → Stops pages new 0 met (page_work pages new) before after e
    → AsksErr r (firsts_after met (fetches (work_done pages new))) before after
new_stopped met pages new before after e r is s =
    subst (λ (x : EditRefusal). AsksErr x (firsts_after met (fetches (work_done pages new))) before after) (sym is)
    (new_asks pages new met before after e s)

-- it was expanded
pub new_asked : (met : List (List ℕ)) (pages : Pages) (new : List ℕ) (x : Expansion) (before after : Option (List (List ℕ)))
    → refusal_of_page pages new ≡ None → KnowsMore pages met (page_work pages new) x before after
    → after ≡ followed_by before (firsts_after met (fetches (work_done pages new)))
new_asked met pages new x before after e k =
    k.told_is ∙ ap (λ es. followed_by before (firsts_after met (fetches es))) (sym (work_whole pages new e))

-- memory ran out behind it
pub all_first : (names : List (List ℕ)) (before after : Option (List (List ℕ))) → after ≡ followed_by before names
    → AreFirst after (followed_by before names)
all_first names before after e = subst (λ x. AreFirst x (followed_by before names)) (sym e) (first_all (followed_by before names))

pub asked_memory : {T : Type 0} (names : List (List ℕ)) (before after : Option (List (List ℕ))) (result : Result T EditRefusal)
    → IsErrAnd result (λ e. e ≡ refusal.NoMemory) → AreFirst after (followed_by before names) → AsksNames names before after result
asked_memory names before after (Ok value) is h = absurd is
asked_memory names before after (Err e) is h = subst (λ (x : EditRefusal). AsksErr x names before after) (sym is) h

pub asked_same : {T : Type 0} (names : List (List ℕ)) (before after : Option (List (List ℕ))) (result : Result T EditRefusal) (e : EditRefusal)
    → IsErrAnd result (λ x. x ≡ e) → AsksErr e names before after → AsksNames names before after result
asked_same names before after (Ok value) e is h = absurd is
asked_same names before after (Err x) e is h = subst (λ (y : EditRefusal). AsksErr y names before after) (sym is) h

-- the splice gave this new page
pub made_work : (pages : Pages) (answer : Result (List ℕ) SpliceRefusal) (new text : List ℕ) → answer ≡ Ok new → text ≡ new
    → work_done pages text ≡ new_work pages answer
made_work pages answer new text is same = ap (work_done pages) same ∙ ap (new_work pages) (sym is)

-- or it is refused
unmade_asks : (met : List (List ℕ)) (pages : Pages) (answer : Result (List ℕ) SpliceRefusal) (before : Option (List (List ℕ))) (e : SpliceRefusal)
    → AnswersEdit answer (Err e) → AsksErr (refusal_of_splice e) (firsts_after met (fetches (new_work pages answer))) before before
unmade_asks met pages answer before e h = by e h
  where
    none : (x : SpliceRefusal) → answer ≡ Err x → before ≡ followed_by before (firsts_after met (fetches (new_work pages answer)))
    none x is = sym (ap (λ a. followed_by before (firsts_after met (fetches (new_work pages a)))) is ∙ names_end before)

    by : (e : SpliceRefusal) → AnswersEdit answer (Err e) → AsksErr (refusal_of_splice e) (firsts_after met (fetches (new_work pages answer))) before before
    by (of_splice.Check c) h = none (of_splice.Check c) h
    by (of_splice.BadContent n why) h = none (of_splice.BadContent n why) h
    by (of_splice.Tangled n) h = none (of_splice.Tangled n) h
    by of_splice.NewPageTooLong h = none of_splice.NewPageTooLong h
    by of_splice.NoMemory h = first_some before (firsts_after met (fetches (new_work pages answer)))

pub unmade_names : {T : Type 0} (met : List (List ℕ)) (pages : Pages) (answer : Result (List ℕ) SpliceRefusal) (before : Option (List (List ℕ)))
    (result : Result T EditRefusal) (e : SpliceRefusal) → IsErrAnd result (λ r. r ≡ refusal_of_splice e) → AnswersEdit answer (Err e)
    → AsksNames (firsts_after met (fetches (new_work pages answer))) before before result
unmade_names met pages answer before result e is h =
    asked_same (firsts_after met (fetches (new_work pages answer))) before before result (refusal_of_splice e) is
    (unmade_asks met pages answer before e h)
