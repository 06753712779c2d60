-- `selser`: from what was read to what is found for the title and the input.
use Rattle.std.proofs.Common.{◌≡◌, ℕ, ◌≤◌, List, length, Bool, refl, sym, ap, ◌∙◌, subst}
use Rattle.std.specs.Prelude.{Option, Some, None, IfSome, IsErrAnd, Result, Ok, Err}
use Rattle.wt_checks.specs.Checked.{nodes_checked}
use Rattle.wt_difference.specs.Difference.{are_none, difference}
use Rattle.wt_difference.specs.Remarked.{remarked}
use Rattle.wt_expand.specs.PageCalls.{expanded_page}
use Rattle.wt_expand.specs.Work.{Pages}
use Rattle.wt_schema.specs.Read.{Read, page as as_page, ill, misfit, read}
use Rattle.wt_html_in.specs.Answers.{body_of, Answers}
use Rattle.wt_html_in.specs.Feeding.{IsFed}
use Rattle.wt_html_in.specs.declared.edited.Edited.{Edited}
use Rattle.wt_html_in.specs.declared.reader.Reader.{Reader}
use Rattle.wt_html_in.specs.declared.refusal.HtmlRefusal.{HtmlRefusal}
use Rattle.wt_html_in.specs.declared.refusal.HtmlRefusal.TheVariants as refusals
use Rattle.wt_page_round_trip.specs.PageTree.{page_tree}
use Rattle.wt_span.specs.Origins.{Expanded}
use Rattle.wt_span.specs.declared.limits.TheConstants.{HTML_BYTES}
use Rattle.wt_transclusion.specs.Answers.{IsRefused}
use Rattle.wt_transclusion.specs.declared.refusal.ExpandRefusal.{ExpandRefusal}
use Rattle.wt_tree.specs.Tree.{Tree}
use Rattle.wt_commands.specs.declared.output.Output.{Output}
use Rattle.wt_commands.specs.declared.refusal.Refusal.{Refusal}
use Rattle.wt_commands.specs.declared.status.Status.{Status}
use Rattle.wt_commands.specs.declared.status.Status.TheVariants as status
use Rattle.wt_commands.specs.Answers.{Answer, done, refused, expanded_by, input_answer, nodes_answer, refusal_alone, refusal_of_page, remarked_of, selser_told, taken_answer, taken_from, taken_of, taken_to, title_answer, IsText}
use Rattle.wt_commands.specs.Causes.{Answered, Refuses, RefusesInput, RefusesTitle, IsFetched, refusal_of, refusal_of_expansion}
use Rattle.wt_commands.specs.Inputs.{FedWhole}
use Rattle.wt_commands.specs.Refusals.{status_of}
use Rattle.wt_pagetool.specs.Selser.{AnswersSelser, Finds, FindsFor, FindsNew, FindsNone, FindsUnder, OrFound}
use Rattle.wt_commands.proofs.AnswerLaws.{input_within}
use Rattle.wt_commands.proofs.ExpandLaws.{fetched_as, refusal_is}
use Rattle.wt_commands.proofs.PageLaws.{title_stands}
use Rattle.wt_commands.proofs.StatusLaws.{IsUnansweredBy, no_answer, no_refusal}

-- ---- refusals

abbrev failed : Refusal → Result Output Refusal
failed r = Err r

-- a refusal that refuses the answer, where a fault or want of memory is found for anything
refused_or : (a : Answer) (F : Type 0) (r : Refusal) → Refuses r a → (IsUnansweredBy (status_of r) → F) → OrFound a F (failed r)
refused_or (refused x) F r h f = h
refused_or (done page) F r h f = f (no_refusal page r (status_of r) h)

-- a fault or want of memory
failed_or : (a : Answer) (F : Type 0) (r : Refusal) → IsUnansweredBy (status_of r) → F → OrFound a F (failed r)
failed_or (refused x) F r h f = no_answer (refused x) r (status_of r) h
failed_or (done page) F r h f = f

finds_failed : (pages : Pages) (items : Expanded) (page : List ℕ) (t u : Tree) (same : Bool) (r : Refusal) (s : Status) → IsUnansweredBy s
    → FindsNone pages items page t u same r s
finds_failed pages items page t u same r status.Done h = h
finds_failed pages items page t u same r status.Usage h = h
finds_failed pages items page t u same r status.PageRefused h = h
finds_failed pages items page t u same r status.HtmlRefused h = h
finds_failed pages items page t u same r status.EditRefused h = absurd h
finds_failed pages items page t u same r status.ReadFault h = tt
finds_failed pages items page t u same r status.FolderFault h = tt
finds_failed pages items page t u same r status.WriteFault h = tt
finds_failed pages items page t u same r status.NoMemory h = tt

failed_finds : (pages : Pages) (page : List ℕ) (edited : Tree) (r : Refusal) → IsUnansweredBy (status_of r) → Finds pages page edited (failed r)
failed_finds pages page edited r h =
    finds_failed pages (expanded_page pages page) page (page_tree pages page) (remarked_of pages page edited)
    (are_none (difference (page_tree pages page) edited)) r (status_of r) h

failed_for : (pages : Pages) (page : List ℕ) (x : Read) (r : Refusal) → IsUnansweredBy (status_of r) → FindsFor pages page x (failed r)
failed_for pages page (as_page edited unsourced) r h = failed_finds pages page edited r h
failed_for pages page (ill place why) r h = tt
failed_for pages page (misfit n why) r h = tt

failed_under : (pages : Pages) (stands : Option (List ℕ)) (x : Read) (r : Refusal) → IsUnansweredBy (status_of r) → FindsUnder pages stands x (failed r)
failed_under pages None x r h = tt
failed_under pages (Some page) x r h = failed_for pages page x r h

-- ---- from the tree of the page

pub expanded_found : (pages : Pages) (page : List ℕ) (items : Expanded) (t edited : Tree) (result : Result Output Refusal)
    → refusal_of_page pages page ≡ None → items ≡ expanded_page pages page → t ≡ page_tree pages page
    → OrFound (nodes_answer page (nodes_checked t (remarked t edited)))
    (FindsNew pages items page t (remarked t edited) (are_none (difference t edited)) result) result
    → OrFound (taken_to pages page edited) (Finds pages page edited result) result
expanded_found pages page items t edited result unrefused is same found =
    let by_items = subst (λ (x : Expanded). OrFound (nodes_answer page (nodes_checked t (remarked t edited)))
    (FindsNew pages x page t (remarked t edited) (are_none (difference t edited)) result) result) is found in
    let by_tree = subst (λ (x : Tree). OrFound (nodes_answer page (nodes_checked x (remarked x edited)))
    (FindsNew pages (expanded_page pages page) page x (remarked x edited) (are_none (difference x edited)) result) result) same by_items in
    subst (λ o. OrFound (expanded_by (taken_from pages page edited) o) (Finds pages page edited result) result) (sym unrefused) by_tree

pub unexpanded_found : (pages : Pages) (page : List ℕ) (edited : Tree) (e : ExpandRefusal) (result : Result Output Refusal)
    → IsRefused (refusal_of_page pages page) e → IsErrAnd result (λ r. r ≡ refusal_of_expansion e)
    → OrFound (taken_to pages page edited) (Finds pages page edited result) result
unexpanded_found pages page edited e (Ok output) is handed = absurd handed
unexpanded_found pages page edited e (Err r) is handed =
    refused_or (taken_to pages page edited) (Finds pages page edited (failed r)) r
    (subst (λ (x : Refusal). Refuses x (taken_to pages page edited)) (sym handed)
    (refusal_is (taken_from pages page edited) (refusal_of_page pages page) e is)) (failed_finds pages page edited r)

-- ---- from what was read

pub read_found : (pages : Pages) (page : List ℕ) (edited : Edited) (t : Tree) (bytes : List ℕ) (result : Result Output Refusal)
    → Answers (Ok edited) bytes → t ≡ body_of edited → OrFound (taken_to pages page t) (Finds pages page t result) result
    → OrFound (taken_answer pages page (read bytes)) (FindsFor pages page (read bytes) result) result
unfolding taken_answer
read_found pages page edited t bytes result reads is found =
    subst (λ (x : Read). OrFound (taken_answer pages page x) (FindsFor pages page x result) result) (sym reads)
    (subst (λ (x : Tree). OrFound (taken_to pages page x) (Finds pages page x result) result) is found)

unread : (pages : Pages) (page : List ℕ) (e : HtmlRefusal) (bytes : List ℕ) → Answers (Err e) bytes
    → Refuses (refusal_of e) (taken_answer pages page (read bytes))
unfolding taken_answer
unread pages page (refusals.Html place why) bytes reads = rw reads refl
unread pages page (refusals.Unfit n why) bytes reads = rw reads refl
unread pages page refusals.NoMemory bytes reads = tt

pub unread_found : (pages : Pages) (page : List ℕ) (e : HtmlRefusal) (bytes : List ℕ) (result : Result Output Refusal)
    → Answers (Err e) bytes → IsErrAnd result (λ r. r ≡ refusal_of e)
    → OrFound (taken_answer pages page (read bytes)) (FindsFor pages page (read bytes) result) result
unread_found pages page e bytes (Ok output) reads is = absurd is
unread_found pages page e bytes (Err r) reads is =
    refused_or (taken_answer pages page (read bytes)) (FindsFor pages page (read bytes) (failed r)) r
    (subst (λ (x : Refusal). Refuses x (taken_answer pages page (read bytes))) (sym is) (unread pages page e bytes reads))
    (failed_for pages page (read bytes) r)

-- ---- from the input

abbrev FoundOf : Pages → List ℕ → List ℕ → Result Output Refusal → Type 0
FoundOf pages page bytes result = OrFound (input_answer (taken_answer pages page) bytes) (FindsFor pages page (read bytes) result) result

within_found : (pages : Pages) (page bytes : List ℕ) (result : Result Output Refusal) → length bytes ≤ HTML_BYTES
    → OrFound (taken_answer pages page (read bytes)) (FindsFor pages page (read bytes) result) result → FoundOf pages page bytes result
within_found pages page bytes result within found =
    subst (λ a. OrFound a (FindsFor pages page (read bytes) result) result) (sym (input_within (taken_answer pages page) bytes within)) found

pub whole_found : (pages : Pages) (page : List ℕ) (reader : Reader) (old new : Option (List ℕ)) (result : Result Output Refusal) → FedWhole reader old new
    → ((bytes : List ℕ) → IsFed reader bytes → OrFound (taken_answer pages page (read bytes)) (FindsFor pages page (read bytes) result) result)
    → IfSome old (λ bytes. FoundOf pages page bytes result)
whole_found pages page reader None new result whole found = tt
whole_found pages page reader (Some all) new result whole found =
    subst (λ bs. FoundOf pages page bs result) (sym whole.whole)
    (within_found pages page whole.bytes result whole.within (found whole.bytes whole.fed))

pub input_refused_found : (pages : Pages) (page : List ℕ) (old : Option (List ℕ)) (result : Result Output Refusal) (r : Refusal) → result ≡ Err r
    → IfSome old (λ bytes. RefusesInput bytes r) → IfSome old (λ bytes. FoundOf pages page bytes result)
input_refused_found pages page None result r is refuses = tt
input_refused_found pages page (Some bytes) result r is refuses =
    subst (FoundOf pages page bytes) (sym is)
    (refused_or (input_answer (taken_answer pages page) bytes) (FindsFor pages page (read bytes) (failed r)) r
    (refuses (taken_answer pages page)) (failed_for pages page (read bytes) r))

-- ---- what stands under the title

stands_found : (pages : Pages) (stands : Option (List ℕ)) (page text bytes : List ℕ) (result : Result Output Refusal)
    → IsFetched stands (fetched_as page) → IsText page → text ≡ page → FoundOf pages text bytes result → AnswersSelser pages stands bytes result
stands_found pages stands page text bytes result fetched whole same found =
    let any : List ℕ → Answer = λ bs. done bs in
    let h = title_stands stands any page (fetched any ∙ whole any) in
    let d : h.0 ≡ page = let f = h.2 in cc in
    let is : stands ≡ Some page = h.1 ∙ ap Some d in
    let made : List ℕ → Answer = λ bs. input_answer (taken_answer pages bs) bytes in
    subst (λ o. OrFound (title_answer o made) (FindsUnder pages o (read bytes) result) result) (sym is)
    (subst (λ a. OrFound a (FindsFor pages page (read bytes) result) result) (sym (whole made))
    (subst (λ bs. FoundOf pages bs bytes result) same found))

pub title_found : (told : Option Pages) (left : Option (List ℕ)) (title page text : List ℕ) (result : Result Output Refusal)
    → IfSome told (λ pages. IsFetched (pages title) (fetched_as page)) → IsText page → text ≡ page
    → ((pages : Pages) → told ≡ Some pages → IfSome left (λ bytes. FoundOf pages text bytes result))
    → IfSome told (λ pages. IfSome left (λ bytes. AnswersSelser pages (pages title) bytes result))
title_found None left title page text result fetched whole same found = tt
title_found (Some pages) None title page text result fetched whole same found = tt
title_found (Some pages) (Some bytes) title page text result fetched whole same found =
    stands_found pages (pages title) page text bytes result fetched whole same (found pages refl)

-- what stands there, or what was fetched, is refused
refused_under : (pages : Pages) (stands : Option (List ℕ)) (bytes : List ℕ) (r : Refusal) → RefusesTitle stands r
    → AnswersSelser pages stands bytes (failed r)
refused_under pages stands bytes r refuses =
    refused_or (taken_of pages stands bytes) (FindsUnder pages stands (read bytes) (failed r)) r
    (refuses (λ page. input_answer (taken_answer pages page) bytes)) (failed_under pages stands (read bytes) r)

pub unfetched_found : (told : Option Pages) (left : Option (List ℕ)) (title : List ℕ) (result : Result Output Refusal) (r : Refusal) → result ≡ Err r
    → IfSome told (λ pages. RefusesTitle (pages title) r)
    → IfSome told (λ pages. IfSome left (λ bytes. AnswersSelser pages (pages title) bytes result))
unfetched_found None left title result r is refuses = tt
unfetched_found (Some pages) None title result r is refuses = tt
unfetched_found (Some pages) (Some bytes) title result r is refuses =
    subst (AnswersSelser pages (pages title) bytes) (sym is) (refused_under pages (pages title) bytes r refuses)

-- what was fetched is no text
pub untexted_title : (told : Option Pages) (title page text : List ℕ) (r : Refusal) → IfSome told (λ pages. IsFetched (pages title) (fetched_as page))
    → text ≡ page → RefusesTitle (Some text) r → IfSome told (λ pages. RefusesTitle (pages title) r)
untexted_title None title page text r fetched same refuses = tt
untexted_title (Some pages) title page text r fetched same refuses = λ made.
    subst (Refuses r) (ap (λ bs. title_answer (Some bs) made) same ∙ sym (fetched made)) (refuses made)

-- ---- what is told

told_refusal : (a : Answer) (F : Type 0) (result : Result Output Refusal) → OrFound a F result → IfSome (refusal_alone a) (λ x. Answered x result)
told_refusal (done page) F result h = tt
told_refusal (refused r) F result h = h

pub told_found : (pages : Option Pages) (input : Option (List ℕ)) (title : List ℕ) (result : Result Output Refusal)
    → IfSome pages (λ ps. IfSome input (λ bytes. AnswersSelser ps (ps title) bytes result))
    → IfSome (selser_told pages input title) (λ a. Answered a result)
told_found None input title result h = tt
told_found (Some ps) None title result h = tt
told_found (Some ps) (Some bytes) title result h =
    told_refusal (taken_of ps (ps title) bytes) (FindsUnder ps (ps title) (read bytes) result) result h
