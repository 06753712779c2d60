-- What a command asks its folder for, step after step.
use Rattle.std.proofs.Common.{◌≡◌, ℕ, ◌≤◌, Bool, true, List, [], ◌∷◌, ◌++◌, length, take, false, cond, refl, sym, ap, ◌∙◌, subst, arith, append-nil, append_assoc}
use Rattle.std.specs.Prelude.{nat_lt, Option, Some, None, IfSome, IfErr, IsErrAnd, Result, Ok, Err, if◌then◌else◌}
use Rattle.std.proofs.lemmas.Bool.Decides.{nat_tests}
use Rattle.std.proofs.lemmas.List.{append_cancel_left, take-append-le, take_all}
use Rattle.wt_devices.specs.Device.{Pages}
use Rattle.wt_devices.specs.declared.device.FetchRefusal.{FetchRefusal}
use Rattle.wt_devices.specs.declared.device.FetchRefusal.TheVariants as of_fetch
use Rattle.wt_span.specs.declared.limits.TheConstants.{HTML_BYTES, PAGE_BYTES}
use Rattle.wt_utf8.specs.Places.{not_utf8_place}
use Rattle.wt_expand.specs.Expansion.{page_work}
use Rattle.wt_expand.specs.Fronts.{known_after}
use Rattle.wt_expand.specs.Work.{Entry, Refused, fetches, firsts_after, names_asked}
use Rattle.wt_expand.proofs.Agreements.{fetches_append}
use Rattle.wt_expand.proofs.FrontLaws.{firsts_append}
use Rattle.wt_transclusion.specs.declared.refusal.ExpandRefusal.{ExpandRefusal}
use Rattle.wt_transclusion.specs.declared.refusal.ExpandRefusal.TheVariants as of_expansion
use Rattle.wt_transclusion.specs.Answers.{IsRefused}
use Rattle.wt_transclusion.specs.Asked.{AreFirst}
use Rattle.wt_transclusion.specs.Stops.{AnswersFewer, Stops}
use Rattle.wt_transclusion.proofs.AskedLaws.{first_some, first_then}
use Rattle.wt_transclusion.proofs.StopLaws.{stops_fetching, stops_page, stops_told, stops_within}
use Rattle.wt_template_stack.specs.declared.expansion.Expansion.{Expansion}
use Rattle.wt_edit.proofs.AskedLaws.{names_end}
pub use Rattle.wt_edit.proofs.AskedLaws.{all_first, work_whole}
use Rattle.wt_expansion.specs.Known.{KnowsMore}
use Rattle.wt_html_grammar.specs.declared.why.HtmlWhy.{HtmlWhy}
use Rattle.wt_schema.specs.declared.why.FitWhy.{FitWhy}
use Rattle.wt_schema.specs.Read.{Read, page as as_page, ill, misfit, read}
use Rattle.wt_html_in.specs.Answers.{body_of, Answers}
use Rattle.wt_html_in.specs.declared.edited.Edited.{Edited}
use Rattle.wt_html_in.specs.declared.reader.Reader.{Reader}
use Rattle.wt_html_in.specs.declared.refusal.HtmlRefusal.{HtmlRefusal}
use Rattle.wt_html_in.specs.declared.refusal.HtmlRefusal.TheVariants as of_html
use Rattle.wt_html_in.specs.Feeding.{IsFed}
use Rattle.wt_selser.specs.declared.refusal.EditRefusal.{EditRefusal}
use Rattle.wt_tree.specs.Tree.{Tree}
use Rattle.wt_span.specs.Origins.{Expanded}
use Rattle.wt_expand.specs.PageCalls.{expanded_page}
use Rattle.wt_page_round_trip.specs.PageTree.{page_tree}
use Rattle.wt_selser.specs.Edits.{edit_answer}
use Rattle.wt_visible.specs.SameNodes.{same_node}
use Rattle.wt_commands.specs.declared.refusal.Refusal.{Refusal}
use Rattle.wt_commands.specs.declared.refusal.Refusal.TheVariants.{TooLong, InputTooLong, NoMemory}
use Rattle.wt_commands.specs.declared.status.Status.{Status}
use Rattle.wt_commands.specs.declared.status.Status.TheVariants as status
use Rattle.wt_commands.specs.Answers.{Answer, done, refused, answer_of_edit, input_answer, refusal_of_page, text_answer, title_answer, IsText, IsNoText, IsUnrefused}
use Rattle.wt_commands.specs.Asked.{work_done, title_work, text_work, new_work, work_behind, edited_work, input_work, edit_work, names_of, edit_names, followed_by, AnswersFirst, AnswersAll, AsksAs, AsksNames}
use Rattle.wt_commands.specs.Causes.{IsFetched, IsInputStatus, IsOfInput, IsOfPage, IsPageStatus, RefusesAs, RefusesInput, RefusesTitle, fetch_refusal, found_status, refusal_of, refusal_of_expansion}
use Rattle.wt_commands.specs.Inputs.{FedWhole}
use Rattle.wt_commands.specs.Refusals.{status_of}
use Rattle.wt_commands.proofs.ExpandLaws.{fetched_as}
use Rattle.wt_commands.proofs.PageLaws.{title_made, title_stands}

-- ---- names, one after another

joined : (before : Option (List (List ℕ))) (xs ys : List (List ℕ)) → followed_by (followed_by before xs) ys ≡ followed_by before (xs ++ ys)
joined None xs ys = refl
joined (Some ns) xs ys = ap Some (append_assoc ns xs ys)

asked_are : (es : List Entry) → names_asked es ≡ firsts_after [] (fetches es)
unfolding names_asked
asked_are es = refl

-- the names of work and of more that follows
more_names : (met : List (List ℕ)) (work rest : List Entry)
    → firsts_after met (fetches (work ++ rest))
    ≡ firsts_after met (fetches work) ++ firsts_after (known_after met (fetches work)) (fetches rest)
more_names met work rest =
    ap (firsts_after met) (fetches_append work rest) ∙ firsts_append met (fetches work) (fetches rest)

-- ---- by how a step ended

-- some of them, and not the next one
fewer_first : (names : List (List ℕ)) (before after : Option (List (List ℕ))) → AnswersFewer names before after
    → AreFirst after (followed_by before names)
fewer_first names before after f = (
  f.title ∷ f.more,
  ap (followed_by before) f.names_are ∙ sym (joined before f.told (f.title ∷ f.more)) ∙ ap (λ m. followed_by m (f.title ∷ f.more)) (sym f.now_is),
)

-- however it ended, the first of them were
pub asks_first : (s : Status) (names : List (List ℕ)) (before after : Option (List (List ℕ))) → AsksAs s names before after
    → AreFirst after (followed_by before names)
asks_first status.Done names before after h = all_first names before after h
asks_first status.Usage names before after h = all_first names before after h
asks_first status.PageRefused names before after h = all_first names before after h
asks_first status.HtmlRefused names before after h = all_first names before after h
asks_first status.EditRefused names before after h = all_first names before after h
asks_first status.ReadFault names before after h = h
asks_first status.FolderFault names before after h = fewer_first names before after h
asks_first status.WriteFault names before after h = h
asks_first status.NoMemory names before after h = h

-- memory ran out, and the first of the names were answered
pub named_memory : {T : Type 0} (names : List (List ℕ)) (before after : Option (List (List ℕ))) (result : Result T Refusal)
    → IsErrAnd result (λ r. r ≡ NoMemory) → AreFirst after (followed_by before names) → AsksNames names before after result
named_memory names before after (Ok value) is h = absurd is
named_memory names before after (Err r) is h = subst (λ (x : Refusal). AsksAs (status_of x) names before after) (sym is) h

-- what was found is handed on
pub named_same : {T : Type 0} (names : List (List ℕ)) (before after : Option (List (List ℕ))) (result : Result T Refusal) (r : Refusal)
    → result ≡ Err r → AsksAs (status_of r) names before after → AsksNames names before after result
named_same names before after result r e h = subst (λ x. AsksNames names before after x) (sym e) h

page_all : (s : Status) (names : List (List ℕ)) (before after : Option (List (List ℕ))) → IsPageStatus s → after ≡ followed_by before names
    → AsksAs s names before after
page_all status.Done names before after is h = absurd is
page_all status.Usage names before after is h = absurd is
page_all status.PageRefused names before after is h = h
page_all status.HtmlRefused names before after is h = absurd is
page_all status.EditRefused names before after is h = absurd is
page_all status.ReadFault names before after is h = absurd is
page_all status.FolderFault names before after is h = absurd is
page_all status.WriteFault names before after is h = absurd is
page_all status.NoMemory names before after is h = all_first names before after h

-- all of the names were answered, and then nothing failed but memory
pub named_all : {T : Type 0} (names : List (List ℕ)) (before after : Option (List (List ℕ))) (result : Result T Refusal)
    → IfErr result IsOfPage → after ≡ followed_by before names → AsksNames names before after result
named_all names before after (Ok value) is h = h
named_all names before after (Err r) is h = page_all (status_of r) names before after is h

-- what was answered of the names that were left was answered of all
asks_left : (s : Status) (first left all : List (List ℕ)) (before middle after : Option (List (List ℕ))) → middle ≡ followed_by before first
    → all ≡ first ++ left → AsksAs s left middle after → AsksAs s all before after
asks_left s first left all before middle after e f h = by s h
  where
    whole : followed_by middle left ≡ followed_by before all
    whole = ap (λ m. followed_by m left) e ∙ joined before first left ∙ ap (followed_by before) (sym f)

    by : (s : Status) → AsksAs s left middle after → AsksAs s all before after
    by status.Done h = h ∙ whole
    by status.Usage h = h ∙ whole
    by status.PageRefused h = h ∙ whole
    by status.HtmlRefused h = h ∙ whole
    by status.EditRefused h = h ∙ whole
    by status.ReadFault h = subst (AreFirst after) whole h
    by status.FolderFault h = record {
      told = first ++ h.told;
      title = h.title;
      more = h.more;
      now_is = h.now_is ∙ ap (λ m. followed_by m h.told) e ∙ joined before first h.told;
      names_are = f ∙ ap (λ ns. first ++ ns) h.names_are ∙ sym (append_assoc first h.told (h.title ∷ h.more));
    }
    by status.WriteFault h = subst (AreFirst after) whole h
    by status.NoMemory h = subst (AreFirst after) whole h

-- ---- what stands under a title

short_work : (page : List ℕ) (made : List ℕ → List Entry) → length page ≤ PAGE_BYTES → not_utf8_place page ≡ None
    → title_work (Some page) made ≡ made page
unfolding title_work
short_work page made within text =
    let s : nat_lt PAGE_BYTES (length page) ≡ false = grind (arith, nat_tests) in
    ap (λ b. cond b [] (text_work page made (not_utf8_place page))) s ∙ ap (text_work page made) text

-- a page that is text and was fetched for the title is what stands under it
work_under : (stands : Option (List ℕ)) (page : List ℕ) (made : List ℕ → List Entry) → IsFetched stands (fetched_as page) → IsText page
    → title_work stands made ≡ made page
work_under stands page made fetched text =
    let any : List ℕ → Answer = λ bs. done bs in
    let h = title_stands stands any page (fetched any ∙ text any) in
    let d : h.0 ≡ page = let f = h.2 in cc in
    let m = title_made page page any (text any) in
    ap (λ o. title_work o made) (h.1 ∙ ap Some d) ∙ short_work page made m.within m.text

-- the page was fetched, and then what its work asks for
pub names_under : {T : Type 0} (told : Option Pages) (title page text : List ℕ) (made : Pages → List ℕ → List Entry)
    (before middle after : Option (List (List ℕ))) (result : Result T Refusal)
    → IfSome told (λ pages. IsFetched (pages title) (fetched_as page)) → IsText page → text ≡ page
    → middle ≡ followed_by before (title ∷ [])
    → ((pages : Pages) → told ≡ Some pages → AsksNames (names_asked (made pages text)) middle after result)
    → IfSome told (λ pages. AsksNames (names_of title (title_work (pages title) (made pages))) before after result)
names_under None title page text made before middle after result fetched whole same first names = tt
names_under (Some pages) title page text made before middle after result fetched whole same first names =
    let work : title_work (pages title) (made pages) ≡ made pages text =
    work_under (pages title) page (made pages) fetched whole ∙ ap (made pages) (sym same) in
    asks_left (found_status result) (title ∷ []) (names_asked (made pages text)) (names_of title (title_work (pages title) (made pages))) before middle after
    first (ap (λ es. names_of title es) work) (names pages refl)

-- the folder gave no answer to the title
unfetched : (title : List ℕ) (before after : Option (List (List ℕ))) (e : FetchRefusal) → after ≡ before
    → AsksAs (status_of (fetch_refusal e)) (title ∷ []) before after
unfetched title before after of_fetch.Failed h = record {
  told = [];
  title = title;
  more = [];
  now_is = h ∙ sym (names_end before);
  names_are = refl;
}
unfetched title before after of_fetch.NoMemory h =
    subst (λ x. AreFirst x (followed_by before (title ∷ []))) (sym h) (first_some before (title ∷ []))

pub unfetched_names : {T : Type 0} (title : List ℕ) (before after : Option (List (List ℕ))) (result : Result T Refusal) (e : FetchRefusal)
    → IsErrAnd result (λ r. r ≡ fetch_refusal e) → after ≡ before → AsksNames (title ∷ []) before after result
unfetched_names title before after (Ok value) e is h = absurd is
unfetched_names title before after (Err r) e is h =
    subst (λ (x : Refusal). AsksAs (status_of x) (title ∷ []) before after) (sym is) (unfetched title before after e h)

-- a title that is refused, whatever is made of its page, asks for no work
pub unanswered_work : (stands : Option (List ℕ)) (r : Refusal) (made : List ℕ → List Entry)
    → ((answer : List ℕ → Answer) → title_answer stands answer ≡ refused r) → title_work stands made ≡ []
unfolding title_answer title_work
unanswered_work None r made h = refl
unanswered_work (Some page) r made h = by (nat_lt PAGE_BYTES (length page)) (not_utf8_place page) h
  where
    by : (b : Bool) (o : Option ℕ) → ((answer : List ℕ → Answer) → (if b then refused TooLong else text_answer page answer o) ≡ refused r)
        → (if b then [] else text_work page made o) ≡ []
    by true o h = refl
    by false (Some place) h = refl
    by false None h = absurd (let z : done [] ≡ refused r = h (λ bs. done []) in cc)

-- more names that weren't answered
fewer_more : (names more : List (List ℕ)) (before after : Option (List (List ℕ))) → AnswersFewer names before after
    → AnswersFewer (names ++ more) before after
fewer_more names more before after f = record {
  told = f.told;
  title = f.title;
  more = f.more ++ more;
  now_is = f.now_is;
  names_are = ap (λ ns. ns ++ more) f.names_are ∙ append_assoc f.told (f.title ∷ f.more) more;
}

first_more : (names more : List (List ℕ)) (before after : Option (List (List ℕ))) → AreFirst after (followed_by before names)
    → AreFirst after (followed_by before (names ++ more))
first_more names more before after h =
    first_then after (followed_by before names) (followed_by before (names ++ more)) h (more, sym (joined before names more))

-- Where a step is refused no work follows; else these names are the first of those that follow.
asks_more : (s : Status) (r : Refusal) (answer : Answer) (names more : List (List ℕ)) (before after : Option (List (List ℕ)))
    → (answer ≡ refused r → more ≡ []) → RefusesAs s r answer → AsksAs s names before after → AsksAs s (names ++ more) before after
asks_more s r answer names more before after none is h = by s is h
  where
    all : more ≡ [] → after ≡ followed_by before names → after ≡ followed_by before (names ++ more)
    all e h = h ∙ ap (followed_by before) (sym (append-nil names) ∙ ap (λ ns. names ++ ns) (sym e))

    by : (s : Status) → RefusesAs s r answer → AsksAs s names before after → AsksAs s (names ++ more) before after
    by status.Done is h = absurd is
    by status.Usage is h = all (none is) h
    by status.PageRefused is h = all (none is) h
    by status.HtmlRefused is h = all (none is) h
    by status.EditRefused is h = all (none is) h
    by status.ReadFault is h = first_more names more before after h
    by status.FolderFault is h = fewer_more names more before after h
    by status.WriteFault is h = first_more names more before after h
    by status.NoMemory is h = first_more names more before after h

none_asked : names_asked [] ≡ []
none_asked = asked_are []

-- the page's own name was asked for, and what stands under it is refused
title_refused : (s : Status) (stands : Option (List ℕ)) (r : Refusal) (title : List ℕ) (made : List ℕ → List Entry)
    (before after : Option (List (List ℕ))) → ((answer : List ℕ → Answer) → RefusesAs s r (title_answer stands answer))
    → AsksAs s (title ∷ []) before after → AsksAs s (names_of title (title_work stands made)) before after
title_refused s stands r title made before after refuses h = by s refuses h
  where
    names : List (List ℕ)
    names = names_asked (title_work stands made)

    all : ((answer : List ℕ → Answer) → title_answer stands answer ≡ refused r) → after ≡ followed_by before (title ∷ [])
        → after ≡ followed_by before (title ∷ names)
    all is h = h ∙ ap (λ ns. followed_by before (title ∷ ns)) (sym (ap names_asked (unanswered_work stands r made is) ∙ none_asked))

    by : (s : Status) → ((answer : List ℕ → Answer) → RefusesAs s r (title_answer stands answer)) → AsksAs s (title ∷ []) before after
        → AsksAs s (title ∷ names) before after
    by status.Done is h = absurd (is (λ bs. done []))
    by status.Usage is h = all is h
    by status.PageRefused is h = all is h
    by status.HtmlRefused is h = all is h
    by status.EditRefused is h = all is h
    by status.ReadFault is h = first_more (title ∷ []) names before after h
    by status.FolderFault is h = fewer_more (title ∷ []) names before after h
    by status.WriteFault is h = first_more (title ∷ []) names before after h
    by status.NoMemory is h = first_more (title ∷ []) names before after h

-- the page wasn't fetched
pub title_unfetched : {T : Type 0} (told : Option Pages) (title : List ℕ) (made : Pages → List ℕ → List Entry) (before after : Option (List (List ℕ)))
    (result : Result T Refusal) (r : Refusal) → result ≡ Err r → IfSome told (λ pages. RefusesTitle (pages title) r)
    → AsksAs (status_of r) (title ∷ []) before after
    → IfSome told (λ pages. AsksNames (names_of title (title_work (pages title) (made pages))) before after result)
title_unfetched None title made before after result r e refuses h = tt
title_unfetched (Some pages) title made before after result r e refuses h =
    named_same (names_of title (title_work (pages title) (made pages))) before after result r e
    (title_refused (status_of r) (pages title) r title (made pages) before after refuses h)

-- what was fetched is refused
refuses_fetched : (stands : Option (List ℕ)) (page bytes : List ℕ) (r : Refusal) → IsFetched stands (fetched_as page) → bytes ≡ page
    → RefusesTitle (Some bytes) r → RefusesTitle stands r
refuses_fetched stands page bytes r fetched same h = λ made.
    subst (λ (a : Answer). RefusesAs (status_of r) r a)
    (ap (λ bs. title_answer (Some bs) made) same ∙ sym (fetched made)) (h made)

pub title_untexted : {T : Type 0} (told : Option Pages) (title page bytes : List ℕ) (made : Pages → List ℕ → List Entry)
    (before after : Option (List (List ℕ))) (result : Result T Refusal) (r : Refusal) → result ≡ Err r
    → IfSome told (λ pages. IsFetched (pages title) (fetched_as page)) → bytes ≡ page → RefusesTitle (Some bytes) r → IsOfPage r
    → after ≡ followed_by before (title ∷ [])
    → IfSome told (λ pages. AsksNames (names_of title (title_work (pages title) (made pages))) before after result)
title_untexted None title page bytes made before after result r e fetched same refuses of h = tt
title_untexted (Some pages) title page bytes made before after result r e fetched same refuses of h =
    title_unfetched (Some pages) title made before after result r e (refuses_fetched (pages title) page bytes r fetched same refuses)
    (page_all (status_of r) (title ∷ []) before after of h)

-- ---- the work of a page

-- where its expansion stops
expanded_asks : (pages : Pages) (page : List ℕ) (met : List (List ℕ)) (before after : Option (List (List ℕ))) (e : ExpandRefusal)
    → Stops pages page 0 met (page_work pages page) before after e
    → AsksAs (status_of (refusal_of_expansion e)) (firsts_after met (fetches (work_done pages page))) before after
expanded_asks pages page met before after (of_expansion.BracesTooDeep title place) s =
    stops_told pages page met (page_work pages page) before after (of_expansion.BracesTooDeep title place) s tt
expanded_asks pages page met before after of_expansion.TooLarge s =
    stops_told pages page met (page_work pages page) before after of_expansion.TooLarge s tt
expanded_asks pages page met before after of_expansion.FolderFault s = stops_fetching pages page met (page_work pages page) before after s
expanded_asks pages page met before after (of_expansion.TemplateNotUtf8 title place) s =
    stops_told pages page met (page_work pages page) before after (of_expansion.TemplateNotUtf8 title place) s tt
expanded_asks pages page met before after (of_expansion.TemplateTooLong title) s =
    stops_told pages page met (page_work pages page) before after (of_expansion.TemplateTooLong title) s tt
expanded_asks pages page met before after of_expansion.NoMemory s =
    stops_within pages page met (page_work pages page) before after of_expansion.NoMemory s

pub named_expanded : {T : Type 0} (pages : Pages) (page : List ℕ) (before after : Option (List (List ℕ))) (result : Result T Refusal) (e : ExpandRefusal)
    → IsErrAnd result (λ r. r ≡ refusal_of_expansion e) → Stops pages page 0 [] (page_work pages page) before after e
    → AsksNames (names_asked (work_done pages page)) before after result
named_expanded pages page before after (Ok value) e is s = absurd is
named_expanded pages page before after (Err r) e is s =
    subst (λ (x : Refusal). AsksAs (status_of x) (names_asked (work_done pages page)) before after) (sym is)
    (subst (λ (ns : List (List ℕ)). AsksAs (status_of (refusal_of_expansion e)) ns before after) (sym (asked_are (work_done pages page)))
    (expanded_asks pages page [] before after e s))

-- it is expanded
pub names_done : (pages : Pages) (page : List ℕ) (before after : Option (List (List ℕ))) → refusal_of_page pages page ≡ None
    → after ≡ followed_by before (names_asked (page_work pages page)) → after ≡ followed_by before (names_asked (work_done pages page))
names_done pages page before after e h = h ∙ ap (λ es. followed_by before (names_asked es)) (sym (work_whole pages page e))

-- ---- an edit

-- where the input is told as well
both_told : {T : Type 0} (told : Option Pages) (left : Option (List ℕ)) (title : List ℕ) (before after : Option (List (List ℕ)))
    (result : Result T Refusal)
    → ((bytes : List ℕ) → left ≡ Some bytes
    → IfSome told (λ pages. AsksNames (names_of title (edit_work pages (pages title) bytes)) before after result))
    → IfSome (edit_names told left title) (λ names. AsksNames names before after result)
both_told None left title before after result h = tt
both_told (Some pages) None title before after result h = tt
both_told (Some pages) (Some bytes) title before after result h = h bytes refl

pub edit_names_under : {T : Type 0} (told : Option Pages) (left : Option (List ℕ)) (title page text : List ℕ)
    (before middle after : Option (List (List ℕ))) (result : Result T Refusal)
    → IfSome told (λ pages. IsFetched (pages title) (fetched_as page)) → IsText page → text ≡ page
    → middle ≡ followed_by before (title ∷ [])
    → ((pages : Pages) → told ≡ Some pages
    → IfSome left (λ bytes. AsksNames (names_asked (input_work (edited_work pages text) bytes)) middle after result))
    → IfSome (edit_names told left title) (λ names. AsksNames names before after result)
edit_names_under told left title page text before middle after result fetched whole same first names =
    both_told told left title before after result
    (λ bytes is. names_under told title page text (λ pages page. input_work (edited_work pages page) bytes) before middle after result
    fetched whole same first
    (λ pages e. subst (λ o. IfSome o (λ bs. AsksNames (names_asked (input_work (edited_work pages text) bs)) middle after result)) is
    (names pages e)))

pub edit_unfetched : {T : Type 0} (told : Option Pages) (left : Option (List ℕ)) (title : List ℕ) (before after : Option (List (List ℕ)))
    (result : Result T Refusal) (r : Refusal) → result ≡ Err r → IfSome told (λ pages. RefusesTitle (pages title) r)
    → AsksAs (status_of r) (title ∷ []) before after
    → IfSome (edit_names told left title) (λ names. AsksNames names before after result)
edit_unfetched told left title before after result r e refuses h =
    both_told told left title before after result
    (λ bytes _. title_unfetched told title (λ pages page. input_work (edited_work pages page) bytes) before after result r e refuses h)

pub edit_untexted : {T : Type 0} (told : Option Pages) (left : Option (List ℕ)) (title page bytes : List ℕ)
    (before after : Option (List (List ℕ))) (result : Result T Refusal) (r : Refusal) → result ≡ Err r
    → IfSome told (λ pages. IsFetched (pages title) (fetched_as page)) → bytes ≡ page → RefusesTitle (Some bytes) r → IsOfPage r
    → after ≡ followed_by before (title ∷ [])
    → IfSome (edit_names told left title) (λ names. AsksNames names before after result)
edit_untexted told left title page bytes before after result r e fetched same refuses of h =
    both_told told left title before after result
    (λ input _. title_untexted told title page bytes (λ pages page. input_work (edited_work pages page) input) before after result r e
    fetched same refuses of h)

within_work : (made : Read → List Entry) (input : List ℕ) → length input ≤ HTML_BYTES → input_work made input ≡ made (read input)
unfolding input_work
within_work made input h = grind (arith, nat_tests)

-- all of the input was fed, so what was fed decides the work
pub input_names : {T : Type 0} (made : Read → List Entry) (reader : Reader) (old new : Option (List ℕ)) (before after : Option (List (List ℕ)))
    (result : Result T Refusal) → FedWhole reader old new
    → ((bytes : List ℕ) → IsFed reader bytes → AsksNames (names_asked (made (read bytes))) before after result)
    → IfSome old (λ all. AsksNames (names_asked (input_work made all)) before after result)
input_names made reader None new before after result whole names = tt
input_names made reader (Some all) new before after result whole names =
    let same : input_work made all ≡ made (read whole.bytes) =
    ap (input_work made) whole.whole ∙ within_work made whole.bytes whole.within in
    subst (λ es. AsksNames (names_asked es) before after result) (sym same) (names whole.bytes whole.fed)

-- an input that is refused, whatever is made of what is read, asks for no work
pub unread_work : (input : List ℕ) (r : Refusal) (made : Read → List Entry) → ((answer : Read → Answer) → input_answer answer input ≡ refused r)
    → input_work made input ≡ []
unfolding input_answer input_work
unread_work input r made h = by (nat_lt HTML_BYTES (length input)) h
  where
    by : (b : Bool) → ((answer : Read → Answer) → (if b then refused InputTooLong else answer (read input)) ≡ refused r)
        → (if b then [] else made (read input)) ≡ []
    by true h = refl
    by false h = absurd (let z : done [] ≡ refused r = h (λ x. done []) in cc)

-- nothing was asked where the input is refused or failed
input_refused : (s : Status) (rose_before rose_after : ℕ) (input : List ℕ) (r : Refusal) (made : Read → List Entry) (before : Option (List (List ℕ)))
    → IsInputStatus rose_before rose_after s → ((answer : Read → Answer) → RefusesAs s r (input_answer answer input))
    → AsksAs s (names_asked (input_work made input)) before before
input_refused s rose_before rose_after input r made before of is = by s of is
  where
    names : List (List ℕ)
    names = names_asked (input_work made input)

    by : (s : Status) → IsInputStatus rose_before rose_after s → ((answer : Read → Answer) → RefusesAs s r (input_answer answer input))
        → AsksAs s names before before
    by status.Done of is = absurd of
    by status.Usage of is = absurd of
    by status.PageRefused of is = absurd of
    by status.HtmlRefused of is =
        sym (ap (λ es. followed_by before (names_asked es)) (unread_work input r made is) ∙ ap (followed_by before) none_asked ∙ names_end before)
    by status.EditRefused of is = absurd of
    by status.ReadFault of is = first_some before names
    by status.FolderFault of is = absurd of
    by status.WriteFault of is = absurd of
    by status.NoMemory of is = first_some before names

pub input_none : {T : Type 0} (made : Read → List Entry) (old : Option (List ℕ)) (rose_before rose_after : ℕ) (before : Option (List (List ℕ)))
    (result : Result T Refusal) (r : Refusal) → result ≡ Err r → IsOfInput rose_before rose_after r → IfSome old (λ bytes. RefusesInput bytes r)
    → IfSome old (λ all. AsksNames (names_asked (input_work made all)) before before result)
input_none made None rose_before rose_after before result r e of is = tt
input_none made (Some all) rose_before rose_after before result r e of is =
    named_same (names_asked (input_work made all)) before before result r e
    (input_refused (status_of r) rose_before rose_after all r made before of is)

-- an edited tree was read
pub read_names : {T : Type 0} (pages : Pages) (page : List ℕ) (edited : Edited) (t : Tree) (bytes : List ℕ)
    (before after : Option (List (List ℕ))) (result : Result T Refusal) → Answers (Ok edited) bytes → t ≡ body_of edited
    → AsksNames (names_asked (work_done pages page ++ work_behind (refusal_of_page pages page) (new_work pages (answer_of_edit pages page t))))
    before after result
    → AsksNames (names_asked (edited_work pages page (read bytes))) before after result
unfolding edited_work
read_names pages page edited t bytes before after result reads is names =
    subst (λ r. AsksNames (names_asked (edited_work pages page r)) before after result) (sym reads)
    (subst (λ x. AsksNames (names_asked (work_done pages page ++ work_behind (refusal_of_page pages page) (new_work pages (answer_of_edit pages page x))))
    before after result) is names)

ill_work : (pages : Pages) (page : List ℕ) (r : Read) (place : ℕ) (why : HtmlWhy) → r ≡ ill place why → edited_work pages page r ≡ []
unfolding edited_work
ill_work pages page r place why e = ap (edited_work pages page) e

misfit_work : (pages : Pages) (page : List ℕ) (r : Read) (n : ℕ) (why : FitWhy) → r ≡ misfit n why → edited_work pages page r ≡ []
unfolding edited_work
misfit_work pages page r n why e = ap (edited_work pages page) e

nothing_asked : (work : List Entry) (before : Option (List (List ℕ))) → work ≡ [] → before ≡ followed_by before (names_asked work)
nothing_asked work before e = sym (ap (λ es. followed_by before (names_asked es)) e ∙ ap (followed_by before) none_asked ∙ names_end before)

unread_asks : (pages : Pages) (page bytes : List ℕ) (before : Option (List (List ℕ))) (e : HtmlRefusal) → Answers (Err e) bytes
    → AsksAs (status_of (refusal_of e)) (names_asked (edited_work pages page (read bytes))) before before
unread_asks pages page bytes before (of_html.Html place why) h =
    nothing_asked (edited_work pages page (read bytes)) before (ill_work pages page (read bytes) place why h)
unread_asks pages page bytes before (of_html.Unfit n why) h =
    nothing_asked (edited_work pages page (read bytes)) before (misfit_work pages page (read bytes) n why h)
unread_asks pages page bytes before of_html.NoMemory h = first_some before (names_asked (edited_work pages page (read bytes)))

-- the HTML is refused
pub unread_names : {T : Type 0} (pages : Pages) (page bytes : List ℕ) (before : Option (List (List ℕ))) (result : Result T Refusal) (e : HtmlRefusal)
    → IsErrAnd result (λ r. r ≡ refusal_of e) → Answers (Err e) bytes
    → AsksNames (names_asked (edited_work pages page (read bytes))) before before result
unread_names pages page bytes before (Ok value) e is h = absurd is
unread_names pages page bytes before (Err r) e is h =
    subst (λ (x : Refusal). AsksAs (status_of x) (names_asked (edited_work pages page (read bytes))) before before) (sym is)
    (unread_asks pages page bytes before e h)

-- the page was expanded, and then what the new page asks for
pub new_names : {T : Type 0} (pages : Pages) (page : List ℕ) (rest : List Entry) (x : Expansion) (before middle after : Option (List (List ℕ)))
    (result : Result T Refusal) → refusal_of_page pages page ≡ None → KnowsMore pages [] (page_work pages page) x before middle
    → AsksNames (firsts_after (known_after [] (fetches (page_work pages page))) (fetches rest)) middle after result
    → AsksNames (names_asked (work_done pages page ++ work_behind (refusal_of_page pages page) rest)) before after result
new_names pages page rest x before middle after result e k names =
    let work = page_work pages page in
    let all : names_asked (work_done pages page ++ work_behind (refusal_of_page pages page) rest)
    ≡ firsts_after [] (fetches work) ++ firsts_after (known_after [] (fetches work)) (fetches rest) =
    ap (λ o. names_asked (work_done pages page ++ work_behind o rest)) e ∙ ap (λ es. names_asked (es ++ rest)) (work_whole pages page e)
    ∙ asked_are (work ++ rest) ∙ more_names [] work rest in
    asks_left (found_status result) (firsts_after [] (fetches work)) (firsts_after (known_after [] (fetches work)) (fetches rest))
    (names_asked (work_done pages page ++ work_behind (refusal_of_page pages page) rest)) before middle after k.told_is all names

none_behind : (o : Option Refused) (x : Refused) (work : List Entry) → o ≡ Some x → work_behind o work ≡ []
none_behind o x work e = ap (λ p. work_behind p work) e

-- the names of work and of what follows it
all_behind : (work rest : List Entry)
    → names_asked (work ++ rest) ≡ names_asked work ++ firsts_after (known_after [] (fetches work)) (fetches rest)
all_behind work rest =
    let more = firsts_after (known_after [] (fetches work)) (fetches rest) in
    asked_are (work ++ rest) ∙ more_names [] work rest ∙ ap (λ ns. ns ++ more) (sym (asked_are work))

first_behind : (work rest : List Entry) (before after : Option (List (List ℕ))) → AreFirst after (followed_by before (names_asked work))
    → AreFirst after (followed_by before (names_asked (work ++ rest)))
first_behind work rest before after h =
    let more = firsts_after (known_after [] (fetches work)) (fetches rest) in
    subst (λ (ns : List (List ℕ)). AreFirst after (followed_by before ns)) (sym (all_behind work rest))
    (first_more (names_asked work) more before after h)

fewer_behind : (work rest : List Entry) (before after : Option (List (List ℕ))) → AnswersFewer (names_asked work) before after
    → AnswersFewer (names_asked (work ++ rest)) before after
fewer_behind work rest before after h =
    let more = firsts_after (known_after [] (fetches work)) (fetches rest) in
    subst (λ (ns : List (List ℕ)). AnswersFewer ns before after) (sym (all_behind work rest)) (fewer_more (names_asked work) more before after h)

-- a page that is refused has no work behind it
refused_alone : (pages : Pages) (page : List ℕ) (rest : List Entry) (before after : Option (List (List ℕ))) (x : Refused)
    → refusal_of_page pages page ≡ Some x → AnswersAll (names_asked (work_done pages page)) before after
    → AnswersAll (names_asked (work_done pages page ++ work_behind (refusal_of_page pages page) rest)) before after
refused_alone pages page rest before after x e h =
    h ∙ ap (λ es. followed_by before (names_asked es)) (sym (append-nil (work_done pages page)))
    ∙ ap (λ es. followed_by before (names_asked (work_done pages page ++ es))) (sym (none_behind (refusal_of_page pages page) x rest e))

stopped_asks : (pages : Pages) (page : List ℕ) (rest : List Entry) (before after : Option (List (List ℕ))) (e : ExpandRefusal)
    → Stops pages page 0 [] (page_work pages page) before after e
    → AsksAs (status_of (refusal_of_expansion e)) (names_asked (work_done pages page ++ work_behind (refusal_of_page pages page) rest)) before after
stopped_asks pages page rest before after e s = by e s (stops_page pages page [] (page_work pages page) before after e s)
  where
    behind : List Entry
    behind = work_behind (refusal_of_page pages page) rest

    asks : (e : ExpandRefusal) → Stops pages page 0 [] (page_work pages page) before after e
        → AsksAs (status_of (refusal_of_expansion e)) (names_asked (work_done pages page)) before after
    asks e s = subst (λ (ns : List (List ℕ)). AsksAs (status_of (refusal_of_expansion e)) ns before after) (sym (asked_are (work_done pages page)))
        (expanded_asks pages page [] before after e s)

    by : (e : ExpandRefusal) → Stops pages page 0 [] (page_work pages page) before after e → IsRefused (refusal_of_page pages page) e
        → AsksAs (status_of (refusal_of_expansion e)) (names_asked (work_done pages page ++ behind)) before after
    by (of_expansion.BracesTooDeep title place) s is =
        refused_alone pages page rest before after _ is (asks (of_expansion.BracesTooDeep title place) s)
    by of_expansion.TooLarge s is = refused_alone pages page rest before after _ is (asks of_expansion.TooLarge s)
    by of_expansion.FolderFault s is =
        fewer_behind (work_done pages page) behind before after (asks of_expansion.FolderFault s)
    by (of_expansion.TemplateNotUtf8 title place) s is =
        refused_alone pages page rest before after _ is (asks (of_expansion.TemplateNotUtf8 title place) s)
    by (of_expansion.TemplateTooLong title) s is =
        refused_alone pages page rest before after _ is (asks (of_expansion.TemplateTooLong title) s)
    by of_expansion.NoMemory s is =
        first_behind (work_done pages page) behind before after (asks of_expansion.NoMemory s)

-- the page's expansion stopped
pub stopped_names : {T : Type 0} (pages : Pages) (page : List ℕ) (rest : List Entry) (before after : Option (List (List ℕ))) (result : Result T Refusal)
    (e : ExpandRefusal) → IsErrAnd result (λ r. r ≡ refusal_of_expansion e) → Stops pages page 0 [] (page_work pages page) before after e
    → AsksNames (names_asked (work_done pages page ++ work_behind (refusal_of_page pages page) rest)) before after result
stopped_names pages page rest before after (Ok value) e is s = absurd is
stopped_names pages page rest before after (Err r) e is s =
    subst (λ (x : Refusal). AsksAs (status_of x) (names_asked (work_done pages page ++ work_behind (refusal_of_page pages page) rest)) before after) (sym is)
    (stopped_asks pages page rest before after e s)

-- ---- a new page

-- what stands as it is
pub new_text : (new : List ℕ) (made : List ℕ → List Entry) → IsText new → title_work (Some new) made ≡ made new
new_text new made whole = work_under (Some new) new made (λ answer. refl) whole

-- the edit of what was expanded is that of the page
pub edit_is : (pages : Pages) (page : List ℕ) (items : Expanded) (t edited : Tree) → items ≡ expanded_page pages page → t ≡ page_tree pages page
    → new_work pages (edit_answer same_node items page t edited) ≡ new_work pages (answer_of_edit pages page edited)
edit_is pages page items t edited is same =
    ap (λ (x : Expanded). new_work pages (edit_answer same_node x page t edited)) is
    ∙ ap (λ (x : Tree). new_work pages (edit_answer same_node (expanded_page pages page) page x edited)) same

-- ---- `edit` waits

text_stands : (stands : Option (List ℕ)) (page : List ℕ) → IsFetched stands (fetched_as page) → IsText page → IsNoText stands → ⊥
text_stands stands page fetched text none =
    let any : List ℕ → Answer = λ bs. done bs in
    let e : done page ≡ refused none.0 = sym (fetched any ∙ text any) ∙ none.1 any in cc

-- where text stands nothing is said
pub reads_text : (A : Type 0) (told : Option Pages) (title page : List ℕ) → IfSome told (λ pages. IsFetched (pages title) (fetched_as page))
    → IsText page → IfSome told (λ pages. IsNoText (pages title) → A)
reads_text A None title page fetched text = tt
reads_text A (Some pages) title page fetched text = λ none. absurd (text_stands (pages title) page fetched text none)

pub waits : {A : Type 0} (told : Option Pages) (title : List ℕ) → A → IfSome told (λ pages. IsNoText (pages title) → A)
waits None title x = tt
waits (Some pages) title x = λ none. x

-- ---- all in all

some_first : (ns names more rest : List (List ℕ)) → ns ++ names ≡ (ns ++ more) ++ rest → take (length more) names ≡ more
some_first ns names more rest e =
    let same : names ≡ more ++ rest = append_cancel_left ns names (more ++ rest) (e ∙ append_assoc ns more rest) in
    ap (take (length more)) same ∙ take-append-le (length more) more rest (omega arith) ∙ take_all (length more) more (omega arith)

pub first_of : (names : List (List ℕ)) (before after : Option (List (List ℕ))) → AreFirst before after → AreFirst after (followed_by before names)
    → AnswersFirst names before after
first_of names None after grown first = (0, grown.1)
first_of names (Some ns) after grown first =
    let more = grown.0 in
    let all : Some (ns ++ names) ≡ Some ((ns ++ more) ++ first.0) = first.1 ∙ ap (λ x. followed_by x first.0) grown.1 in
    let bare : ns ++ names ≡ (ns ++ more) ++ first.0 = cc in
    (length more, grown.1 ∙ ap (λ xs. Some (ns ++ xs)) (sym (some_first ns names more first.0 bare)))

-- however a step ended, the folder answered the first of its names
pub first_named : {T : Type 0} (names : List (List ℕ)) (before after : Option (List (List ℕ))) (result : Result T Refusal)
    → AreFirst before after → AsksNames names before after result → AnswersFirst names before after
first_named names before after result grown named = first_of names before after grown (asks_first (found_status result) names before after named)

-- ---- what a refused edit asks for

work_is : (pages : Pages) (page : List ℕ) (edited : Tree) (unsourced : Option ℕ)
    → edited_work pages page (as_page edited unsourced)
    ≡ work_done pages page ++ work_behind (refusal_of_page pages page) (new_work pages (answer_of_edit pages page edited))
unfolding edited_work
work_is pages page edited unsourced = refl

pub page_alone : (pages : Pages) (page : List ℕ) (edited : Tree) (unsourced : Option ℕ) (first : Refused) → refusal_of_page pages page ≡ Some first
    → edited_work pages page (as_page edited unsourced) ≡ work_done pages page
page_alone pages page edited unsourced first e =
    work_is pages page edited unsourced
    ∙ ap (λ o. work_done pages page ++ work_behind o (new_work pages (answer_of_edit pages page edited))) e ∙ append-nil (work_done pages page)

both_works : (pages : Pages) (page : List ℕ) (edited : Tree) (unsourced : Option ℕ) (answer : Result (List ℕ) EditRefusal)
    → refusal_of_page pages page ≡ None → answer_of_edit pages page edited ≡ answer
    → edited_work pages page (as_page edited unsourced) ≡ page_work pages page ++ new_work pages answer
both_works pages page edited unsourced answer e is =
    work_is pages page edited unsourced
    ∙ ap (λ o. work_done pages page ++ work_behind o (new_work pages (answer_of_edit pages page edited))) e
    ∙ ap (λ es. es ++ new_work pages (answer_of_edit pages page edited)) (work_whole pages page e)
    ∙ ap (λ a. page_work pages page ++ new_work pages a) is

pub edit_alone : (pages : Pages) (page : List ℕ) (edited : Tree) (unsourced : Option ℕ) (why : EditRefusal) → refusal_of_page pages page ≡ None
    → answer_of_edit pages page edited ≡ Err why → edited_work pages page (as_page edited unsourced) ≡ page_work pages page
edit_alone pages page edited unsourced why e is =
    both_works pages page edited unsourced (Err why) e is ∙ append-nil (page_work pages page)

pub edit_whole : (pages : Pages) (page : List ℕ) (edited : Tree) (unsourced : Option ℕ) (new : List ℕ) → refusal_of_page pages page ≡ None
    → answer_of_edit pages page edited ≡ Ok new → IsUnrefused pages new
    → edited_work pages page (as_page edited unsourced) ≡ page_work pages page ++ page_work pages new
edit_whole pages page edited unsourced new e is h =
    both_works pages page edited unsourced (Ok new) e is
    ∙ ap (λ es. page_work pages page ++ es) (new_text new (work_done pages) h.text ∙ work_whole pages new h.unrefused)
