-- What `run` says of `selser`: from what was found and what was reported.
use Rattle.std.proofs.Common.{◌≡◌, ℕ, ◌≤◌, List, length, Bool, false, refl, sym, ap, ◌∙◌, subst, inl, inr}
use Rattle.std.specs.Prelude.{◌⊎◌, ◌≢◌, Option, Some, None, IfSome, IfErr, OnOk, Result, Ok, Err}
use Rattle.std.specs.Io.KnownBytes.{Appends, IsAtEnd}
use Rattle.wt_checks.specs.Checked.{checked, nodes_checked}
use Rattle.wt_checks.proofs.NodesAlone.{taken_alone}
use Rattle.wt_checks.specs.declared.refusal.TreeRefusal.{TreeRefusal}
use Rattle.wt_difference.specs.Difference.{are_none, difference}
use Rattle.wt_expand.specs.PageCalls.{expanded_page}
use Rattle.wt_expand.specs.Work.{Pages}
use Rattle.wt_schema.specs.Read.{Read, page as as_page, ill, misfit, read}
use Rattle.wt_page_round_trip.specs.PageTree.{page_tree}
use Rattle.wt_selser.specs.declared.refusal.EditRefusal.{EditRefusal}
use Rattle.wt_selser.specs.Edits.{edit_answer}
use Rattle.wt_visible.specs.Children.{shown_children, differing}
use Rattle.wt_visible.specs.Restored.{restored_from}
use Rattle.wt_visible.specs.SameNodes.{same_node}
use Rattle.wt_visible.proofs.DifferingLaws.{none_same}
use Rattle.wt_span.specs.Origins.{Expanded}
use Rattle.wt_span.specs.declared.limits.TheConstants.{HTML_BYTES}
use Rattle.wt_tree.specs.Plain.{plain}
use Rattle.wt_tree.specs.Tree.{Tree}
use Rattle.wt_commands.specs.declared.command.Command.TheVariants.{Selser}
use Rattle.wt_commands.specs.declared.output.Output.{Output}
use Rattle.wt_commands.specs.declared.refusal.Refusal.{Refusal}
use Rattle.wt_commands.specs.declared.status.Status.{Status}
use Rattle.wt_commands.specs.declared.status.Status.TheVariants as status
use Rattle.wt_commands.specs.Answers.{Answer, done, refused, answer_of_edit, edit_by, edit_from, expanded_by, input_answer, new_expanded, nodes_answer, refusal_of_page, remarked_of, taken_answer, taken_from, taken_of, taken_to, title_answer, unspelled_answer, IsText, IsUnrefused}
use Rattle.wt_commands.specs.Causes.{RefusesAs}
use Rattle.wt_commands.specs.Calls.{IsDue}
use Rattle.wt_commands.specs.Devices.{SourceUse, FolderUse, SinkUse}
use Rattle.wt_commands.specs.Outputs.{output_bytes}
use Rattle.wt_commands.specs.Refusals.{status_of}
use Rattle.wt_pagetool.specs.Rewrites.{WroteSelser}
use Rattle.wt_commands.specs.Reports.{Reported}
use Rattle.wt_unmarked_edit.specs.Found.{ReadsBack}
use Rattle.wt_commands.specs.UnmarkedEdits.{DoneByEdit, EditIsDone}
use Rattle.wt_pagetool.specs.Selser.{AnswersSelser, Finds, FindsFor, FindsNew, FindsNone, FindsUnder, IsUnfound, NoneFor, NoneUnder, OrFound, RefusedSelser, RefusesSelser}
use Rattle.wt_commands.specs.Statuses.{code, IsAnswer, IsDoneOrRefused, IsFaultOrNoMemory}
use Rattle.wt_commands.specs.Words.{command_of, Reads}
use Rattle.wt_commands.proofs.AnswerLaws.{input_done, input_within}
use Rattle.wt_commands.proofs.EditLaws.{answer_ok, new_done, unspelled_done}
use Rattle.wt_commands.proofs.PageLaws.{expanded_done, page_text, title_made, title_stands}
use Rattle.wt_commands.proofs.RunLaws.{FoundDone, ended_of, found_done}
use Rattle.wt_commands.proofs.SelserShown.{remarked_shown}
use Rattle.wt_commands.proofs.ShownLaws.{same_shown, page_face, read_face}
use Rattle.wt_commands.proofs.EditLaws.{restored_bare}
use Rattle.wt_pagetool.proofs.UnmarkedEdits.{done_back, reads_back}
use Rattle.wt_commands.proofs.StatusLaws.{is_answer, is_done, IsUnansweredBy, unanswered}

-- ---- a page that is taken

nodes_done : (page bytes : List ℕ) (o : Option TreeRefusal) → nodes_answer page o ≡ done bytes → o ≡ None
nodes_done page bytes (Some c) e = cc
nodes_done page bytes None e = refl

record IsTaken (pages : Pages) (page : List ℕ) (r : Read) : Type 0 where
  pub edited : Tree
  pub unsourced : Option ℕ
  pub reads : r ≡ as_page edited unsourced
  pub unrefused : refusal_of_page pages page ≡ None
  pub nodes : nodes_checked (page_tree pages page) (remarked_of pages page edited) ≡ None

taken_done : (pages : Pages) (page : List ℕ) (r : Read) (bytes : List ℕ) → taken_answer pages page r ≡ done bytes → IsTaken pages page r
unfolding taken_answer
taken_done pages page (as_page t unsourced) bytes e =
    let x = expanded_done (taken_from pages page t) bytes (refusal_of_page pages page) e in
    record {
      edited = t;
      unsourced = unsourced;
      reads = refl;
      unrefused = x.0;
      nodes = nodes_done page bytes (nodes_checked (page_tree pages page) (remarked_of pages page t)) x.1;
    }
taken_done pages page (ill place why) bytes e = cc
taken_done pages page (misfit n why) bytes e = cc

-- what is found of a page that is taken
record IsTakenUnder (pages : Pages) (stands : Option (List ℕ)) (input : List ℕ) (result : Result Output Refusal) : Type 0 where
  pub page : List ℕ
  pub found : stands ≡ Some page
  pub within : length input ≤ HTML_BYTES
  pub taken : IsTaken pages page (read input)
  pub finds : Finds pages page taken.edited result

taken_under : (pages : Pages) (stands : Option (List ℕ)) (input bytes : List ℕ) (result : Result Output Refusal) → taken_of pages stands input ≡ done bytes
    → FindsUnder pages stands (read input) result → IsTakenUnder pages stands input result
taken_under pages stands input bytes result e f =
    let made : List ℕ → Answer = λ page. input_answer (taken_answer pages page) input in
    let h = title_stands stands made bytes e in
    let m = input_done (taken_answer pages h.0) input bytes h.2 in
    let t = taken_done pages h.0 (read input) bytes m.1 in
    record {
      page = h.0;
      found = h.1;
      within = m.0;
      taken = t;
      finds = subst (λ (x : Read). FindsFor pages h.0 x result) t.reads (subst (λ o. FindsUnder pages o (read input) result) h.1 f);
    }

-- what is found with an output is found of a page that is taken
or_done : (a : Answer) (F : Type 0) (output : Output) → OrFound a F (Ok output) → ((page : List ℕ) × (a ≡ done page)) × F
or_done (done page) F output h = ((page, refl), h)
or_done (refused r) F output h = absurd cc

-- ---- done

shows_new : (pages : Pages) (page input : List ℕ) (edited : Tree) (unsourced : Option ℕ) (new : List ℕ) → read input ≡ as_page edited unsourced
    → ReadsBack pages (page_tree pages page) (remarked_of pages page edited) new
    → plain (page_tree pages new) ≡ plain (restored_from (page_tree pages page) edited)
shows_new pages page input edited unsourced new reads back =
    let t = page_tree pages page in
    let u = remarked_of pages page edited in
    let m = title_made new new (new_expanded pages t u) (reads_back pages t u new back) in
    let n = new_done (unspelled_answer pages t u new) new (refusal_of_page pages new) m.is in
    let shown = shown_children (restored_from t u) in
    let d = unspelled_done new new (differing 1 (shown_children (page_tree pages new)) shown) n.1 in
    same_shown (page_tree pages new) (restored_from t edited) (page_face pages new) (restored_bare t edited (read_face input edited unsourced reads))
    (none_same 1 (shown_children (page_tree pages new)) shown d.1 ∙ remarked_shown t edited)

new_unrefused : (pages : Pages) (t u : Tree) (new : List ℕ) → ReadsBack pages t u new → IsUnrefused pages new
new_unrefused pages t u new back =
    let m = title_made new new (new_expanded pages t u) (reads_back pages t u new back) in
    let n = new_done (unspelled_answer pages t u new) new (refusal_of_page pages new) m.is in
    record { text = page_text new m.within m.text; unrefused = n.0 }

wrote_selser : (pages : Pages) (title input : List ℕ) (left old new : Option (List ℕ)) (output : Output)
    → AnswersSelser pages (pages title) input (Ok output) → IsAtEnd left → Appends old new (output_bytes output)
    → WroteSelser pages title input left old new
wrote_selser pages title input left old new output answers ended wrote =
    let result : Result Output Refusal = Ok output in
    let o = or_done (taken_of pages (pages title) input) (FindsUnder pages (pages title) (read input) result) output answers in
    let x = taken_under pages (pages title) input o.0.0 result o.0.1 o.1 in
    let t = x.taken in
    record {
      page = x.page;
      edited = t.edited;
      unsourced = t.unsourced;
      changed = output_bytes output;
      found = x.found;
      within = x.within;
      reads = t.reads;
      ended = ended;
      expanded = t.unrefused;
      allowed = t.nodes;
      made = x.finds.made;
      wrote = wrote;
      answered = new_unrefused pages (page_tree pages x.page) (remarked_of pages x.page t.edited) (output_bytes output) x.finds.back;
      shows = shows_new pages x.page input t.edited t.unsourced (output_bytes output) t.reads x.finds.back;
    }

selser_found : (told : Option Pages) (left new : Option (List ℕ)) (title : List ℕ) (found : Result Output Refusal) (out err : SinkUse)
    → IfSome told (λ pages. IfSome left (λ bytes. AnswersSelser pages (pages title) bytes found)) → IsAtEnd new → FoundDone found out err
    → IfSome told (λ pages. IfSome left (λ bytes. WroteSelser pages title bytes new out.taken_before out.taken_after))
selser_found None left new title found out err a ended f = tt
selser_found (Some pages) None new title found out err a ended f = tt
selser_found (Some pages) (Some bytes) new title found out err a ended f =
    wrote_selser pages title bytes new out.taken_before out.taken_after f.output (subst (AnswersSelser pages (pages title) bytes) f.is a) ended f.wrote.taken

pub run_selser : (words : List (List ℕ)) (input : SourceUse) (folder : FolderUse) (out err : SinkUse)
    (found : Result Output Refusal) (s : Status) (ended : ℕ) → ended ≡ code s
    → ((title : List ℕ) → command_of words ≡ Some (Selser title)
    → IfSome folder.pages_before (λ pages. IfSome input.left_before (λ bytes. AnswersSelser pages (pages title) bytes found)))
    → IfErr found (IsDue words input folder) → (Reads (command_of words) → OnOk found (IsAtEnd input.left_after))
    → Reported found s out err
    → (title : List ℕ) → command_of words ≡ Some (Selser title) → ended ≡ code status.Done
    → IfSome folder.pages_before (λ pages. IfSome input.left_before
    (λ bytes. WroteSelser pages title bytes input.left_after out.taken_before out.taken_after))
run_selser words input folder out err found s ended is a due ends r title w e =
    let f = found_done words input folder out err found s due r (is_done s (sym is ∙ e)) in
    selser_found folder.pages_before input.left_before input.left_after title found out err (a title w)
    (ended_of found input.left_after out err (ends (subst Reads (sym w) tt)) f) f

-- ---- refused

-- a refusal that isn't a fault and no want of memory is the answer
refused_for : (r x : Refusal) (s : Status) → IsAnswer s → RefusesAs s r (refused x) → x ≡ r
refused_for r x status.Done a h = absurd h
refused_for r x status.Usage a h = let e : refused x ≡ refused r = h in cc
refused_for r x status.PageRefused a h = let e : refused x ≡ refused r = h in cc
refused_for r x status.HtmlRefused a h = let e : refused x ≡ refused r = h in cc
refused_for r x status.EditRefused a h = let e : refused x ≡ refused r = h in cc
refused_for r x status.ReadFault a h = absurd a
refused_for r x status.FolderFault a h = absurd a
refused_for r x status.WriteFault a h = absurd a
refused_for r x status.NoMemory a h = absurd a

none_by : (pages : Pages) (items : Expanded) (page : List ℕ) (t u : Tree) (same : Bool) (r : Refusal) (s : Status) → IsAnswer s
    → FindsNone pages items page t u same r s → IsUnfound pages items page t u same r
none_by pages items page t u same r status.Done a h = absurd h
none_by pages items page t u same r status.Usage a h = absurd h
none_by pages items page t u same r status.PageRefused a h = absurd h
none_by pages items page t u same r status.HtmlRefused a h = absurd h
none_by pages items page t u same r status.EditRefused a h = h
none_by pages items page t u same r status.ReadFault a h = absurd a
none_by pages items page t u same r status.FolderFault a h = absurd a
none_by pages items page t u same r status.WriteFault a h = absurd a
none_by pages items page t u same r status.NoMemory a h = absurd a

none_for : (pages : Pages) (page : List ℕ) (x : Read) (r : Refusal) → IsAnswer (status_of r) → FindsFor pages page x (Err r) → NoneFor pages page x r
none_for pages page (as_page edited unsourced) r a h =
    none_by pages (expanded_page pages page) page (page_tree pages page) (remarked_of pages page edited)
    (are_none (difference (page_tree pages page) edited)) r (status_of r) a h
none_for pages page (ill place why) r a h = tt
none_for pages page (misfit n why) r a h = tt

none_under : (pages : Pages) (stands : Option (List ℕ)) (x : Read) (r : Refusal) → IsAnswer (status_of r) → FindsUnder pages stands x (Err r)
    → NoneUnder pages stands x r
none_under pages None x r a h = tt
none_under pages (Some page) x r a h = none_for pages page x r a h

refuses_by : (pages : Pages) (stands : Option (List ℕ)) (input : List ℕ) (a : Answer) (r : Refusal) → IsAnswer (status_of r)
    → OrFound a (FindsUnder pages stands (read input) (Err r)) (Err r) → RefusesSelser a (NoneUnder pages stands (read input) r) r
refuses_by pages stands input (refused x) r e h = refused_for r x (status_of r) e h
refuses_by pages stands input (done page) r e h = none_under pages stands (read input) r e h

selser_refused : (pages : Pages) (stands : Option (List ℕ)) (input : List ℕ) (found : Result Output Refusal) (s : Status) (ended : ℕ) (out err : SinkUse)
    → ended ≡ code s → IsAnswer s → s ≢ status.Done → AnswersSelser pages stands input found → Reported found s out err
    → RefusedSelser pages stands input ended err
selser_refused pages stands input (Ok output) s ended out err is e n a (inl r) = absurd (n r.0)
selser_refused pages stands input (Ok output) s ended out err is e n a (inr r) = absurd (subst IsAnswer r.0 e)
selser_refused pages stands input (Err refusal) s ended out err is e n a (u, inl (inl t)) = record {
  refusal = refusal;
  cause = refuses_by pages stands input (taken_of pages stands input) refusal (subst IsAnswer t.0 e) a;
  named = is ∙ ap code t.0;
  line = t.1;
}
selser_refused pages stands input (Err refusal) s ended out err is e n a (u, inl (inr t)) = absurd (subst IsAnswer t.0 e)
selser_refused pages stands input (Err refusal) s ended out err is e n a (u, inr (inl t)) = absurd (subst IsAnswer t.0 e)
selser_refused pages stands input (Err refusal) s ended out err is e n a (u, inr (inr t)) = absurd (subst IsAnswer t.0 e)

pub run_selser_refused : (told : Option Pages) (left : Option (List ℕ)) (title : List ℕ) (found : Result Output Refusal) (s : Status) (ended : ℕ) (out err : SinkUse)
    → ended ≡ code s → IfSome told (λ pages. IfSome left (λ bytes. AnswersSelser pages (pages title) bytes found)) → Reported found s out err
    → IsDoneOrRefused ended → ended ≢ code status.Done
    → IfSome told (λ pages. IfSome left (λ bytes. RefusedSelser pages (pages title) bytes ended err))
run_selser_refused None left title found s ended out err is a r e n = tt
run_selser_refused (Some pages) None title found s ended out err is a r e n = tt
run_selser_refused (Some pages) (Some bytes) title found s ended out err is a r e n =
    selser_refused pages (pages title) bytes found s ended out err is (is_answer s (subst IsDoneOrRefused is e)) (λ d. n (is ∙ ap code d)) a r

-- ---- where `edit` is done

-- what was found is done, or a fault or want of memory
abbrev IsDoneOrFailed : Result Output Refusal → Type 0
IsDoneOrFailed (Ok output) = Unit {0}
IsDoneOrFailed (Err r) = IsUnansweredBy (status_of r)

done_or_fault : (found : Result Output Refusal) (s : Status) (ended : ℕ) (out err : SinkUse) → ended ≡ code s → IsDoneOrFailed found → Reported found s out err
    → (ended ≡ code status.Done) ⊎ IsFaultOrNoMemory ended
done_or_fault (Ok output) s ended out err is h (inl r) = inl (is ∙ ap code r.0)
done_or_fault (Ok output) s ended out err is h (inr r) = inr (unanswered s ended is (subst IsUnansweredBy (sym r.0) tt))
done_or_fault (Err r) s ended out err is h (u, inl (inl t)) = inr (unanswered s ended is (subst IsUnansweredBy (sym t.0) h))
done_or_fault (Err r) s ended out err is h (u, inl (inr t)) = inr (unanswered s ended is (subst IsUnansweredBy (sym t.0) tt))
done_or_fault (Err r) s ended out err is h (u, inr (inl t)) = inr (unanswered s ended is (subst IsUnansweredBy (sym t.0) tt))
done_or_fault (Err r) s ended out err is h (u, inr (inr t)) = inr (unanswered s ended is (subst IsUnansweredBy (sym t.0) tt))

edited_finds : (pages : Pages) (items : Expanded) (page : List ℕ) (t u : Tree) (same : Bool) (new : List ℕ) (found : Result Output Refusal)
    → edit_by pages t u (edit_answer same_node items page t u) ≡ done new → FindsNew pages items page t u same found → IsDoneOrFailed found
edited_finds pages items page t u same new (Ok output) e h = tt
edited_finds pages items page t u same new (Err r) e h = by (status_of r) h
  where
    by : (s : Status) → FindsNone pages items page t u same r s → IsUnansweredBy s
    by status.Done h = h
    by status.Usage h = h
    by status.PageRefused h = h
    by status.HtmlRefused h = h
    by status.EditRefused h =
        let x = done_back pages t u (edit_answer same_node items page t u) new e in h.none.unedited x.0 x.1.0 x.1.1
    by status.ReadFault h = tt
    by status.FolderFault h = tt
    by status.WriteFault h = tt
    by status.NoMemory h = tt

edit_allows : (pages : Pages) (page : List ℕ) (u : Tree) (answer : Result (List ℕ) EditRefusal) (new : List ℕ) → answer_of_edit pages page u ≡ answer
    → edit_by pages (page_tree pages page) u answer ≡ done new → checked false (page_tree pages page) u ≡ None
edit_allows pages page u (Err e) new is d = absurd cc
edit_allows pages page u (Ok given) new is d = (answer_ok (expanded_page pages page) page (page_tree pages page) u given is).0

as_edit : (pages : Pages) (page : List ℕ) (x : Read) (found : Result Output Refusal) → EditIsDone pages page x
    → OrFound (taken_answer pages page x) (FindsFor pages page x found) found → IsDoneOrFailed found
unfolding taken_answer
as_edit pages page (as_page edited unsourced) found d o =
    let t = page_tree pages page in
    let u = remarked_of pages page edited in
    let e = expanded_done (edit_from pages page u) d.0 (refusal_of_page pages page) d.1 in
    let allowed : checked false t u ≡ None = edit_allows pages page u (answer_of_edit pages page u) d.0 refl e.1 in
    let taken : taken_to pages page edited ≡ done page =
    ap (expanded_by (taken_from pages page edited)) e.0 ∙ ap (nodes_answer page) (taken_alone t u allowed) in
    edited_finds pages (expanded_page pages page) page t u (are_none (difference t edited)) d.0 found e.1
    (subst (λ a. OrFound a (Finds pages page edited found) found) taken o)
as_edit pages page (ill place why) found d o = absurd d
as_edit pages page (misfit n why) found d o = absurd d

-- what stands under the title is text, and the input isn't too long
under_text : (pages : Pages) (stands : Option (List ℕ)) (page input : List ℕ) (found : Result Output Refusal) → stands ≡ Some page → IsText page
    → length input ≤ HTML_BYTES → AnswersSelser pages stands input found
    → OrFound (taken_answer pages page (read input)) (FindsFor pages page (read input) found) found
under_text pages stands page input found is text within a =
    let made : List ℕ → Answer = λ bs. input_answer (taken_answer pages bs) input in
    subst (λ x. OrFound x (FindsFor pages page (read input) found) found) (text made ∙ input_within (taken_answer pages page) input within)
    (subst (λ o. OrFound (title_answer o made) (FindsUnder pages o (read input) found) found) is a)

pub run_selser_as_edit : (told : Option Pages) (left : Option (List ℕ)) (title : List ℕ) (found : Result Output Refusal) (s : Status) (ended : ℕ) (out err : SinkUse)
    → ended ≡ code s → IfSome told (λ pages. IfSome left (λ bytes. AnswersSelser pages (pages title) bytes found)) → Reported found s out err
    → IfSome told (λ pages. IfSome left (λ bytes. DoneByEdit pages (pages title) bytes → (ended ≡ code status.Done) ⊎ IsFaultOrNoMemory ended))
run_selser_as_edit None left title found s ended out err is a r = tt
run_selser_as_edit (Some pages) None title found s ended out err is a r = tt
run_selser_as_edit (Some pages) (Some bytes) title found s ended out err is a r = λ d.
    done_or_fault found s ended out err is
    (as_edit pages d.page (read bytes) found d.done (under_text pages (pages title) d.page bytes found d.found d.text d.within a)) r
