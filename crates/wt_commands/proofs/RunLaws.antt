-- What `run` ends with: from what was found and what was reported.
use Rattle.std.proofs.Common.{◌≡◌, ℕ, List, length, true, false, Bool, cond, refl, sym, ap, ◌∙◌, subst, inl, inr}
use Rattle.std.specs.Prelude.{◌⊎◌, ◌≢◌, nat_lt, Option, Some, None, option_map, IfSome, IfErr, OnOk, Result, Ok, Err}
use Rattle.std.specs.Io.KnownBytes.{Appends, IsAtEnd}
use Rattle.wt_devices.specs.Device.{Pages}
use Rattle.wt_transclusion.specs.Asked.{AreFirst}
use Rattle.wt_transclusion.specs.Stops.{AnswersFewer}
use Rattle.wt_tree.specs.Tree.{Tree}
use Rattle.wt_tree.specs.Source.{flat}
use Rattle.wt_schema.specs.Html.{html_text}
use Rattle.wt_schema.specs.Read.{Read, page as as_page, ill, misfit, read}
use Rattle.wt_page_round_trip.specs.PageTree.{page_tree}
use Rattle.wt_span.specs.declared.limits.TheConstants.{HTML_BYTES}
use Rattle.wt_commands.specs.declared.status.Status.{Status}
use Rattle.wt_commands.specs.declared.status.Status.TheVariants as status
use Rattle.wt_commands.specs.declared.refusal.Refusal.{Refusal}
use Rattle.wt_commands.specs.declared.refusal.Refusal.TheVariants.{HtmlTooLong, NoMemory}
use Rattle.wt_commands.specs.declared.output.Output.{Output}
use Rattle.wt_commands.specs.declared.command.PageCommand.{PageCommand}
use Rattle.wt_commands.specs.declared.command.PageCommand.TheVariants.{Html, Ranges, Lint}
use Rattle.wt_commands.specs.declared.command.Command.TheVariants.{Page, Expand, Edit, Gen, Wikitext}
use Rattle.wt_commands.specs.Outputs.{output_bytes}
use Rattle.wt_commands.specs.Statuses.{code, IsAnswer, IsDoneOrRefused, IsFaultOrNoMemory}
use Rattle.wt_commands.specs.Devices.{SourceUse, FolderUse, SinkUse, SourceFailed, FolderFailed, Untouched, Took}
use Rattle.wt_commands.specs.Refusals.{status_of}
use Rattle.wt_commands.specs.Words.{command_of, Reads}
use Rattle.wt_commands.specs.Answers.{Answer, done, refused, page_output, made_of_tree, made, title_answer, expansion_of, gen_answer, edit_of, source_answer, wikitext_answer, edit_told, answer_told, status_of_answer}
use Rattle.wt_commands.specs.Asked.{AnswersAll, AnswersFirst, AsksAs, AsksNames}
use Rattle.wt_commands.specs.Causes.{Answered, RefusesAs, IsKept, found_status}
use Rattle.wt_commands.specs.Calls.{call, IsDueAs, IsDue, KeptCounts, NothingFailed}
use Rattle.wt_commands.specs.Reports.{Reported, WasDone, WasRefused, OutFailed, ErrFailed, WrotePage, WroteExpansion, WroteEdit, WroteCounts, WroteSource}
use Rattle.wt_commands.proofs.StatusLaws.{is_done, is_read_fault, is_folder_fault, is_write_fault, is_answer, IsUnansweredBy, unanswered}
use Rattle.wt_commands.proofs.AnswerLaws.{input_done}
use Rattle.wt_commands.proofs.AskedLaws.{first_named}
use Rattle.wt_commands.proofs.EditLaws.{wrote_edit, told_edit}
use Rattle.wt_commands.proofs.GenLaws.{wrote_counts, told_counts}
use Rattle.wt_commands.proofs.PageLaws.{expanded_made}
use Rattle.wt_commands.proofs.ExpandLaws.{wrote_expansion, told_expansion}
use Rattle.wt_page_round_trip.proofs.PageTrees.{IsItsPage, page_tiled, page_covered, page_reached, page_numbered}
use Rattle.wt_commands.proofs.WikitextLaws.{told_wikitext}
use Rattle.wt_page_round_trip.proofs.HeldPages.{its_page}

-- ---- what a command makes of a page

within_done : (text bytes : List ℕ) (v : Bool) → cond v (refused HtmlTooLong) (done text) ≡ done bytes → bytes ≡ text
within_done text bytes true e = cc
within_done text bytes false e = cc

made_is : (command : PageCommand) (page : List ℕ) (t : Tree) (bytes : List ℕ) → made_of_tree command page t ≡ done bytes
    → bytes ≡ page_output command page t
made_is Html page t bytes e = within_done (html_text t) bytes (nat_lt HTML_BYTES (length (html_text t))) e
made_is Ranges page t bytes e = cc
made_is Lint page t bytes e = cc

wrote_page : (command : PageCommand) (pages : Pages) (title bytes : List ℕ) (old new : Option (List ℕ))
    → title_answer (pages title) (made command pages) ≡ done bytes → Appends old new bytes → WrotePage command pages title old new
wrote_page command pages title bytes old new e wrote =
    let h = expanded_made pages (pages title) (λ page. made_of_tree command page (page_tree pages page)) bytes e in
    let its : IsItsPage pages h.page = its_page pages h.page h.text h.unrefused in
    record {
      page = h.page;
      found = h.found;
      unrefused = h.unrefused;
      wrote = subst (Appends old new) (made_is command h.page (page_tree pages h.page) bytes h.is) wrote;
      tiled = page_tiled pages h.page;
      covers = page_covered pages h.page its;
      slices = page_reached pages h.page its;
      numbered = page_numbered pages h.page;
    }

-- ---- an answer that is wikitext is the source of what was read

abbrev IsSource : Read → List ℕ → Type 0
IsSource r bytes = (t : Tree) × (r ≡ as_page t None) × (bytes ≡ flat t)

source_done : (r : Read) (bytes : List ℕ) → source_answer r ≡ done bytes → IsSource r bytes
unfolding source_answer
source_done (as_page t None) bytes e = (t, refl, cc)
source_done (as_page t (Some n)) bytes e = cc
source_done (ill place why) bytes e = cc
source_done (misfit n why) bytes e = cc

wrote_source : (input bytes : List ℕ) (left old new : Option (List ℕ)) → wikitext_answer input ≡ done bytes → IsAtEnd left
    → Appends old new bytes → WroteSource input left old new
wrote_source input bytes left old new e ended wrote =
    let m = input_done source_answer input bytes e in
    let h = source_done (read input) bytes m.1 in
    record {
      tree = h.0;
      within = m.0;
      reads = h.1;
      ended = ended;
      wrote = subst (Appends old new) h.2 wrote;
    }

-- ---- what was found, by how the call ended

-- a refusal that is due doesn't end a call as one that is done, nor as a sink's fault
due_not_done : (s : Status) (words : List (List ℕ)) (input : SourceUse) (folder : FolderUse) (r : Refusal) → s ≡ status.Done
    → IsDueAs s words input folder r → ⊥
due_not_done s words input folder r e due = subst (λ v. IsDueAs v words input folder r) e due

due_not_fault : (s : Status) (words : List (List ℕ)) (input : SourceUse) (folder : FolderUse) (r : Refusal)
    → s ≡ status.WriteFault → IsDueAs s words input folder r → ⊥
due_not_fault s words input folder r e due = subst (λ v. IsDueAs v words input folder r) e due

-- a call that is done found an answer, and `out` took it
pub record FoundDone (found : Result Output Refusal) (out err : SinkUse) : Type 0 where
  pub output : Output
  pub is : found ≡ Ok output
  pub wrote : Took out (output_bytes output)
  pub silent : Untouched err

pub found_done : (words : List (List ℕ)) (input : SourceUse) (folder : FolderUse) (out err : SinkUse) (found : Result Output Refusal) (s : Status)
    → IfErr found (IsDue words input folder) → Reported found s out err → s ≡ status.Done → FoundDone found out err
found_done words input folder out err (Ok output) s due (inl r) e = record { output = output; is = refl; wrote = r.1; silent = r.2 }
found_done words input folder out err (Ok output) s due (inr r) e = absurd (let h : status.WriteFault ≡ status.Done = sym r.0 ∙ e in cc)
found_done words input folder out err (Err refusal) s due (u, inl (inl t)) e =
    absurd (due_not_done (status_of refusal) words input folder refusal (sym t.0 ∙ e) due)
found_done words input folder out err (Err refusal) s due (u, inl (inr t)) e = absurd (let h : status.WriteFault ≡ status.Done = sym t.0 ∙ e in cc)
found_done words input folder out err (Err refusal) s due (u, inr (inl t)) e = absurd (let h : status.NoMemory ≡ status.Done = sym t.0 ∙ e in cc)
found_done words input folder out err (Err refusal) s due (u, inr (inr t)) e = absurd (let h : status.WriteFault ≡ status.Done = sym t.0 ∙ e in cc)

done_of : (words : List (List ℕ)) (input : SourceUse) (folder : FolderUse) (out err : SinkUse) (found : Result Output Refusal)
    → IfSome (answer_told folder.pages_before input.left_before words) (λ a. Answered a found) → FoundDone found out err
    → WasDone (call words input folder out err)
done_of words input folder out err found answered f = record {
  bytes = output_bytes f.output;
  answer = subst (λ x. IfSome (answer_told folder.pages_before input.left_before words) (λ a. Answered a x)) f.is answered;
  wrote = f.wrote;
  silent = f.silent;
}

pub run_done : (words : List (List ℕ)) (input : SourceUse) (folder : FolderUse) (out err : SinkUse)
    (found : Result Output Refusal) (s : Status) (ended : ℕ) → ended ≡ code s
    → IfSome (answer_told folder.pages_before input.left_before words) (λ a. Answered a found)
    → IfErr found (IsDue words input folder) → Reported found s out err
    → ended ≡ code status.Done → WasDone (call words input folder out err)
run_done words input folder out err found s ended is answered due r e =
    done_of words input folder out err found answered (found_done words input folder out err found s due r (is_done s (sym is ∙ e)))

-- ---- refusals

refused_by : (words : List (List ℕ)) (input : SourceUse) (folder : FolderUse) (out err : SinkUse) (found : Result Output Refusal)
    (s : Status) (ended : ℕ) → ended ≡ code s
    → IfErr found (IsDue words input folder) → Reported found s out err → s ≢ status.Done → s ≢ status.WriteFault
    → WasRefused (call words input folder out err) ended
refused_by words input folder out err (Ok output) s ended is due (inl r) d w = absurd (d r.0)
refused_by words input folder out err (Ok output) s ended is due (inr r) d w = absurd (w r.0)
refused_by words input folder out err (Err refusal) s ended is due (u, inl (inl t)) d w =
    record { refusal = refusal; due = due; named = is ∙ ap code t.0; nothing = u; line = t.1 }
refused_by words input folder out err (Err refusal) s ended is due (u, inl (inr t)) d w = absurd (w t.0)
refused_by words input folder out err (Err refusal) s ended is due (u, inr (inl t)) d w =
    record { refusal = NoMemory; due = tt; named = is ∙ ap code t.0; nothing = u; line = t.1 }
refused_by words input folder out err (Err refusal) s ended is due (u, inr (inr t)) d w = absurd (w t.0)

pub run_refused : (words : List (List ℕ)) (input : SourceUse) (folder : FolderUse) (out err : SinkUse)
    (found : Result Output Refusal) (s : Status) (ended : ℕ) → ended ≡ code s
    → IfErr found (IsDue words input folder) → Reported found s out err → ended ≢ code status.Done
    → ended ≢ code status.WriteFault → WasRefused (call words input folder out err) ended
run_refused words input folder out err found s ended is due r d w =
    refused_by words input folder out err found s ended is due r (λ e. d (is ∙ ap code e)) (λ e. w (is ∙ ap code e))

-- ---- faults of sinks

fault_by : (words : List (List ℕ)) (input : SourceUse) (folder : FolderUse) (out err : SinkUse) (found : Result Output Refusal) (s : Status)
    → IfSome (answer_told folder.pages_before input.left_before words) (λ a. Answered a found)
    → IfErr found (IsDue words input folder) → Reported found s out err → s ≡ status.WriteFault
    → OutFailed (call words input folder out err) ⊎ ErrFailed (call words input folder out err)
fault_by words input folder out err (Ok output) s answered due (inl r) e = absurd (let h : status.Done ≡ status.WriteFault = sym r.0 ∙ e in cc)
fault_by words input folder out err (Ok output) s answered due (inr r) e =
    inl (record { bytes = output_bytes output; answer = answered; front = r.1; line = r.2 })
fault_by words input folder out err (Err refusal) s answered due (u, inl (inl t)) e =
    absurd (due_not_fault (status_of refusal) words input folder refusal (sym t.0 ∙ e) due)
fault_by words input folder out err (Err refusal) s answered due (u, inl (inr t)) e = inr (record { refusal = refusal; due = due; nothing = u; front = t.1 })
fault_by words input folder out err (Err refusal) s answered due (u, inr (inl t)) e = absurd (let h : status.NoMemory ≡ status.WriteFault = sym t.0 ∙ e in cc)
fault_by words input folder out err (Err refusal) s answered due (u, inr (inr t)) e = inr (record { refusal = NoMemory; due = tt; nothing = u; front = t.1 })

pub run_fault : (words : List (List ℕ)) (input : SourceUse) (folder : FolderUse) (out err : SinkUse)
    (found : Result Output Refusal) (s : Status) (ended : ℕ) → ended ≡ code s
    → IfSome (answer_told folder.pages_before input.left_before words) (λ a. Answered a found)
    → IfErr found (IsDue words input folder) → Reported found s out err → ended ≡ code status.WriteFault
    → OutFailed (call words input folder out err) ⊎ ErrFailed (call words input folder out err)
run_fault words input folder out err found s ended is answered due r e = fault_by words input folder out err found s answered due
    r (is_write_fault s (sym is ∙ e))

-- ---- the answer, where it is told

-- a refusal that was found has the status of the answer, or that of a fault or of want of memory
refusal_exact : (a : Answer) (r : Refusal) (s : Status) → s ≡ status_of r → RefusesAs s r a → (s ≡ status_of_answer a) ⊎ IsUnansweredBy s
refusal_exact a r status.Done e h = absurd h
refusal_exact a r status.Usage e h = inl (e ∙ ap status_of_answer (sym h))
refusal_exact a r status.PageRefused e h = inl (e ∙ ap status_of_answer (sym h))
refusal_exact a r status.HtmlRefused e h = inl (e ∙ ap status_of_answer (sym h))
refusal_exact a r status.EditRefused e h = inl (e ∙ ap status_of_answer (sym h))
refusal_exact a r status.ReadFault e h = inr tt
refusal_exact a r status.FolderFault e h = inr tt
refusal_exact a r status.WriteFault e h = inr tt
refusal_exact a r status.NoMemory e h = inr tt

exact_step : (a : Answer) (found : Result Output Refusal) (s : Status) (out err : SinkUse) → Answered a found
    → Reported found s out err → (s ≡ status_of_answer a) ⊎ IsUnansweredBy s
exact_step a (Ok output) s out err h (inl r) = inl (r.0 ∙ ap status_of_answer (sym h))
exact_step a (Ok output) s out err h (inr r) = inr (subst IsUnansweredBy (sym r.0) tt)
exact_step a (Err refusal) s out err h (u, inl (inl t)) = refusal_exact a refusal s t.0 (subst (λ v. RefusesAs v refusal a) (sym t.0) h)
exact_step a (Err refusal) s out err h (u, inl (inr t)) = inr (subst IsUnansweredBy (sym t.0) tt)
exact_step a (Err refusal) s out err h (u, inr (inl t)) = inr (subst IsUnansweredBy (sym t.0) tt)
exact_step a (Err refusal) s out err h (u, inr (inr t)) = inr (subst IsUnansweredBy (sym t.0) tt)

exact_number : (a : Answer) (s : Status) (ended : ℕ) → ended ≡ code s → (s ≡ status_of_answer a) ⊎ IsUnansweredBy s
    → (ended ≡ code (status_of_answer a)) ⊎ IsFaultOrNoMemory ended
exact_number a s ended is (inl e) = inl (is ∙ ap code e)
exact_number a s ended is (inr h) = inr (unanswered s ended is h)

pub run_exact : (told : Option Answer) (found : Result Output Refusal) (s : Status) (ended : ℕ) (out err : SinkUse)
    → ended ≡ code s → IfSome told (λ a. Answered a found) → Reported found s out err
    → IfSome told (λ a. (ended ≡ code (status_of_answer a)) ⊎ IsFaultOrNoMemory ended)
run_exact None found s ended out err is h r = tt
run_exact (Some a) found s ended out err is h r = exact_number a s ended is (exact_step a found s out err h r)

-- ---- completeness

-- where neither the input nor the folder failed, a refusal that is due is the answer, or memory ran out
due_by_answer : (s : Status) (words : List (List ℕ)) (input : SourceUse) (folder : FolderUse) (r : Refusal) (a : Answer)
    → s ≡ status_of r → (SourceFailed input → ⊥) → (FolderFailed folder → ⊥) → RefusesAs s r a → IsDueAs s words input folder r
    → (s ≡ status_of_answer a) ⊎ (s ≡ status.NoMemory)
due_by_answer status.Done words input folder r a is i f h due = absurd due
due_by_answer status.Usage words input folder r a is i f h due = inl (is ∙ ap status_of_answer (sym h))
due_by_answer status.PageRefused words input folder r a is i f h due = inl (is ∙ ap status_of_answer (sym h))
due_by_answer status.HtmlRefused words input folder r a is i f h due = inl (is ∙ ap status_of_answer (sym h))
due_by_answer status.EditRefused words input folder r a is i f h due = inl (is ∙ ap status_of_answer (sym h))
due_by_answer status.ReadFault words input folder r a is i f h due = absurd (i due.1)
due_by_answer status.FolderFault words input folder r a is i f h due = absurd (f due.1)
due_by_answer status.WriteFault words input folder r a is i f h due = absurd due
due_by_answer status.NoMemory words input folder r a is i f h due = inr refl

told_by_answer : (s : Status) (r : Refusal) (a : Answer) → s ≡ status_of r → (status_of r ≡ status_of_answer a) ⊎ (status_of r ≡ status.NoMemory)
    → (s ≡ status_of_answer a) ⊎ (s ≡ status.NoMemory)
told_by_answer s r a is (inl e) = inl (is ∙ e)
told_by_answer s r a is (inr e) = inr (is ∙ e)

complete_step : (words : List (List ℕ)) (input : SourceUse) (folder : FolderUse) (out err : SinkUse) (found : Result Output Refusal) (s : Status) (a : Answer)
    → Answered a found → IfErr found (IsDue words input folder) → Reported found s out err
    → NothingFailed (call words input folder out err) → (s ≡ status_of_answer a) ⊎ (s ≡ status.NoMemory)
complete_step words input folder out err (Ok output) s a h due (inl r) n = inl (r.0 ∙ ap status_of_answer (sym h))
complete_step words input folder out err (Ok output) s a h due (inr r) n = absurd (n.out r.1.count)
complete_step words input folder out err (Err refusal) s a h due (u, inl (inl t)) n =
    told_by_answer s refusal a t.0 (due_by_answer (status_of refusal) words input folder refusal a refl n.input n.folder h due)
complete_step words input folder out err (Err refusal) s a h due (u, inl (inr t)) n = absurd (n.err t.1.count)
complete_step words input folder out err (Err refusal) s a h due (u, inr (inl t)) n = inr t.0
complete_step words input folder out err (Err refusal) s a h due (u, inr (inr t)) n = absurd (n.err t.1.count)

complete_number : (s : Status) (ended : ℕ) (a : Answer) → ended ≡ code s → (s ≡ status_of_answer a) ⊎ (s ≡ status.NoMemory)
    → (ended ≡ code (status_of_answer a)) ⊎ (ended ≡ code status.NoMemory)
complete_number s ended a is (inl e) = inl (is ∙ ap code e)
complete_number s ended a is (inr e) = inr (is ∙ ap code e)

pub run_complete : (words : List (List ℕ)) (input : SourceUse) (folder : FolderUse) (out err : SinkUse)
    (found : Result Output Refusal) (s : Status) (ended : ℕ) (t : Option Answer) → ended ≡ code s
    → IfSome t (λ a. Answered a found) → IfErr found (IsDue words input folder) → Reported found s out err
    → NothingFailed (call words input folder out err)
    → IfSome t (λ a. (ended ≡ code (status_of_answer a)) ⊎ (ended ≡ code status.NoMemory))
run_complete words input folder out err found s ended None is h due r n = tt
run_complete words input folder out err found s ended (Some a) is h due r n =
    complete_number s ended a is (complete_step words input folder out err found s a h due r n)

-- ---- counts

-- an answer was found, and the sinks' counts are kept
pub record FoundAnswer (found : Result Output Refusal) (out err : SinkUse) : Type 0 where
  pub is : IsAnswer (found_status found)
  pub out_kept : out.faults_after ≡ out.faults_before
  pub err_kept : err.faults_after ≡ err.faults_before

found_answer : (found : Result Output Refusal) (s : Status) (o e : SinkUse) → Reported found s o e → IsAnswer s → FoundAnswer found o e
found_answer (Ok output) s o e (inl r) h = record { is = tt; out_kept = r.1.count; err_kept = r.2.count }
found_answer (Ok output) s o e (inr r) h = absurd (subst IsAnswer r.0 h)
found_answer (Err refusal) s o e (u, inl (inl t)) h = record { is = subst IsAnswer t.0 h; out_kept = u.count; err_kept = t.1.count }
found_answer (Err refusal) s o e (u, inl (inr t)) h = absurd (subst IsAnswer t.0 h)
found_answer (Err refusal) s o e (u, inr (inl t)) h = absurd (subst IsAnswer t.0 h)
found_answer (Err refusal) s o e (u, inr (inr t)) h = absurd (subst IsAnswer t.0 h)

pub run_found : (found : Result Output Refusal) (s : Status) (ended : ℕ) (o e : SinkUse) → ended ≡ code s → Reported found s o e
    → IsDoneOrRefused ended → FoundAnswer found o e
run_found found s ended o e is r h = found_answer found s o e r (is_answer s (subst IsDoneOrRefused is h))

pub run_kept : (words : List (List ℕ)) (input : SourceUse) (folder : FolderUse) (out err : SinkUse)
    (found : Result Output Refusal) (s : Status) (ended : ℕ) → ended ≡ code s
    → IsKept found input.faults_before input.faults_after → IsKept found folder.faults_before folder.faults_after → Reported found s out err → IsDoneOrRefused ended
    → KeptCounts (call words input folder out err)
run_kept words input folder out err found s ended is i f r h =
    let a = run_found found s ended out err is r h in
    record { input = i a.is; folder = f a.is; out = a.out_kept; err = a.err_kept }

-- ---- names

pub run_asks : (told before after : Option (List (List ℕ))) (found : Result Output Refusal) → AreFirst before after
    → IfSome told (λ names. AsksNames names before after found) → IfSome told (λ names. AnswersFirst names before after)
run_asks None before after found grown named = tt
run_asks (Some names) before after found grown named = first_named names before after found grown named

-- a call ends as what was found does, or for want of memory for its line, or by a fault of a sink
ended_as : (found : Result Output Refusal) (s : Status) (out err : SinkUse) → Reported found s out err
    → (s ≡ found_status found) ⊎ ((s ≡ status.NoMemory) ⊎ (s ≡ status.WriteFault))
ended_as (Ok output) s out err (inl r) = inl r.0
ended_as (Ok output) s out err (inr r) = inr (inr r.0)
ended_as (Err refusal) s out err (u, inl (inl t)) = inl t.0
ended_as (Err refusal) s out err (u, inl (inr t)) = inr (inr t.0)
ended_as (Err refusal) s out err (u, inr (inl t)) = inr (inl t.0)
ended_as (Err refusal) s out err (u, inr (inr t)) = inr (inr t.0)

all_answered : (s : Status) (names : List (List ℕ)) (before after : Option (List (List ℕ))) → IsAnswer s → AsksAs s names before after
    → AnswersAll names before after
all_answered status.Done names before after is h = h
all_answered status.Usage names before after is h = h
all_answered status.PageRefused names before after is h = h
all_answered status.HtmlRefused names before after is h = h
all_answered status.EditRefused names before after is h = h
all_answered status.ReadFault names before after is h = absurd is
all_answered status.FolderFault names before after is h = absurd is
all_answered status.WriteFault names before after is h = absurd is
all_answered status.NoMemory names before after is h = absurd is

answer_found : (found : Result Output Refusal) (s : Status) → IsAnswer s → (s ≡ found_status found) ⊎ ((s ≡ status.NoMemory) ⊎ (s ≡ status.WriteFault))
    → IsAnswer (found_status found)
answer_found found s is (inl e) = subst IsAnswer e is
answer_found found s is (inr (inl e)) = absurd (subst IsAnswer e is)
answer_found found s is (inr (inr e)) = absurd (subst IsAnswer e is)

-- a call that is done or refused has asked for all of its names
pub run_all : (told before after : Option (List (List ℕ))) (found : Result Output Refusal) (s : Status) (ended : ℕ) (out err : SinkUse) → ended ≡ code s
    → Reported found s out err → IfSome told (λ names. AsksNames names before after found) → IsDoneOrRefused ended
    → IfSome told (λ names. AnswersAll names before after)
run_all None before after found s ended out err is r named h = tt
run_all (Some names) before after found s ended out err is r named h =
    all_answered (found_status found) names before after
    (answer_found found s (is_answer s (subst IsDoneOrRefused is h)) (ended_as found s out err r)) named

fault_found : (found : Result Output Refusal) (s : Status) → s ≡ status.FolderFault
    → (s ≡ found_status found) ⊎ ((s ≡ status.NoMemory) ⊎ (s ≡ status.WriteFault)) → found_status found ≡ status.FolderFault
fault_found found s f (inl e) = sym e ∙ f
fault_found found s f (inr (inl e)) = absurd (let z : status.NoMemory ≡ status.FolderFault = sym e ∙ f in cc)
fault_found found s f (inr (inr e)) = absurd (let z : status.WriteFault ≡ status.FolderFault = sym e ∙ f in cc)

read_found : (found : Result Output Refusal) (s : Status) → s ≡ status.ReadFault
    → (s ≡ found_status found) ⊎ ((s ≡ status.NoMemory) ⊎ (s ≡ status.WriteFault)) → found_status found ≡ status.ReadFault
read_found found s f (inl e) = sym e ∙ f
read_found found s f (inr (inl e)) = absurd (let z : status.NoMemory ≡ status.ReadFault = sym e ∙ f in cc)
read_found found s f (inr (inr e)) = absurd (let z : status.WriteFault ≡ status.ReadFault = sym e ∙ f in cc)

-- a call that ends by a fault of the input or the folder found it
pub found_read_fault : (found : Result Output Refusal) (s : Status) (ended : ℕ) (out err : SinkUse) → ended ≡ code s
    → Reported found s out err → ended ≡ code status.ReadFault → found_status found ≡ status.ReadFault
found_read_fault found s ended out err is r h = read_found found s (is_read_fault s (sym is ∙ h)) (ended_as found s out err r)

pub found_folder_fault : (found : Result Output Refusal) (s : Status) (ended : ℕ) (out err : SinkUse) → ended ≡ code s
    → Reported found s out err → ended ≡ code status.FolderFault → found_status found ≡ status.FolderFault
found_folder_fault found s ended out err is r h = fault_found found s (is_folder_fault s (sym is ∙ h)) (ended_as found s out err r)

-- one that ends by a fault of the folder asked for the next of them, too
pub run_fewer : (told before after : Option (List (List ℕ))) (found : Result Output Refusal) (s : Status) (ended : ℕ) (out err : SinkUse) → ended ≡ code s
    → Reported found s out err → IfSome told (λ names. AsksNames names before after found) → ended ≡ code status.FolderFault
    → IfSome told (λ names. AnswersFewer names before after)
run_fewer None before after found s ended out err is r named h = tt
run_fewer (Some names) before after found s ended out err is r named h =
    subst (λ (v : Status). AsksAs v names before after) (found_folder_fault found s ended out err is r h) named

-- ---- the clauses of the commands

told_page : (pages : Option Pages) (input : Option (List ℕ)) (words : List (List ℕ)) (command : PageCommand) (title : List ℕ)
    → command_of words ≡ Some (Page command title)
    → answer_told pages input words ≡ option_map (λ ps. title_answer (ps title) (made command ps)) pages
unfolding answer_told
told_page pages input words command title e = rw e refl

page_found : (told : Option Pages) (command : PageCommand) (title : List ℕ) (found : Result Output Refusal) (out err : SinkUse)
    → IfSome (option_map (λ ps. title_answer (ps title) (made command ps)) told) (λ a. Answered a found) → FoundDone found out err
    → IfSome told (λ pages. WrotePage command pages title out.taken_before out.taken_after)
page_found None command title found out err a f = tt
page_found (Some pages) command title found out err a f =
    wrote_page command pages title (output_bytes f.output) out.taken_before out.taken_after
    (subst (Answered (title_answer (pages title) (made command pages))) f.is a) f.wrote.taken

wikitext_found : (left new : Option (List ℕ)) (found : Result Output Refusal) (out err : SinkUse)
    → IfSome (option_map wikitext_answer left) (λ a. Answered a found) → IsAtEnd new → FoundDone found out err
    → IfSome left (λ bytes. WroteSource bytes new out.taken_before out.taken_after)
wikitext_found None new found out err a ended f = tt
wikitext_found (Some bytes) new found out err a ended f =
    wrote_source bytes (output_bytes f.output) new out.taken_before out.taken_after (subst (Answered (wikitext_answer bytes)) f.is a) ended f.wrote.taken

pub run_page : (words : List (List ℕ)) (input : SourceUse) (folder : FolderUse) (out err : SinkUse)
    (found : Result Output Refusal) (s : Status) (ended : ℕ) → ended ≡ code s
    → IfSome (answer_told folder.pages_before input.left_before words) (λ a. Answered a found)
    → IfErr found (IsDue words input folder) → Reported found s out err
    → (command : PageCommand) (title : List ℕ) → command_of words ≡ Some (Page command title) → ended ≡ code status.Done
    → IfSome folder.pages_before (λ pages. WrotePage command pages title out.taken_before out.taken_after)
run_page words input folder out err found s ended is a due r command title w e =
    page_found folder.pages_before command title found out err
    (subst (λ x. IfSome x (λ y. Answered y found)) (told_page folder.pages_before input.left_before words command title w) a)
    (found_done words input folder out err found s due r (is_done s (sym is ∙ e)))

pub ended_of : (found : Result Output Refusal) (left : Option (List ℕ)) (out err : SinkUse) → OnOk found (IsAtEnd left) → FoundDone found out err → IsAtEnd left
ended_of found left out err h f = subst (λ x. OnOk x (IsAtEnd left)) f.is h

pub run_wikitext : (words : List (List ℕ)) (input : SourceUse) (folder : FolderUse) (out err : SinkUse)
    (found : Result Output Refusal) (s : Status) (ended : ℕ) → ended ≡ code s
    → IfSome (answer_told folder.pages_before input.left_before words) (λ a. Answered a found)
    → IfErr found (IsDue words input folder) → (Reads (command_of words) → OnOk found (IsAtEnd input.left_after))
    → Reported found s out err
    → command_of words ≡ Some Wikitext → ended ≡ code status.Done
    → IfSome input.left_before (λ bytes. WroteSource bytes input.left_after out.taken_before out.taken_after)
run_wikitext words input folder out err found s ended is a due ends r w e =
    let f = found_done words input folder out err found s due r (is_done s (sym is ∙ e)) in
    wikitext_found input.left_before input.left_after found out err
    (subst (λ x. IfSome x (λ y. Answered y found)) (told_wikitext folder.pages_before input.left_before words w) a)
    (ended_of found input.left_after out err (ends (subst Reads (sym w) tt)) f) f

expansion_found : (told : Option Pages) (title : List ℕ) (found : Result Output Refusal) (out err : SinkUse)
    → IfSome (option_map (λ ps. title_answer (ps title) (expansion_of ps)) told) (λ a. Answered a found) → FoundDone found out err
    → IfSome told (λ pages. WroteExpansion pages title out.taken_before out.taken_after)
expansion_found None title found out err a f = tt
expansion_found (Some pages) title found out err a f =
    wrote_expansion pages title (output_bytes f.output) out.taken_before out.taken_after
    (subst (Answered (title_answer (pages title) (expansion_of pages))) f.is a) f.wrote.taken

pub run_expansion : (words : List (List ℕ)) (input : SourceUse) (folder : FolderUse) (out err : SinkUse)
    (found : Result Output Refusal) (s : Status) (ended : ℕ) → ended ≡ code s
    → IfSome (answer_told folder.pages_before input.left_before words) (λ a. Answered a found)
    → IfErr found (IsDue words input folder) → Reported found s out err
    → (title : List ℕ) → command_of words ≡ Some (Expand title) → ended ≡ code status.Done
    → IfSome folder.pages_before (λ pages. WroteExpansion pages title out.taken_before out.taken_after)
run_expansion words input folder out err found s ended is a due r title w e =
    expansion_found folder.pages_before title found out err
    (subst (λ x. IfSome x (λ y. Answered y found)) (told_expansion folder.pages_before input.left_before words title w) a)
    (found_done words input folder out err found s due r (is_done s (sym is ∙ e)))

counts_found : (n : ℕ) (found : Result Output Refusal) (out err : SinkUse) → Answered (gen_answer n) found → FoundDone found out err
    → WroteCounts n out.taken_before out.taken_after
counts_found n found out err a f =
    wrote_counts n (output_bytes f.output) out.taken_before out.taken_after (subst (Answered (gen_answer n)) f.is a) f.wrote.taken

pub run_counts : (words : List (List ℕ)) (input : SourceUse) (folder : FolderUse) (out err : SinkUse)
    (found : Result Output Refusal) (s : Status) (ended : ℕ) → ended ≡ code s
    → IfSome (answer_told folder.pages_before input.left_before words) (λ a. Answered a found)
    → IfErr found (IsDue words input folder) → Reported found s out err
    → (n : ℕ) → command_of words ≡ Some (Gen n) → ended ≡ code status.Done → WroteCounts n out.taken_before out.taken_after
run_counts words input folder out err found s ended is a due r n w e =
    counts_found n found out err
    (subst (λ x. IfSome x (λ y. Answered y found)) (told_counts folder.pages_before input.left_before words n w) a)
    (found_done words input folder out err found s due r (is_done s (sym is ∙ e)))

edit_found : (told : Option Pages) (left new : Option (List ℕ)) (title : List ℕ) (found : Result Output Refusal) (out err : SinkUse)
    → IfSome (edit_told told left title) (λ a. Answered a found) → IsAtEnd new → FoundDone found out err
    → IfSome told (λ pages. IfSome left (λ bytes. WroteEdit pages title bytes new out.taken_before out.taken_after))
edit_found None left new title found out err a ended f = tt
edit_found (Some pages) None new title found out err a ended f = tt
edit_found (Some pages) (Some bytes) new title found out err a ended f =
    wrote_edit pages title bytes (output_bytes f.output) new out.taken_before out.taken_after
    (subst (Answered (edit_of pages (pages title) bytes)) f.is a) ended f.wrote.taken

pub run_edit : (words : List (List ℕ)) (input : SourceUse) (folder : FolderUse) (out err : SinkUse)
    (found : Result Output Refusal) (s : Status) (ended : ℕ) → ended ≡ code s
    → IfSome (answer_told folder.pages_before input.left_before words) (λ a. Answered a found)
    → IfErr found (IsDue words input folder) → (Reads (command_of words) → OnOk found (IsAtEnd input.left_after))
    → Reported found s out err
    → (title : List ℕ) → command_of words ≡ Some (Edit title) → ended ≡ code status.Done
    → IfSome folder.pages_before (λ pages. IfSome input.left_before
    (λ bytes. WroteEdit pages title bytes input.left_after out.taken_before out.taken_after))
run_edit words input folder out err found s ended is a due ends r title w e =
    let f = found_done words input folder out err found s due r (is_done s (sym is ∙ e)) in
    edit_found folder.pages_before input.left_before input.left_after title found out err
    (subst (λ x. IfSome x (λ y. Answered y found)) (told_edit folder.pages_before input.left_before words title w) a)
    (ended_of found input.left_after out err (ends (subst Reads (sym w) tt)) f) f
