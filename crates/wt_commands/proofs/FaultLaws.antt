-- A fault at its place: how far an input that failed was read, and which device failed.
use Rattle.std.proofs.Common.{◌≡◌, ℕ, List, [], refl, sym, subst, arith}
use Rattle.std.specs.Prelude.{Option, IfErr, Result, Ok, Err}
use Rattle.std.proofs.KnownBytes.{Consumes-nil}
use Rattle.wt_span.specs.declared.limits.TheConstants.{HTML_BYTES}
use Rattle.wt_commands.specs.declared.refusal.Refusal.{Refusal}
use Rattle.wt_commands.specs.declared.status.Status.{Status}
use Rattle.wt_commands.specs.declared.status.Status.TheVariants as status
use Rattle.wt_commands.specs.Causes.{found_status, IsTitleStatus, IsOfTitle, IsHtmlStatus, IsOfHtml, IsInputStatus, IsOfInput, IsEditStatus, IsOfEdit, FailsAlone}
use Rattle.wt_commands.specs.Inputs.{GivesAtMost, StopsAs, StopsWithin}
use Rattle.wt_commands.specs.Refusals.{status_of}

-- ---- how far an input was read

-- what was read is handed on
pub passed_stops : {T : Type 0} (result : Result T Refusal) (r : Refusal) (old new : Option (List ℕ)) → result ≡ Err r
    → StopsWithin old new r → IfErr result (StopsWithin old new)
passed_stops {T} result r old new e h = subst (λ (x : Result T Refusal). IfErr x (StopsWithin old new)) (sym e) h

-- it wasn't read
unread_by : (s : Status) (left : Option (List ℕ)) → StopsAs s left left
unread_by status.Done left = tt
unread_by status.Usage left = tt
unread_by status.PageRefused left = tt
unread_by status.HtmlRefused left = tt
unread_by status.EditRefused left = tt
unread_by status.ReadFault left = ([], Consumes-nil left, omega arith)
unread_by status.FolderFault left = tt
unread_by status.WriteFault left = tt
unread_by status.NoMemory left = tt

pub unread_stops : {T : Type 0} (result : Result T Refusal) (left : Option (List ℕ)) → IfErr result (StopsWithin left left)
unread_stops (Ok value) left = tt
unread_stops (Err r) left = unread_by (status_of r) left

-- all of it was read
html_by : (s : Status) (old new : Option (List ℕ)) → IsHtmlStatus s → StopsAs s old new
html_by status.Done old new h = tt
html_by status.Usage old new h = tt
html_by status.PageRefused old new h = tt
html_by status.HtmlRefused old new h = tt
html_by status.EditRefused old new h = tt
html_by status.ReadFault old new h = absurd h
html_by status.FolderFault old new h = tt
html_by status.WriteFault old new h = tt
html_by status.NoMemory old new h = tt

pub html_stops : {T : Type 0} (result : Result T Refusal) (old new : Option (List ℕ)) → IfErr result IsOfHtml → IfErr result (StopsWithin old new)
html_stops (Ok value) old new h = tt
html_stops (Err r) old new h = html_by (status_of r) old new h

edit_by : (rose : Type 0) (s : Status) (old new : Option (List ℕ)) → IsEditStatus ⊥ rose s → StopsAs s old new
edit_by rose status.Done old new h = tt
edit_by rose status.Usage old new h = tt
edit_by rose status.PageRefused old new h = tt
edit_by rose status.HtmlRefused old new h = tt
edit_by rose status.EditRefused old new h = tt
edit_by rose status.ReadFault old new h = absurd h
edit_by rose status.FolderFault old new h = tt
edit_by rose status.WriteFault old new h = tt
edit_by rose status.NoMemory old new h = tt

pub edit_stops : {T : Type 0} (rose : Type 0) (result : Result T Refusal) (old new : Option (List ℕ)) → IfErr result (IsOfEdit ⊥ rose)
    → IfErr result (StopsWithin old new)
edit_stops rose (Ok value) old new h = tt
edit_stops rose (Err r) old new h = edit_by rose (status_of r) old new h

-- where the input failed
pub read_fault_stops : {T : Type 0} (result : Result T Refusal) (old new : Option (List ℕ)) → IfErr result (StopsWithin old new)
    → found_status result ≡ status.ReadFault → GivesAtMost HTML_BYTES old new
read_fault_stops (Ok value) old new h e = absurd (let x : status.Done ≡ status.ReadFault = e in cc)
read_fault_stops (Err r) old new h e = subst (λ s. StopsAs s old new) e h

-- ---- which device failed

-- the input wasn't read, and the folder's count is kept
pub kept_alone : (s : Status) (i f g : ℕ) → g ≡ f → FailsAlone s i i f g
kept_alone s i f g kept = record { input = λ e. kept; folder = λ e. refl }

-- the input wasn't read
pub title_alone : {T : Type 0} (result : Result T Refusal) (i f g : ℕ) → IfErr result (IsOfTitle f g) → FailsAlone (found_status result) i i f g
title_alone (Ok value) i f g h = record { input = λ e. absurd (let x : status.Done ≡ status.ReadFault = e in cc); folder = λ e. refl }
title_alone (Err r) i f g h = record { input = λ e. absurd (subst (IsTitleStatus f g) e h); folder = λ e. refl }

-- nothing was fetched
pub input_alone : {T : Type 0} (result : Result T Refusal) (i j f : ℕ) → IfErr result (IsOfInput i j) → FailsAlone (found_status result) i j f f
input_alone (Ok value) i j f h = record { input = λ e. refl; folder = λ e. absurd (let x : status.Done ≡ status.FolderFault = e in cc) }
input_alone (Err r) i j f h = record { input = λ e. refl; folder = λ e. absurd (subst (IsInputStatus i j) e h) }

-- what refuses a title or an input is handed on
pub unfetched_alone : {T : Type 0} (result : Result T Refusal) (r : Refusal) (i f g : ℕ) → result ≡ Err r → IsOfTitle f g r
    → FailsAlone (found_status result) i i f g
unfetched_alone {T} result r i f g e h = title_alone result i f g (subst (λ (x : Result T Refusal). IfErr x (IsOfTitle f g)) (sym e) h)

pub passed_alone : {T : Type 0} (result : Result T Refusal) (r : Refusal) (i j f : ℕ) → result ≡ Err r → IsOfInput i j r
    → FailsAlone (found_status result) i j f f
passed_alone {T} result r i j f e h = input_alone result i j f (subst (λ (x : Result T Refusal). IfErr x (IsOfInput i j)) (sym e) h)

-- the input was read before, and its count is kept
pub edit_alone : {T : Type 0} (rose : Type 0) (result : Result T Refusal) (i j f g : ℕ) → IfErr result (IsOfEdit ⊥ rose) → j ≡ i
    → FailsAlone (found_status result) i j f g
edit_alone rose (Ok value) i j f g h kept = record { input = λ e. absurd (let x : status.Done ≡ status.ReadFault = e in cc); folder = λ e. kept }
edit_alone rose (Err r) i j f g h kept = record { input = λ e. absurd (subst (IsEditStatus ⊥ rose) e h); folder = λ e. kept }

-- a page was fetched before
pub fetched_alone : (s : Status) (i j f m g : ℕ) → m ≡ f → FailsAlone s i j m g → FailsAlone s i j f g
fetched_alone s i j f m g kept h = subst (λ (x : ℕ). FailsAlone s i j x g) kept h
