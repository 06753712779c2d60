-- When each refusal may come.
use Rattle.std.specs.Prelude.{◌≡◌, ⊤, ℕ, List, Option, Some, Result, Ok, Err}
use Rattle.wt_devices.specs.Device.{Rose}
use Rattle.wt_devices.specs.declared.device.FetchRefusal.{FetchRefusal}
use Rattle.wt_devices.specs.declared.device.FetchRefusal.TheVariants as of_fetch
use Rattle.wt_expand.specs.Work.{Refused}
use Rattle.wt_transclusion.specs.declared.refusal.ExpandRefusal.{ExpandRefusal}
use Rattle.wt_transclusion.specs.declared.refusal.ExpandRefusal.TheVariants as of_expansion
use Rattle.wt_html_in.specs.declared.refusal.HtmlRefusal.{HtmlRefusal}
use Rattle.wt_html_in.specs.declared.refusal.HtmlRefusal.TheVariants as of_html
use Rattle.wt_commands.specs.declared.status.Status.{Status}
use Rattle.wt_commands.specs.declared.status.Status.TheVariants as status
use Rattle.wt_commands.specs.declared.refusal.Refusal.{Refusal}
use Rattle.wt_commands.specs.declared.refusal.Refusal.TheVariants.{BracesTooDeep, TooLarge, TemplateNotUtf8, TemplateTooLong, Html, Unfit, NewExpansion, FolderFault, NoMemory}
use Rattle.wt_commands.specs.declared.output.Output.{Output}
use Rattle.wt_commands.specs.Outputs.{output_bytes}
use Rattle.wt_commands.specs.Statuses.{IsAnswer}
use Rattle.wt_commands.specs.Refusals.{status_of}
use Rattle.wt_schema.specs.Read.{Read}
use Rattle.wt_commands.specs.Answers.{Answer, done, refused, title_answer, expanded_by, input_answer}

-- ---- of an answer

-- a refusal that is no device's fault and no want of memory is this answer
abbrev pub RefusesAs : Status → Refusal → Answer → Type 0
RefusesAs status.Done r a = ⊥
RefusesAs status.Usage r a = a ≡ refused r
RefusesAs status.PageRefused r a = a ≡ refused r
RefusesAs status.HtmlRefused r a = a ≡ refused r
RefusesAs status.EditRefused r a = a ≡ refused r
RefusesAs status.ReadFault r a = ⊤
RefusesAs status.FolderFault r a = ⊤
RefusesAs status.WriteFault r a = ⊤
RefusesAs status.NoMemory r a = ⊤

abbrev pub Refuses : Refusal → Answer → Type 0
Refuses r a = RefusesAs (status_of r) r a

-- what was found is the answer
abbrev pub Answered : Answer → Result Output Refusal → Type 0
Answered a (Ok output) = a ≡ done (output_bytes output)
Answered a (Err r) = Refuses r a

-- how a call ends in which this was found
abbrev pub found_status : {T : Type 0} → Result T Refusal → Status
found_status (Ok value) = status.Done
found_status (Err r) = status_of r

-- ---- of a page

-- the refusal lies with the page, or memory ran out
abbrev pub IsPageStatus : Status → Type 0
IsPageStatus status.Done = ⊥
IsPageStatus status.Usage = ⊥
IsPageStatus status.PageRefused = ⊤
IsPageStatus status.HtmlRefused = ⊥
IsPageStatus status.EditRefused = ⊥
IsPageStatus status.ReadFault = ⊥
IsPageStatus status.FolderFault = ⊥
IsPageStatus status.WriteFault = ⊥
IsPageStatus status.NoMemory = ⊤

abbrev pub IsOfPage : Refusal → Type 0
IsOfPage r = IsPageStatus (status_of r)

-- the same, or the folder failed, whose count rose
abbrev pub IsTitleStatus : ℕ → ℕ → Status → Type 0
IsTitleStatus before after status.Done = ⊥
IsTitleStatus before after status.Usage = ⊥
IsTitleStatus before after status.PageRefused = ⊤
IsTitleStatus before after status.HtmlRefused = ⊥
IsTitleStatus before after status.EditRefused = ⊥
IsTitleStatus before after status.ReadFault = ⊥
IsTitleStatus before after status.FolderFault = Rose before after
IsTitleStatus before after status.WriteFault = ⊥
IsTitleStatus before after status.NoMemory = ⊤

abbrev pub IsOfTitle : ℕ → ℕ → Refusal → Type 0
IsOfTitle before after r = IsTitleStatus before after (status_of r)

-- the refusal refuses what is under a title, whatever is made of a page
abbrev pub RefusesTitle : Option (List ℕ) → Refusal → Type 0
RefusesTitle stands r = (made : List ℕ → Answer) → Refuses r (title_answer stands made)

-- why a folder gives no answer
abbrev pub fetch_refusal : FetchRefusal → Refusal
fetch_refusal of_fetch.Failed = FolderFault
fetch_refusal of_fetch.NoMemory = NoMemory

-- The bytes that were fetched are answered as what is under the title; or this refusal refuses it, or is a fault.
abbrev pub IsFetched : Option (List ℕ) → Result (List ℕ) Refusal → Type 0
IsFetched stands (Ok page) = (made : List ℕ → Answer) → title_answer stands made ≡ title_answer (Some page) made
IsFetched stands (Err r) = RefusesTitle stands r

-- ---- of an expansion

-- the refusal refuses an expansion, whatever is made of the expanded page
abbrev pub RefusesExpansion : Option Refused → Refusal → Type 0
RefusesExpansion first r = (answer : Answer) → Refuses r (expanded_by answer first)

-- what the expansion of a page answers, as the program names it
abbrev pub refusal_of_expansion : ExpandRefusal → Refusal
refusal_of_expansion (of_expansion.BracesTooDeep template place) = BracesTooDeep template place
refusal_of_expansion of_expansion.TooLarge = TooLarge
refusal_of_expansion of_expansion.FolderFault = FolderFault
refusal_of_expansion (of_expansion.TemplateNotUtf8 template place) = TemplateNotUtf8 template place
refusal_of_expansion (of_expansion.TemplateTooLong template) = TemplateTooLong template
refusal_of_expansion of_expansion.NoMemory = NoMemory

-- what the expansion of a new page answers
abbrev pub refusal_of_new : ExpandRefusal → Refusal
refusal_of_new (of_expansion.BracesTooDeep template place) = NewExpansion
refusal_of_new of_expansion.TooLarge = NewExpansion
refusal_of_new of_expansion.FolderFault = FolderFault
refusal_of_new (of_expansion.TemplateNotUtf8 template place) = NewExpansion
refusal_of_new (of_expansion.TemplateTooLong template) = NewExpansion
refusal_of_new of_expansion.NoMemory = NoMemory

-- ---- of an input

-- what the reader of HTML refuses
abbrev pub refusal_of : HtmlRefusal → Refusal
refusal_of (of_html.Html place why) = Html place why
refusal_of (of_html.Unfit n why) = Unfit n why
refusal_of of_html.NoMemory = NoMemory

-- the refusal lies with the HTML, or memory ran out
abbrev pub IsHtmlStatus : Status → Type 0
IsHtmlStatus status.Done = ⊥
IsHtmlStatus status.Usage = ⊥
IsHtmlStatus status.PageRefused = ⊥
IsHtmlStatus status.HtmlRefused = ⊤
IsHtmlStatus status.EditRefused = ⊥
IsHtmlStatus status.ReadFault = ⊥
IsHtmlStatus status.FolderFault = ⊥
IsHtmlStatus status.WriteFault = ⊥
IsHtmlStatus status.NoMemory = ⊤

abbrev pub IsOfHtml : Refusal → Type 0
IsOfHtml r = IsHtmlStatus (status_of r)

-- the same, or the input failed, whose count rose
abbrev pub IsInputStatus : ℕ → ℕ → Status → Type 0
IsInputStatus before after status.Done = ⊥
IsInputStatus before after status.Usage = ⊥
IsInputStatus before after status.PageRefused = ⊥
IsInputStatus before after status.HtmlRefused = ⊤
IsInputStatus before after status.EditRefused = ⊥
IsInputStatus before after status.ReadFault = Rose before after
IsInputStatus before after status.FolderFault = ⊥
IsInputStatus before after status.WriteFault = ⊥
IsInputStatus before after status.NoMemory = ⊤

abbrev pub IsOfInput : ℕ → ℕ → Refusal → Type 0
IsOfInput before after r = IsInputStatus before after (status_of r)

-- the refusal refuses an input, whatever is made of what is read
abbrev pub RefusesInput : List ℕ → Refusal → Type 0
RefusesInput input r = (made : Read → Answer) → Refuses r (input_answer made input)

-- ---- of an edit

-- the refusal lies with the page, the HTML, the edit or the new page, or memory ran out; or the input failed, of which
-- `read_fault` is the cause, or the folder, of which `folder_fault` is
abbrev pub IsEditStatus : Type 0 → Type 0 → Status → Type 0
IsEditStatus read_fault folder_fault status.Done = ⊥
IsEditStatus read_fault folder_fault status.Usage = ⊥
IsEditStatus read_fault folder_fault status.PageRefused = ⊤
IsEditStatus read_fault folder_fault status.HtmlRefused = ⊤
IsEditStatus read_fault folder_fault status.EditRefused = ⊤
IsEditStatus read_fault folder_fault status.ReadFault = read_fault
IsEditStatus read_fault folder_fault status.FolderFault = folder_fault
IsEditStatus read_fault folder_fault status.WriteFault = ⊥
IsEditStatus read_fault folder_fault status.NoMemory = ⊤

abbrev pub IsOfEdit : Type 0 → Type 0 → Refusal → Type 0
IsOfEdit read_fault folder_fault r = IsEditStatus read_fault folder_fault (status_of r)

-- no more than that the folder failed, whose count rose, or that memory ran out
abbrev pub IsFolderStatus : ℕ → ℕ → Status → Type 0
IsFolderStatus before after status.Done = ⊥
IsFolderStatus before after status.Usage = ⊥
IsFolderStatus before after status.PageRefused = ⊥
IsFolderStatus before after status.HtmlRefused = ⊥
IsFolderStatus before after status.EditRefused = ⊥
IsFolderStatus before after status.ReadFault = ⊥
IsFolderStatus before after status.FolderFault = Rose before after
IsFolderStatus before after status.WriteFault = ⊥
IsFolderStatus before after status.NoMemory = ⊤

abbrev pub IsOfFolder : ℕ → ℕ → Refusal → Type 0
IsOfFolder before after r = IsFolderStatus before after (status_of r)

-- ---- counts

-- the count of a device is kept where a call is answered
abbrev pub IsKept : {T : Type 0} → Result T Refusal → ℕ → ℕ → Type 0
IsKept found before after = IsAnswer (found_status found) → after ≡ before

-- Of the input and the folder one alone failed: a fault of the input ends a step in which the folder's count is kept, and a fault of the
-- folder one in which the input's is.
pub record FailsAlone (s : Status) (input_before input_after folder_before folder_after : ℕ) : Type 0 where
  pub input : s ≡ status.ReadFault → folder_after ≡ folder_before
  pub folder : s ≡ status.FolderFault → input_after ≡ input_before
