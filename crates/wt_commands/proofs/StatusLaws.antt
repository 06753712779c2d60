-- Statuses, their numbers, and what a refusal's status says of it.
use Rattle.std.proofs.Common.{◌≡◌, ℕ, List, refl, sym, subst, arith}
use Rattle.std.specs.Prelude.{⊤}
use Rattle.wt_commands.specs.declared.status.Status.{Status}
use Rattle.wt_commands.specs.declared.status.Status.TheVariants.{Done, Usage, PageRefused, HtmlRefused, EditRefused, ReadFault, FolderFault, WriteFault, NoMemory}
use Rattle.wt_commands.specs.declared.refusal.Refusal.{Refusal}
use Rattle.wt_commands.specs.Statuses.{code, IsAnswer, IsDoneOrRefused, IsFaultOrNoMemory}
use Rattle.wt_commands.specs.Answers.{Answer, done}
use Rattle.wt_commands.specs.Causes.{RefusesAs, IsPageStatus, IsTitleStatus, IsHtmlStatus, IsInputStatus}

-- ---- from the number to the status

pub is_done : (s : Status) → code s ≡ code Done → s ≡ Done
is_done Done e = refl
is_done Usage e = absurd (omega (arith, e))
is_done PageRefused e = absurd (omega (arith, e))
is_done HtmlRefused e = absurd (omega (arith, e))
is_done EditRefused e = absurd (omega (arith, e))
is_done ReadFault e = absurd (omega (arith, e))
is_done FolderFault e = absurd (omega (arith, e))
is_done WriteFault e = absurd (omega (arith, e))
is_done NoMemory e = absurd (omega (arith, e))

pub is_write_fault : (s : Status) → code s ≡ code WriteFault → s ≡ WriteFault
is_write_fault Done e = absurd (omega (arith, e))
is_write_fault Usage e = absurd (omega (arith, e))
is_write_fault PageRefused e = absurd (omega (arith, e))
is_write_fault HtmlRefused e = absurd (omega (arith, e))
is_write_fault EditRefused e = absurd (omega (arith, e))
is_write_fault ReadFault e = absurd (omega (arith, e))
is_write_fault FolderFault e = absurd (omega (arith, e))
is_write_fault WriteFault e = refl
is_write_fault NoMemory e = absurd (omega (arith, e))

pub is_read_fault : (s : Status) → code s ≡ code ReadFault → s ≡ ReadFault
is_read_fault Done e = absurd (omega (arith, e))
is_read_fault Usage e = absurd (omega (arith, e))
is_read_fault PageRefused e = absurd (omega (arith, e))
is_read_fault HtmlRefused e = absurd (omega (arith, e))
is_read_fault EditRefused e = absurd (omega (arith, e))
is_read_fault ReadFault e = refl
is_read_fault FolderFault e = absurd (omega (arith, e))
is_read_fault WriteFault e = absurd (omega (arith, e))
is_read_fault NoMemory e = absurd (omega (arith, e))

pub is_folder_fault : (s : Status) → code s ≡ code FolderFault → s ≡ FolderFault
is_folder_fault Done e = absurd (omega (arith, e))
is_folder_fault Usage e = absurd (omega (arith, e))
is_folder_fault PageRefused e = absurd (omega (arith, e))
is_folder_fault HtmlRefused e = absurd (omega (arith, e))
is_folder_fault EditRefused e = absurd (omega (arith, e))
is_folder_fault ReadFault e = absurd (omega (arith, e))
is_folder_fault FolderFault e = refl
is_folder_fault WriteFault e = absurd (omega (arith, e))
is_folder_fault NoMemory e = absurd (omega (arith, e))

pub is_edit_refused : (s : Status) → code s ≡ code EditRefused → s ≡ EditRefused
is_edit_refused Done e = absurd (omega (arith, e))
is_edit_refused Usage e = absurd (omega (arith, e))
is_edit_refused PageRefused e = absurd (omega (arith, e))
is_edit_refused HtmlRefused e = absurd (omega (arith, e))
is_edit_refused EditRefused e = refl
is_edit_refused ReadFault e = absurd (omega (arith, e))
is_edit_refused FolderFault e = absurd (omega (arith, e))
is_edit_refused WriteFault e = absurd (omega (arith, e))
is_edit_refused NoMemory e = absurd (omega (arith, e))

pub is_answer : (s : Status) → IsDoneOrRefused (code s) → IsAnswer s
is_answer Done h = tt
is_answer Usage h = tt
is_answer PageRefused h = tt
is_answer HtmlRefused h = tt
is_answer EditRefused h = tt
is_answer ReadFault h = omega (arith, h)
is_answer FolderFault h = omega (arith, h)
is_answer WriteFault h = omega (arith, h)
is_answer NoMemory h = omega (arith, h)

-- ---- statuses of no answer

abbrev pub IsUnansweredBy : Status → Type 0
IsUnansweredBy Done = ⊥
IsUnansweredBy Usage = ⊥
IsUnansweredBy PageRefused = ⊥
IsUnansweredBy HtmlRefused = ⊥
IsUnansweredBy EditRefused = ⊥
IsUnansweredBy ReadFault = ⊤
IsUnansweredBy FolderFault = ⊤
IsUnansweredBy WriteFault = ⊤
IsUnansweredBy NoMemory = ⊤

past : (s : Status) → IsUnansweredBy s → IsFaultOrNoMemory (code s)
past Done h = absurd h
past Usage h = absurd h
past PageRefused h = absurd h
past HtmlRefused h = absurd h
past EditRefused h = absurd h
past ReadFault h = (omega arith, omega arith)
past FolderFault h = (omega arith, omega arith)
past WriteFault h = (omega arith, omega arith)
past NoMemory h = (omega arith, omega arith)

pub unanswered : (s : Status) (ended : ℕ) → ended ≡ code s → IsUnansweredBy s → IsFaultOrNoMemory ended
unanswered s ended is h = subst IsFaultOrNoMemory (sym is) (past s h)

-- such a refusal says nothing of an answer
pub no_answer : (a : Answer) (r : Refusal) (s : Status) → IsUnansweredBy s → RefusesAs s r a
no_answer a r Done h = h
no_answer a r Usage h = absurd h
no_answer a r PageRefused h = absurd h
no_answer a r HtmlRefused h = absurd h
no_answer a r EditRefused h = absurd h
no_answer a r ReadFault h = tt
no_answer a r FolderFault h = tt
no_answer a r WriteFault h = tt
no_answer a r NoMemory h = tt

-- where the answer is done, no refusal but a fault or want of memory is found
pub no_refusal : (bytes : List ℕ) (r : Refusal) (s : Status) → RefusesAs s r (done bytes) → IsUnansweredBy s
no_refusal bytes r Done h = h
no_refusal bytes r Usage h = cc
no_refusal bytes r PageRefused h = cc
no_refusal bytes r HtmlRefused h = cc
no_refusal bytes r EditRefused h = cc
no_refusal bytes r ReadFault h = tt
no_refusal bytes r FolderFault h = tt
no_refusal bytes r WriteFault h = tt
no_refusal bytes r NoMemory h = tt

-- ---- causes

-- a refusal that lies with a page is one of what stands under a title
pub of_title : (before after : ℕ) (s : Status) → IsPageStatus s → IsTitleStatus before after s
of_title before after Done h = h
of_title before after Usage h = h
of_title before after PageRefused h = h
of_title before after HtmlRefused h = h
of_title before after EditRefused h = h
of_title before after ReadFault h = h
of_title before after FolderFault h = absurd h
of_title before after WriteFault h = h
of_title before after NoMemory h = h

-- a refusal that lies with the HTML is one of the input
pub of_input : (before after : ℕ) (s : Status) → IsHtmlStatus s → IsInputStatus before after s
of_input before after Done h = h
of_input before after Usage h = h
of_input before after PageRefused h = h
of_input before after HtmlRefused h = h
of_input before after EditRefused h = h
of_input before after ReadFault h = absurd h
of_input before after FolderFault h = h
of_input before after WriteFault h = h
of_input before after NoMemory h = h
